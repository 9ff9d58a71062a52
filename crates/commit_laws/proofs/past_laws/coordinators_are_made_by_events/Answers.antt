use Rattle.commit_laws.proofs.Links.{story_made}
use Rattle.commit_laws.proofs.past_laws.coordinators_are_made_by_events.Goals as goal

pub returns : goal.returns
returns c = story_made
