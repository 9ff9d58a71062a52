use Rattle.site_history.proofs.MadeSorted.{events_sorted}
use Rattle.site_history.proofs.stories.events_are_sorted.Goals as goal

pub returns : goal.returns
returns c = events_sorted
