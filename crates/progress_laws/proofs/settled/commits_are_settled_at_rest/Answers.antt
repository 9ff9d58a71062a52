use Rattle.progress_laws.proofs.SettledCommits.{commits_settled}
use Rattle.progress_laws.proofs.settled.commits_are_settled_at_rest.Goals as goal

pub returns : goal.returns
returns c = commits_settled c.federation_is_serializable.ensures.all c.commits_agree.ensures
