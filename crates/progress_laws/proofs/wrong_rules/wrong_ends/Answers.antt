use Rattle.progress_laws.proofs.Refuted.{closed_uncommitted}
use Rattle.progress_laws.proofs.wrong_rules.wrong_ends.Goals as goal

pub returns : goal.returns
returns c = closed_uncommitted
