use Rattle.sum_laws.proofs.Refuted.{commit_forgotten}
use Rattle.sum_laws.proofs.sums.wrong_reading.Goals as goal

pub returns : goal.returns
returns c = commit_forgotten
