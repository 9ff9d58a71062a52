use Rattle.engine_laws.proofs.LockingRuns.{locked}
use Rattle.engine_laws.proofs.locking.locking_has_no_conflicts.Goals as goal

pub returns : goal.returns
returns c = λ start lines by begun right. (locked start lines by begun right).clear
