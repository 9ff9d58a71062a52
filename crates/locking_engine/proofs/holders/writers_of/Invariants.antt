use Rattle.std.proofs.Common.{◌≡◌, drop}
use Rattle.std.specs.FinMap.{empty}
use Rattle.locking_engine.specs.Holders.{with_restored}
use Rattle.locking_engine.proofs.holders.writers_of.Given as goal

abbrev pub invariant-loop-kept : goal.invariant-loop-kept
invariant-loop-kept l = with_restored (drop l.kept-index l.doubtful) l.holders ≡ with_restored l.doubtful empty
