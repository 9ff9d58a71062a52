use Rattle.std.proofs.Common.{◌≡◌, drop}
use Rattle.std.specs.FinMap.{empty}
use Rattle.validation_engine.specs.Index.{with_restored}
use Rattle.validation_engine.proofs.index.writers_in_doubt.Given as goal

abbrev pub invariant-loop-kept : goal.invariant-loop-kept
invariant-loop-kept l = with_restored (drop l.kept-index l.doubtful) l.index ≡ with_restored l.doubtful empty
