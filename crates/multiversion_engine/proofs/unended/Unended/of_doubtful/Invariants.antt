use Rattle.std.proofs.Common.{◌≡◌, drop}
use Rattle.std.specs.FinMap.{empty}
use Rattle.run_book.specs.Takers.{restored_takers}
use Rattle.multiversion_engine.proofs.unended.Unended.of_doubtful.Given as goal

abbrev pub invariant-loop-kept : goal.invariant-loop-kept
invariant-loop-kept l = restored_takers (drop l.kept-index l.doubtful) l.runs ≡ restored_takers l.doubtful empty
