use Rattle.std.proofs.Common.{◌≡◌, drop}
use Rattle.std.specs.FinMap.{empty}
use Rattle.multiversion_engine.specs.Noted.{with_written}
use Rattle.multiversion_engine.proofs.noted.noted_of.Given as goal

abbrev pub invariant-loop-kept : goal.invariant-loop-kept
invariant-loop-kept l = with_written l.book.book (drop l.kept-index l.doubtful) l.olds ≡ with_written l.book.book l.doubtful empty
