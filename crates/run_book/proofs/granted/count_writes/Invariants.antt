use Rattle.std.proofs.Common.{◌≡◌, take, reverse}
use Rattle.run_book.specs.Tables.{writes_in}
use Rattle.run_book.proofs.granted.count_writes.Given as goal

abbrev pub invariant-loop-access : goal.invariant-loop-access
invariant-loop-access l = l.count ≡ writes_in (reverse (take l.access-index l.accesses))
