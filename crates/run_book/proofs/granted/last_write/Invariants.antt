use Rattle.std.proofs.Common.{◌≡◌, take, reverse}
use Rattle.run_book.specs.Held.{own_write}
use Rattle.run_book.proofs.granted.last_write.Given as goal

abbrev pub invariant-loop-access : goal.invariant-loop-access
invariant-loop-access l = l.last ≡ own_write l.key (reverse (take l.access-index l.accesses))
