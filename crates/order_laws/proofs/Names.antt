use Rattle.std.proofs.Common.{◌≡◌, true, false, arith}
use Rattle.std.proofs.lemmas.Bool.Decides.{nat_tests}
use Rattle.std.specs.Ordering.{is_eq}
use Rattle.mdb_base.specs.declared.names.Tid.{Tid}
use Rattle.mdb_base.specs.Names.{same_tid, tid_before, tid_cmp}
use Rattle.mdb_base.proofs.ForCallers.{before_onward, same_tid-equal, same_tid-refl}
use Rattle.order_laws.specs.Orders.{TellsApart, Ranks}

-- attempts are told apart by their numbers
pub tells_tids : TellsApart same_tid
tells_tids = record { self = same_tid-refl; alike = same_tid-equal }

one_way : (a b : Tid) → tid_before a b ≡ true → tid_before b a ≡ false
one_way a b e = grind arith

total : (a b : Tid) → tid_before a b ≡ false → tid_before b a ≡ false → a ≡ b
total a b e f = grind arith

-- attempts are ranked by transaction and then by attempt
pub ranks_tids : Ranks tid_before
ranks_tids = record { one_way = one_way; onward = before_onward; total = total }

-- attempts are compared as equal exactly where they are the same
pub is_eq-tid_cmp : (a b : Tid) → is_eq (tid_cmp a b) ≡ same_tid b a
is_eq-tid_cmp a b = grind (arith, nat_tests)
