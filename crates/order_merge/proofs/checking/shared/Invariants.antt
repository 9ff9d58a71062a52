use Rattle.std.proofs.Common.{◌≡◌, ◌++◌, drop}
use Rattle.mdb_base.specs.Names.{same_tid}
use Rattle.mdb_base.specs.Words.{those}
use Rattle.order_laws.specs.Orders.{is_in}
use Rattle.order_merge.proofs.checking.shared.Given as goal

-- those found so far, and those of the members that are left
abbrev pub invariant-loop-tid : goal.invariant-loop-tid
invariant-loop-tid l = l.tids.items ++ those (is_in same_tid l.queue) (drop l.tid-index l.order) ≡ those (is_in same_tid l.queue) l.order
