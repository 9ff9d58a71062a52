use Rattle.std.proofs.Common.{◌≡◌, take}
use Rattle.std.specs.BTreeSet.{contains}
use Rattle.mdb_base.specs.declared.names.Tid.{Tid}
use Rattle.mdb_base.specs.Names.{same_tid, tid_cmp}
use Rattle.order_laws.specs.Orders.{is_in}
use Rattle.order_merge.proofs.queue.Queue.of.Given as goal

abbrev pub invariant-loop-tid : goal.invariant-loop-tid
invariant-loop-tid l = record {
  taken : l.left.items ≡ take l.tid-index l.tid-items;
  members : (t : Tid) → contains tid_cmp l.members t ≡ is_in same_tid l.left.items t;
}
