use Rattle.std.proofs.Common.{arith}
use Rattle.std.proofs.lemmas.Grind.{common_steps}
use Rattle.std.specs.BTreeSet.{contains}
use Rattle.mdb_base.specs.Names.{tid_cmp}
use Rattle.order_merge.proofs.Queues.{inserted}
use Rattle.order_merge.proofs.queue.Queue.of.Goals as goal

pub loop-tid-preserved : goal.loop-tid-preserved
loop-tid-preserved c = record {
  taken = grind (arith, common_steps);
  members = λ t. rw c.in_ok-push_back.ensures.items (inserted _ t (contains tid_cmp c.loop-tid.members t) _ c.loop-tid.left.items (c.loop-tid.invariant.members t) (c.in_ok-insert.ensures.updates.0 t));
}
