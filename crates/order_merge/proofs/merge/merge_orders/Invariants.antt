use Rattle.std.proofs.Common.{length}
use Rattle.order_laws.specs.Least.{all_items}
use Rattle.order_merge.proofs.Steps.{IsMerging}
use Rattle.order_merge.proofs.merge.merge_orders.Given as goal

abbrev pub invariant-loop-tid : goal.invariant-loop-tid
invariant-loop-tid l = IsMerging l.orders l.queues.items l.merged.items

abbrev pub decreases-loop-tid : goal.decreases-loop-tid
decreases-loop-tid l = length (all_items l.queues.items)
