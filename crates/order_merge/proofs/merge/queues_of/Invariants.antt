use Rattle.std.proofs.Common.{◌≡◌, take}
use Rattle.order_merge.proofs.merge.queues_of.Given as goal

abbrev pub invariant-loop-order : goal.invariant-loop-order
invariant-loop-order l = l.queues.items ≡ take l.order-index l.orders
