use Rattle.order_merge.proofs.Best.{IsBest, seen}
use Rattle.order_merge.proofs.merge.next_free.Given as goal

abbrev pub invariant-loop-queue : goal.invariant-loop-queue
invariant-loop-queue l = IsBest (seen l.queues l.queue-index) l.least
