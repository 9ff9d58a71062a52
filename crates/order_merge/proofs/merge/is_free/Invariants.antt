use Rattle.std.proofs.Common.{◌≡◌, not, drop}
use Rattle.mdb_base.specs.Names.{same_tid}
use Rattle.mdb_base.specs.Words.{each_of}
use Rattle.order_laws.specs.Orders.{is_in}
use Rattle.order_laws.specs.Least.{is_free, rest}
use Rattle.order_merge.proofs.merge.is_free.Given as goal

-- the queues that are left decide
abbrev pub invariant-loop-queue : goal.invariant-loop-queue
invariant-loop-queue l = is_free same_tid l.queues l.tid ≡ each_of (λ ts. not (is_in same_tid (rest ts) l.tid)) (drop l.queue-index l.queues)
