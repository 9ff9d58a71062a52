use Rattle.std.proofs.Common.{◌≡◌, drop}
use Rattle.mdb_base.specs.Names.{same_tid}
use Rattle.mdb_base.specs.Words.{some_of}
use Rattle.order_laws.specs.Orders.{is_in}
use Rattle.order_merge.proofs.checking.is_named.Given as goal

-- the queues that are left decide
abbrev pub invariant-loop-queue : goal.invariant-loop-queue
invariant-loop-queue l = some_of (λ ts. is_in same_tid ts l.tid) l.queues ≡ some_of (λ ts. is_in same_tid ts l.tid) (drop l.queue-index l.queues)
