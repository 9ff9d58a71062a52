use Rattle.std.proofs.Common.{◌≡◌, take, drop, map, ◌++◌}
use Rattle.mdb_base.specs.Names.{same_tid}
use Rattle.order_laws.specs.Least.{without}
use Rattle.order_merge.proofs.merge.take_out.Given as goal

-- the attempt is out of the first queues, and the others are as they were
abbrev pub invariant-loop-queue : goal.invariant-loop-queue
invariant-loop-queue l = l.queues ≡ map (without same_tid l.tid) (take l.queue-index l.initial.queues) ++ drop l.queue-index l.initial.queues
