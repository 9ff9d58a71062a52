use Rattle.std.proofs.Common.{◌≡◌, ◌≤◌}
use Rattle.std.specs.VecDeque.{deque_len, deque_capacity}
use Rattle.rtrb.specs.Ring.{sent, known_free}
use Rattle.scripted_link.specs.Rings.{pushed_ring}
use Rattle.scripted_link.proofs.Queues.{IsMoving}
use Rattle.scripted_link.proofs.steps.move_all.Given as goal

abbrev pub invariant-loop-packet : goal.invariant-loop-packet
invariant-loop-packet l = record {
  moving : IsMoving (sent l.initial.producer) l.initial.queued.items (sent l.producer) l.queued.items (known_free l.initial.producer) (known_free l.producer);
  ring : pushed_ring l.producer ≡ pushed_ring l.initial.producer;
  len : deque_len l.queued ≤ deque_len l.initial.queued;
  capacity : deque_capacity l.queued ≡ deque_capacity l.initial.queued;
}

abbrev pub decreases-loop-packet : goal.decreases-loop-packet
decreases-loop-packet l = deque_len l.queued
