use Rattle.std.proofs.Common.{◌≡◌, ◌++◌, ◌+◌, ◌-◌, ◌≤◌, drop, length}
use Rattle.std.specs.VecDeque.{deque_len, deque_capacity}
use Rattle.scripted_link.specs.Script.{due}
use Rattle.scripted_link.proofs.steps.queue_due.Given as goal

-- what is left of the script is still to come, and there is room for it
abbrev pub invariant-loop-named : goal.invariant-loop-named
invariant-loop-named l = record {
  items : l.queued.items ++ due (drop l.named-index l.script) l.offered ≡ l.initial.queued.items ++ due l.script l.offered;
  room : deque_len l.queued + (length l.script - l.named-index) ≤ deque_capacity l.queued;
  capacity : deque_capacity l.queued ≡ deque_capacity l.initial.queued;
}
