use Rattle.std.proofs.Common.{length}
use Rattle.ticket_graph.proofs.Entering.{IsLeft}
use Rattle.ticket_graph.proofs.cycle_free.are_cycle_free.Given as goal

abbrev pub invariant-loop-left : goal.invariant-loop-left
invariant-loop-left l = IsLeft l.fn.attempts.items l.left.items

abbrev pub decreases-loop-left : goal.decreases-loop-left
decreases-loop-left l = length l.left.items
