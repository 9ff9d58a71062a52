use Rattle.ticket_graph.proofs.TrailLemmas.{IsGoingBack, steps_left}
use Rattle.ticket_graph.proofs.find.cycle_of.Given as goal

abbrev pub invariant-loop-place : goal.invariant-loop-place
invariant-loop-place l = IsGoingBack l.attempts l.added l.steps l.place l.to l.site l.edges.items

abbrev pub decreases-loop-place : goal.decreases-loop-place
decreases-loop-place l = steps_left l.place
