use Rattle.std.proofs.Common.{take, map}
use Rattle.order_laws.specs.Tickets.{Ticketed}
use Rattle.ticket_graph.specs.Reach.{joined, IsLowest}
use Rattle.ticket_graph.proofs.cycle_free.lowest_of.Given as goal

-- the first ones were met
abbrev pub invariant-loop-attempt : goal.invariant-loop-attempt
invariant-loop-attempt l = IsLowest l.lowest.at (joined (take l.attempt-index (map (λ (a : Ticketed). a.tickets) l.attempts)))
