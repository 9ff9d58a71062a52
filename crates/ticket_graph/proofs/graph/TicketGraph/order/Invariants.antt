use Rattle.std.proofs.Common.{◌≡◌, take}
use Rattle.ticket_graph.specs.Graph.{tids_of}
use Rattle.ticket_graph.proofs.graph.TicketGraph.order.Given as goal

abbrev pub invariant-loop-attempt : goal.invariant-loop-attempt
invariant-loop-attempt l = l.order.items ≡ tids_of (take l.attempt-index l.self.kept)
