use Rattle.std.proofs.Common.{take}
use Rattle.ticket_graph.specs.Graph.{AreAbove, floor_of}
use Rattle.coord_tables.proofs.commit_graph.CommitGraph.is_above.Given as goal

-- the first ones are
abbrev pub invariant-loop-ticket : goal.invariant-loop-ticket
invariant-loop-ticket l = AreAbove (floor_of l.self) (take l.ticket-index l.ticket-items)
