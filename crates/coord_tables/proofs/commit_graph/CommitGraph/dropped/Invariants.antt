use Rattle.std.proofs.Common.{◌≡◌, [], map, take}
use Rattle.ticket_graph.specs.Graph.{StandsFor}
use Rattle.coord_tables.specs.Starting.{ticketed_by}
use Rattle.coord_tables.proofs.commit_graph.CommitGraph.dropped.Given as goal

-- the first ones are dropped
abbrev pub invariant-loop-attempt : goal.invariant-loop-attempt
invariant-loop-attempt l = (l.graph.kept ≡ []) × StandsFor (map ticketed_by (take l.attempt-index l.attempt-items)) l.graph
