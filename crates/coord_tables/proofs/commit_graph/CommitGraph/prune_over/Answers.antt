use Rattle.std.proofs.Common.{sym, subst}
use Rattle.ticket_graph.specs.Graph.{Graph, StandsFor}
use Rattle.coord_tables.proofs.commit_graph.CommitGraph.prune_over.Goals as goal

pub returns-clause-stands : goal.returns-clause-stands
returns-clause-stands c = λ waiting low all st. c.prune_over.ensures.stands waiting low all (subst (λ (g : Graph). StandsFor all g) (sym c.self.view_is) st)
