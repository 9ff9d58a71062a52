use Rattle.std.proofs.Common.{true, sym, ap, subst, ◌∙◌}
use Rattle.fed_rules.specs.CoordPast.{records}
use Rattle.fed_rules.specs.CoordRecords.{commits}
use Rattle.ticket_graph.specs.Graph.{AreHeld, Graph, StandsFor}
use Rattle.coord_tables.specs.Waiting.{waiting}
use Rattle.coord_core.proofs.Still.{serves_up}
use Rattle.coord_tables.proofs.ForCallers.{nothing_kept}
use Rattle.coord_core.proofs.coord.CoordCore.graph.Goals as goal

pub returns-clause-stands : goal.returns-clause-stands
returns-clause-stands g c = λ terms past h up.
    subst (λ (one : Graph). StandsFor (commits (records past)) one) (sym c.graph.ensures.graph) (serves_up g.P.TakePolicy.policy true c.args.self.now terms past h up).graph

pub returns-clause-held : goal.returns-clause-held
returns-clause-held g c = λ terms past h up.
    subst (λ (one : Graph). AreHeld (waiting past) one) (sym c.graph.ensures.graph) (serves_up g.P.TakePolicy.policy true c.args.self.now terms past h up).pruned

pub returns-clause-empty : goal.returns-clause-empty
returns-clause-empty g c = λ terms past h up none.
    let graph = c.args.self.now.tables.graph in
    let empty = nothing_kept (waiting past) graph.kept none c.graph.ensures.forwards (serves_up g.P.TakePolicy.policy true c.args.self.now terms past h up).pruned in
    ap (λ (one : Graph). one.kept) c.graph.ensures.graph ∙ empty
