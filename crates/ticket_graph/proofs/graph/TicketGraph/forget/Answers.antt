use Rattle.std.proofs.Common.{◌≡◌, [], ap, ◌∙◌}
use Rattle.mdb_base.specs.declared.names.SiteId.{SiteId}
use Rattle.ticket_graph.specs.Graph.{Graph, floor_of}
use Rattle.ticket_graph.specs.Reach.{floor_in, highest}
use Rattle.ticket_graph.proofs.Standing.{stands_forgotten}
use Rattle.ticket_graph.proofs.graph.TicketGraph.forget.Goals as goal

pub returns-clause-stands : goal.returns-clause-stands
returns-clause-stands c =
    let new : Graph = record { kept = c.self.inside.attempts.items; floors = c.raise.new.floors } in
    let old = c.args.self.now in
    let none : new.kept ≡ [] = ap (λ (g : Graph). g.kept) c.self.view_is ∙ c.requires in
    let floors : c.self.inside.floors ≡ old.floors = ap (λ (g : Graph). g.floors) c.self.view_is in
    let high : (site : SiteId) → floor_of new site ≡ highest site (floor_of old site) c.args.tickets.now =
    λ site. c.raise.ensures site ∙ (ap (λ ts. highest site (floor_in c.self.inside.floors site) ts) c.as_slice.ensures.items
    ∙ ap (λ fs. highest site (floor_in fs site) c.args.tickets.now) floors) in
    λ all tid st. stands_forgotten all old new (record { tid = tid; tickets = c.args.tickets.now }) none st c.requires high
