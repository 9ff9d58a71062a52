use Rattle.std.proofs.Common.{◌≡◌, ℕ, ◌≤◌, List, get_or, subst, ap, ◌∙◌}
use Rattle.std.proofs.lemmas.List.{take_all}
use Rattle.mdb_base.specs.declared.names.SiteTicket.{SiteTicket}
use Rattle.ticket_graph.specs.Graph.{AreAbove, Graph, floor_of}
use Rattle.coord_tables.proofs.Graphs.{each_next}
use Rattle.coord_tables.proofs.commit_graph.CommitGraph.is_above.Goals as goal

pub loop-ticket-preserved : goal.loop-ticket-preserved
loop-ticket-preserved c =
    let ks = c.as_slice-ticket-items.result.now in
    let i = c.loop-ticket.ticket-index in
    let none : SiteTicket = record { site = record { 0 = 0 }; ticket = 0 } in
    let k = get_or ks i none in
    let floor : c.floor.result ≡ floor_of c.args.self.now k.site = c.floor.ensures ∙ ap (λ (g : Graph). floor_of g k.site) c.self.view_is in
    each_next (λ (q : SiteTicket). floor_of c.args.self.now q.site ≤ q.ticket) ks i none c.loop-ticket-test.true c.loop-ticket.invariant (subst (λ (n : ℕ). n ≤ k.ticket) floor c.if-ticket-floor.false)

pub returns : goal.returns
returns c = λ e.
    subst (λ (ks : List SiteTicket). AreAbove (floor_of c.args.self.now) ks) (take_all c.loop-ticket.ticket-index c.as_slice-ticket-items.result.now c.loop-ticket-test.false ∙ c.as_slice-ticket-items.ensures.items) c.loop-ticket.invariant
