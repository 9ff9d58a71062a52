use Rattle.std.proofs.Common.{◌≡◌, true, false, is_some, List, sym, ap, ◌∙◌}
use Rattle.mdb_base.specs.declared.names.SiteTicket.{SiteTicket}
use Rattle.ticket_graph.proofs.EdgeSites.{first_site}
use Rattle.ticket_graph.proofs.Leading.{leads_to, leads_past, leads_there, site_before}
use Rattle.ticket_graph.proofs.added.leads_on.Goals as goal

pub returns-then-is_some : goal.returns-then-is_some
returns-then-is_some c =
    let ts = c.args.tickets.now in
    let a = c.attempt-item.result in
    let found = c.edge_site.ensures in
    let some = c.is_some.ensures in
    let items = c.tickets.ensures.items in
    let is = c.if-is_some.true in
    let leads : leads_to ts a ≡ true = sym (site_before ts a.tickets) ∙ (ap (λ (ks : List SiteTicket). is_some (first_site ts ks)) (sym items) ∙ (ap is_some (sym found) ∙ (sym some ∙ is))) in
    sym (c.loop-attempt.invariant ∙ leads_there ts c.args.attempts.now c.loop-attempt.attempt-index a c.loop-attempt-test.true c.attempt-item.is leads)

pub loop-attempt-preserved : goal.loop-attempt-preserved
loop-attempt-preserved c =
    let ts = c.args.tickets.now in
    let a = c.attempt-item.result in
    let found = c.edge_site.ensures in
    let some = c.is_some.ensures in
    let items = c.tickets.ensures.items in
    let is = c.if-is_some.false in
    let past : leads_to ts a ≡ false = sym (site_before ts a.tickets) ∙ (ap (λ (ks : List SiteTicket). is_some (first_site ts ks)) (sym items) ∙ (ap is_some (sym found) ∙ (sym some ∙ is))) in
    c.loop-attempt.invariant ∙ leads_past ts c.args.attempts.now c.loop-attempt.attempt-index a c.loop-attempt-test.true c.attempt-item.is past
