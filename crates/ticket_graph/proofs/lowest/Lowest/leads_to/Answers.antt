use Rattle.std.proofs.Common.{sym, ◌∙◌, arith}
use Rattle.mdb_base.specs.declared.names.SiteTicket.{SiteTicket}
use Rattle.ticket_graph.proofs.Meeting.{led_on}
use Rattle.ticket_graph.proofs.lowest.Lowest.leads_to.Goals as goal

pub loop-ticket-preserved : goal.loop-ticket-preserved
loop-ticket-preserved c =
    let ks = c.args.tickets.now in
    let i = c.loop-ticket.ticket-index in
    let none : SiteTicket = record { site = record { 0 = 0 }; ticket = 0 } in
    λ met h. c.loop-ticket.invariant met h ∙ led_on met ks i none (omega arith) (sym (c.is_under.ensures met h) ∙ c.if-is_under.false)
