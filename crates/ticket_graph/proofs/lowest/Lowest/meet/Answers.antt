use Rattle.std.proofs.Common.{◌++◌, take, ap, subst, arith}
use Rattle.std.proofs.lemmas.List.{take_all}
use Rattle.mdb_base.specs.declared.names.SiteTicket.{SiteTicket}
use Rattle.ticket_graph.specs.Reach.{IsLowest}
use Rattle.ticket_graph.proofs.Meeting.{met_more}
use Rattle.ticket_graph.proofs.lowest.Lowest.meet.Goals as goal

pub loop-ticket-preserved : goal.loop-ticket-preserved
loop-ticket-preserved c =
    let ks = c.args.tickets.now in
    let i = c.loop-ticket.ticket-index in
    let none : SiteTicket = record { site = record { 0 = 0 }; ticket = 0 } in
    λ met h. met_more c.meet_one.new.self.at met ks i none (omega arith) (c.meet_one.ensures (met ++ take i ks) (c.loop-ticket.invariant met h))

pub returns : goal.returns
returns c =
    let ks = c.args.tickets.now in
    let i = c.loop-ticket.ticket-index in
    λ met h. subst (IsLowest c.loop-ticket.self.at) (ap (λ zs. met ++ zs) (take_all i ks (omega arith))) (c.loop-ticket.invariant met h)
