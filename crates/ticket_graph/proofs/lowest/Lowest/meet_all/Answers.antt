use Rattle.std.proofs.Common.{List, ◌++◌, take, ap, subst, arith}
use Rattle.std.proofs.lemmas.List.{take_all}
use Rattle.mdb_base.specs.declared.names.SiteTicket.{SiteTicket}
use Rattle.ticket_graph.specs.Reach.{joined, IsLowest}
use Rattle.ticket_graph.proofs.Meeting.{met_all_more}
use Rattle.ticket_graph.proofs.lowest.Lowest.meet_all.Goals as goal

pub loop-tickets-preserved : goal.loop-tickets-preserved
loop-tickets-preserved c =
    let waiting = c.args.waiting.now in
    let i = c.loop-tickets.tickets-index in
    let ks = c.tickets-item.result in
    λ met h. met_all_more c.meet.new.self.at met waiting i ks ks (omega arith) c.tickets-item.is
    (subst (λ (zs : List SiteTicket). IsLowest c.meet.new.self.at ((met ++ joined (take i waiting)) ++ zs)) c.as_slice.ensures.items
    (c.meet.ensures (met ++ joined (take i waiting)) (c.loop-tickets.invariant met h)))

pub returns : goal.returns
returns c =
    let waiting = c.args.waiting.now in
    let i = c.loop-tickets.tickets-index in
    λ met h. subst (IsLowest c.loop-tickets.self.at) (ap (λ zs. met ++ joined zs) (take_all i waiting (omega arith))) (c.loop-tickets.invariant met h)
