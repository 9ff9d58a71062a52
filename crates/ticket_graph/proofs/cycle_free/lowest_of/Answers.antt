use Rattle.std.proofs.Common.{◌++◌, [], List, map, take, ap, sym, ◌∙◌, subst, arith}
use Rattle.std.proofs.lemmas.List.{length-map, take_all}
use Rattle.mdb_base.specs.declared.names.SiteTicket.{SiteTicket}
use Rattle.order_laws.specs.Tickets.{Ticketed}
use Rattle.ticket_graph.specs.Reach.{joined, IsLowest}
use Rattle.ticket_graph.proofs.Entering.{tickets_at}
use Rattle.ticket_graph.proofs.Meeting.{met_all_more}
use Rattle.ticket_graph.proofs.cycle_free.lowest_of.Goals as goal

pub loop-attempt-preserved : goal.loop-attempt-preserved
loop-attempt-preserved c =
    let ns = c.args.attempts.now in
    let waiting = map (λ (a : Ticketed). a.tickets) ns in
    let i = c.loop-attempt.attempt-index in
    let x = c.attempt-item.result in
    met_all_more c.meet.new.self.at [] waiting i x.tickets x.tickets (omega (arith, length-map ns (λ (a : Ticketed). a.tickets))) (ap (λ (a : Ticketed). a.tickets) c.attempt-item.is ∙ sym (tickets_at ns i x))
    (subst (λ (zs : List SiteTicket). IsLowest c.meet.new.self.at (joined (take i waiting) ++ zs)) c.tickets.ensures.items
    (c.meet.ensures (joined (take i waiting)) c.loop-attempt.invariant))

pub returns : goal.returns
returns c =
    let ns = c.args.attempts.now in
    let waiting = map (λ (a : Ticketed). a.tickets) ns in
    let i = c.loop-attempt.attempt-index in
    subst (IsLowest c.loop-attempt.lowest.at) (ap joined (take_all i waiting (omega (arith, length-map ns (λ (a : Ticketed). a.tickets))))) c.loop-attempt.invariant
