use Rattle.std.proofs.Common.{◌≡◌, ◌+◌, [], ◌∷◌, ◌++◌, take, get_or, arith}
use Rattle.std.proofs.lemmas.List.{take_more}
use Rattle.mdb_base.specs.declared.names.SiteTicket.{SiteTicket}
use Rattle.ticket_graph.proofs.StepLemmas.{follows_more, done_more}
use Rattle.ticket_graph.proofs.search.Search.follow.Goals as goal

pub loop-ticket-preserved : goal.loop-ticket-preserved
loop-ticket-preserved c =
    let tickets = c.args.tickets.now in
    let i = c.loop-ticket.ticket-index in
    let none : SiteTicket = record { site = record { 0 = 0 }; ticket = 0 } in
    let ticket = get_or tickets i none in
    let before = c.loop-ticket.self in
    let after = c.follow_ticket.new.self in
    let more : take (i + 1) tickets ≡ take i tickets ++ ticket ∷ [] = take_more tickets i none (omega arith) in
    record {
      follows =
          follows_more c.args.from (take i tickets) (take (i + 1) tickets) ticket c.args.self.now.unmet before.unmet after.unmet
          c.args.self.now.steps.items before.steps.items after.steps.items more c.loop-ticket.invariant.follows c.in_ok-follow_ticket.ensures.follows;
      done =
          done_more (take i tickets) (take (i + 1) tickets) ticket before.unmet after.unmet more c.in_ok-follow_ticket.ensures.follows.others
          c.loop-ticket.invariant.done c.in_ok-follow_ticket.ensures.done;
    }
