use Rattle.std.proofs.Common.{arith}
use Rattle.std.specs.BTreeSet.{contains}
use Rattle.ticket_graph.specs.Entries.{entry_cmp}
use Rattle.ticket_graph.proofs.EntryLemmas.{one_ticket}
use Rattle.ticket_graph.proofs.entries.add_entries.Goals as goal

pub loop-ticket-preserved : goal.loop-ticket-preserved
loop-ticket-preserved c = λ e.
    one_ticket c.args.tickets.now c.loop-ticket.ticket-index c.args.place (record { site = record { 0 = 0 }; ticket = 0 }) e
    (contains entry_cmp c.insert.new.self e) (contains entry_cmp c.loop-ticket.entries e) (contains entry_cmp c.args.entries.now e)
    (omega arith) (c.in_ok-insert.ensures.updates.0 e) (c.loop-ticket.invariant e)
