use Rattle.std.proofs.Common.{◌≡◌, ◌||◌, ◌&&◌, ◌==◌, take}
use Rattle.std.specs.BTreeSet.{contains}
use Rattle.mdb_base.specs.Words.{some_of}
use Rattle.ticket_graph.specs.declared.entries.Entry.{Entry}
use Rattle.ticket_graph.specs.Entries.{entry_cmp, is_ticket}
use Rattle.ticket_graph.proofs.entries.add_entries.Given as goal

abbrev pub invariant-loop-ticket : goal.invariant-loop-ticket
invariant-loop-ticket l =
    (e : Entry) → contains entry_cmp l.entries e ≡ (contains entry_cmp l.fn.entries e || ((e.attempt == l.place) && some_of (is_ticket e) (take l.ticket-index l.tickets)))
