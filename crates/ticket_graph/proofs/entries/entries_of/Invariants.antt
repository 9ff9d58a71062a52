use Rattle.std.proofs.Common.{◌≡◌, take}
use Rattle.std.specs.BTreeSet.{contains}
use Rattle.ticket_graph.specs.declared.entries.Entry.{Entry}
use Rattle.ticket_graph.specs.Entries.{entry_cmp, is_entry}
use Rattle.ticket_graph.proofs.entries.entries_of.Given as goal

abbrev pub invariant-loop-place : goal.invariant-loop-place
invariant-loop-place l = (e : Entry) → contains entry_cmp l.entries e ≡ is_entry (take l.place l.attempts) e
