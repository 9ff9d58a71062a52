use Rattle.std.proofs.Common.{◌≡◌, ◌==◌, ◌&&◌, ◌||◌, List, sym, subst, arith}
use Rattle.std.specs.BTreeSet.{contains}
use Rattle.mdb_base.specs.declared.names.SiteTicket.{SiteTicket}
use Rattle.mdb_base.specs.Words.{some_of}
use Rattle.ticket_graph.specs.Entries.{entry_cmp, is_ticket}
use Rattle.ticket_graph.proofs.EntryLemmas.{one_attempt}
use Rattle.ticket_graph.proofs.entries.entries_of.Goals as goal

pub loop-place-preserved : goal.loop-place-preserved
loop-place-preserved c = λ e.
    let i = c.loop-place.place in
    let old = contains entry_cmp c.loop-place.entries e in
    let new = contains entry_cmp c.add_entries.new.entries e in
    one_attempt c.args.attempts.now i c.index-attempts-place.result e new old (omega arith) (sym c.index-attempts-place.is)
    (subst (λ (ts : List SiteTicket). new ≡ (old || ((e.attempt == i) && some_of (is_ticket e) ts))) c.tickets.ensures.items (c.in_ok-add_entries.ensures e))
    (c.loop-place.invariant e)
