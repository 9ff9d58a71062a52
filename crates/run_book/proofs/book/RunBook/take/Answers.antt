use Rattle.std.proofs.Common.{◌≡◌, ℕ, ◌+◌, Bool, ◌||◌, cond, None, List, refl, sym, ap, ◌∙◌}
use Rattle.std.specs.FinMap.{from_entries}
use Rattle.mdb_base.specs.declared.names.Tid.{Tid}
use Rattle.mdb_base.specs.Names.{same_tid, tid_cmp}
use Rattle.ticket_item.specs.Item.{is_among, is_holder}
use Rattle.run_book.specs.Held.{Held, held_in}
use Rattle.run_book.specs.Book.{RoomyBook, with_ticket, tickets}
use Rattle.run_book.specs.Named.{by_tid}
use Rattle.run_book.proofs.BookLemmas.{same_parts}
use Rattle.run_book.proofs.InOrder.{some_held, of_found, order_changed, held_more, live_takes}
use Rattle.run_book.proofs.Promises.{live-promises}
use Rattle.run_book.proofs.RunMaps.{entries_changed}
use Rattle.run_book.proofs.book.RunBook.take.Goals as goal

pub invariant_of-self-2 : goal.invariant_of-self-2
invariant_of-self-2 c =
    let (held, found) = some_held _ c.requires.held in
    let live = of_found (λ h. h.run.sealed ≡ None) _ held found c.requires.live in
    let at = ap (λ (r : RoomyBook). held_in r.book.runs c.args.tid) c.self.view_is ∙ found in
    let change = with_ticket c.hold-ticket.result in
    order_changed (by_tid c.self.inside.runs.entries) _ c.self.inside.promised _ c.self.inside.tables.spare _ c.self.inside.ticket _ c.args.tid change held c.self.invariant at c.hold_ticket.ensures
    (ap (λ (n : ℕ). c.self.inside.promised + n) (live-promises held live ∙ sym (live-promises (change held) live))) c.self.invariant.room
    (λ u. c.hold-ticket.ensures.holders u
    ∙ (ap (λ (tids : List Tid). same_tid u c.args.tid || is_among u tids) c.in_ok-reserve.ensures.holders
    ∙ (held_more c.args.tid u (is_holder c.self.inside.ticket u) ∙ ap (λ (b : Bool). cond (same_tid c.args.tid u) b (is_holder c.self.inside.ticket u)) (sym (live_takes (change held) live refl)))))

pub returns-clause-taken : goal.returns-clause-taken
returns-clause-taken c =
    let reserved = c.in_ok-reserve.ensures in
    let number = c.hold-ticket.ensures.ticket ∙ ap (λ (n : ℕ). n + 1) reserved.published in
    let runs = ap (λ (es : List (Tid × Held)). from_entries {R = tid_cmp} es) c.hold_ticket.ensures ∙ entries_changed (by_tid c.self.inside.runs.entries) c.args.tid (with_ticket c.hold-ticket.result) in
    same_parts _ _ _ _ _ _ _ _ _ _ refl runs refl (c.hold-ticket.ensures.published ∙ reserved.published) (c.hold-ticket.ensures.owner ∙ reserved.owner)
    ∙ (ap (λ (r : RoomyBook). tickets c.args.tid c.hold-ticket.result r.book) c.self.view_is
    ∙ ap (λ (n : ℕ). tickets c.args.tid n c.args.self.now.book) (number ∙ ap (λ (r : RoomyBook). r.book.counters.published + 1) c.self.view_is))
