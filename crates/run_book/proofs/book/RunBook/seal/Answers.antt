use Rattle.std.proofs.Common.{◌≡◌, ℕ, ◌+◌, ◌<◌, max, Some, None, IfSome, Option, List, sym, ap, ◌∙◌, arith, rules}
use Rattle.std.specs.FinMap.{from_entries}
use Rattle.std.proofs.lemmas.Bool.{cond-true, cond-false, lt-ltb, le-ltb}
use Rattle.mdb_base.specs.declared.names.Tid.{Tid}
use Rattle.mdb_base.specs.Words.{or_else, map_some}
use Rattle.run_book.specs.declared.counters.Counters.{Counters}
use Rattle.run_book.specs.Held.{Held, held_in, changed_in}
use Rattle.mdb_base.specs.Names.{tid_cmp}
use Rattle.run_book.specs.Book.{RoomyBook, sealed_with}
use Rattle.run_book.specs.Named.{by_tid}
use Rattle.run_book.proofs.BookLemmas.{seals-made}
use Rattle.run_book.proofs.InOrder.{of_found, of_ticket, order_changed, held_less, holds_none, untaken}
use Rattle.run_book.proofs.Promises.{live-promises}
use Rattle.run_book.proofs.RunMaps.{entries_changed}
use Rattle.run_book.proofs.book.RunBook.seal.Goals as goal

pub invariant_of-self-in-Some : goal.invariant_of-self-in-Some
invariant_of-self-in-Some c =
    let held = c.run-run.result.now in
    let live = of_found (λ h. h.run.sealed ≡ None) _ held c.run-run.ensures c.requires.live in
    let at = ap (λ (r : RoomyBook). held_in r.book.runs c.args.tid) c.self.view_is ∙ c.run-run.ensures in
    let sum : c.in_ok-promised.promised ≡ c.self.inside.promised + c.count_writes.result = search rules in
    order_changed (by_tid c.self.inside.runs.entries) _ c.self.inside.promised _ c.self.inside.tables.spare _ c.self.inside.ticket _ c.args.tid (sealed_with c.args.number c.counters-counters.result) held c.self.invariant at c.seal.ensures
    (omega (arith, sum, live-promises held live, c.count_writes.ensures)) c.in_ok-reserve.ensures.room
    (λ u. c.publish.ensures.holders u ∙ held_less c.args.tid u _)

pub invariant_of-self-in_default : goal.invariant_of-self-in_default
invariant_of-self-in_default c =
    let held = c.run-run.result.now in
    let live = of_found (λ h. h.run.sealed ≡ None) _ held c.run-run.ensures c.requires.live in
    let at = ap (λ (r : RoomyBook). held_in r.book.runs c.args.tid) c.self.view_is ∙ c.run-run.ensures in
    let sum : c.in_ok-promised.promised ≡ c.self.inside.promised + c.count_writes.result = search rules in
    order_changed (by_tid c.self.inside.runs.entries) _ c.self.inside.promised _ c.self.inside.tables.spare _ c.self.inside.ticket _ c.args.tid (sealed_with c.args.number c.counters-counters.result) held c.self.invariant at c.seal.ensures
    (omega (arith, sum, live-promises held live, c.count_writes.ensures)) c.in_ok-reserve.ensures.room
    (holds_none (by_tid c.self.inside.runs.entries) c.self.inside.promised c.self.inside.tables.spare c.self.inside.ticket c.args.tid held c.self.invariant at (untaken held (sym c.ticket-ticket.ensures ∙ c.in_default.is)))

pub returns-in-Some-clause-sealed : goal.returns-in-Some-clause-sealed
returns-in-Some-clause-sealed c =
    let book = c.args.self.now.book in
    let held = c.run-run.result.now in
    let marked = c.counters-counters.ensures ∙ ap (λ (r : RoomyBook). r.book.counters) c.self.view_is in
    let change = sealed_with c.args.number c.counters-counters.result in
    let taken : held.run.ticket ≡ Some c.in-Some.ticket = sym c.ticket-ticket.ensures ∙ c.in-Some.is in
    let next = of_ticket _ c.in-Some.ticket _ taken (of_found (λ h. IfSome h.run.ticket (λ t. t ≡ book.counters.published + 1)) _ held c.run-run.ensures c.requires.next) in
    let above : book.counters.published < c.in-Some.ticket = omega (arith, next) in
    let greatest : c.in-Some.ticket ≡ max c.in-Some.ticket book.counters.published = omega (arith, next) in
    seals-made book _ _ c.args.tid c.args.number _ _ c.in-Some.ticket _
    (c.in_ok-reserve.ensures.same ∙ ap (λ (r : RoomyBook). r.book.versions) c.self.view_is)
    (ap (λ (es : List (Tid × Held)). from_entries {R = tid_cmp} es) c.seal.ensures ∙ (entries_changed (by_tid c.self.inside.runs.entries) c.args.tid change
    ∙ (ap (λ (r : RoomyBook). changed_in c.args.tid change r.book.runs) c.self.view_is ∙ ap (λ (m : Counters). changed_in c.args.tid (sealed_with c.args.number m) book.runs) marked)))
    (ap (λ (o : Option Held). or_else (map_some (λ h. or_else h.run.ticket 0) o) 0) c.run-run.ensures ∙ ap (λ (o : Option ℕ). or_else o 0) taken)
    (c.max-self-inside.ensures ∙ ap (λ (m : Counters). max c.args.number m.counter) marked)
    (c.publish.ensures.published ∙ greatest)
    (c.publish.ensures.owner ∙ sym (cond-true _ _ _ (lt-ltb book.counters.published c.in-Some.ticket above)))

pub returns-in_default-clause-sealed : goal.returns-in_default-clause-sealed
returns-in_default-clause-sealed c =
    let book = c.args.self.now.book in
    let held = c.run-run.result.now in
    let marked = c.counters-counters.ensures ∙ ap (λ (r : RoomyBook). r.book.counters) c.self.view_is in
    let change = sealed_with c.args.number c.counters-counters.result in
    let none : held.run.ticket ≡ None = sym c.ticket-ticket.ensures ∙ c.in_default.is in
    let same : book.counters.published ≡ max 0 book.counters.published = omega arith in
    seals-made book _ _ c.args.tid c.args.number _ _ 0 _
    (c.in_ok-reserve.ensures.same ∙ ap (λ (r : RoomyBook). r.book.versions) c.self.view_is)
    (ap (λ (es : List (Tid × Held)). from_entries {R = tid_cmp} es) c.seal.ensures ∙ (entries_changed (by_tid c.self.inside.runs.entries) c.args.tid change
    ∙ (ap (λ (r : RoomyBook). changed_in c.args.tid change r.book.runs) c.self.view_is ∙ ap (λ (m : Counters). changed_in c.args.tid (sealed_with c.args.number m) book.runs) marked)))
    (ap (λ (o : Option Held). or_else (map_some (λ h. or_else h.run.ticket 0) o) 0) c.run-run.ensures ∙ ap (λ (o : Option ℕ). or_else o 0) none)
    (c.max-self-inside.ensures ∙ ap (λ (m : Counters). max c.args.number m.counter) marked)
    (ap (λ (r : RoomyBook). r.book.counters.published) c.self.view_is ∙ same)
    (ap (λ (r : RoomyBook). r.book.counters.owner) c.self.view_is ∙ sym (cond-false _ _ _ (le-ltb book.counters.published 0 (omega arith))))
