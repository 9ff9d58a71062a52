use Rattle.std.proofs.Common.{◌≡◌, ℕ, Bool, true, false, cond, is_some, IsSome, Option, List, sym, ap, ◌∙◌, arith}
use Rattle.std.specs.FinMap.{from_entries}
use Rattle.std.proofs.lemmas.Bool.{cond-true, cond-false}
use Rattle.mdb_base.specs.declared.names.Tid.{Tid}
use Rattle.mdb_base.specs.Names.{same_tid, tid_cmp}
use Rattle.ticket_item.specs.Item.{is_holder}
use Rattle.fed_rules.specs.Runs.{has_ticket}
use Rattle.run_book.specs.declared.counters.Counters.{Counters}
use Rattle.run_book.specs.Held.{Held, held_in, changed_in}
use Rattle.run_book.specs.Book.{RoomyBook, not_sealed}
use Rattle.run_book.specs.Named.{by_tid}
use Rattle.run_book.proofs.BookLemmas.{unseals-made}
use Rattle.run_book.proofs.InOrder.{of_found, order_changed, held_more, holds_none, sealed_takes_none, promise-le}
use Rattle.run_book.proofs.RunMaps.{entries_changed}
use Rattle.run_book.proofs.book.RunBook.unseal.Goals as goal

pub overflow_sub-self : goal.overflow_sub-self
overflow_sub-self c =
    let at = ap (λ (r : RoomyBook). held_in r.book.runs c.args.tid) c.self.view_is ∙ c.run-run.ensures in
    let le = promise-le (by_tid c.self.inside.runs.entries) _ _ _ c.args.tid c.run-run.result.now c.self.invariant at in
    omega (arith, le, c.promised.ensures)

pub invariant_of-self : goal.invariant_of-self
invariant_of-self c =
    let held = c.run-run.result.now in
    let at = ap (λ (r : RoomyBook). held_in r.book.runs c.args.tid) c.self.view_is ∙ c.run-run.ensures in
    let le = promise-le (by_tid c.self.inside.runs.entries) _ _ _ c.args.tid held c.self.invariant at in
    let has : has_ticket held.run ≡ true = ap (λ (o : Option ℕ). is_some o) (sym c.ticket.ensures) ∙ (sym c.is_some-has_ticket.ensures ∙ c.if-has_ticket.true) in
    let fits = c.self.invariant.room in
    order_changed (by_tid c.self.inside.runs.entries) _ c.self.inside.promised _ c.self.inside.tables.spare _ c.self.inside.ticket _ c.args.tid not_sealed held c.self.invariant at c.unseal.ensures
    (omega (arith, le, c.promised.ensures)) (omega (arith, fits))
    (λ u. c.withdraw.ensures.holders u ∙ (held_more c.args.tid u (is_holder c.self.inside.ticket u) ∙ ap (λ (b : Bool). cond (same_tid c.args.tid u) b (is_holder c.self.inside.ticket u)) (sym has)))

pub invariant_of-self-else-has_ticket : goal.invariant_of-self-else-has_ticket
invariant_of-self-else-has_ticket c =
    let held = c.run-run.result.now in
    let at = ap (λ (r : RoomyBook). held_in r.book.runs c.args.tid) c.self.view_is ∙ c.run-run.ensures in
    let le = promise-le (by_tid c.self.inside.runs.entries) _ _ _ c.args.tid held c.self.invariant at in
    let lacks : has_ticket held.run ≡ false = ap (λ (o : Option ℕ). is_some o) (sym c.ticket.ensures) ∙ (sym c.is_some-has_ticket.ensures ∙ c.if-has_ticket.false) in
    let sealed = of_found (λ h. IsSome h.run.sealed) _ held c.run-run.ensures c.requires.sealed in
    let fits = c.self.invariant.room in
    order_changed (by_tid c.self.inside.runs.entries) _ c.self.inside.promised _ c.self.inside.tables.spare _ c.self.inside.ticket _ c.args.tid not_sealed held c.self.invariant at c.unseal.ensures
    (omega (arith, le, c.promised.ensures)) (omega (arith, fits))
    (λ u. holds_none (by_tid c.self.inside.runs.entries) c.self.inside.promised c.self.inside.tables.spare c.self.inside.ticket c.args.tid held c.self.invariant at (sealed_takes_none held sealed) u
    ∙ ap (λ (b : Bool). cond (same_tid c.args.tid u) b (is_holder c.self.inside.ticket u)) (sym lacks))

pub returns-then-has_ticket-clause-book : goal.returns-then-has_ticket-clause-book
returns-then-has_ticket-clause-book c =
    let book = c.args.self.now.book in
    let held = c.run-run.result.now in
    let has : has_ticket held.run ≡ true = ap (λ (o : Option ℕ). is_some o) (sym c.ticket.ensures) ∙ (sym c.is_some-has_ticket.ensures ∙ c.if-has_ticket.true) in
    let counters : ℕ → ℕ → Option Tid → Counters = λ n p o. record { counter = n; published = p; owner = o } in
    unseals-made book _ _ c.args.tid held (counters c.counters-counters.result.counter c.withdraw.new.self.published c.withdraw.new.self.owner) c.run-run.ensures
    (ap (λ (r : RoomyBook). r.book.versions) c.self.view_is)
    (ap (λ (es : List (Tid × Held)). from_entries {R = tid_cmp} es) c.unseal.ensures ∙ (entries_changed (by_tid c.self.inside.runs.entries) c.args.tid not_sealed
    ∙ ap (λ (r : RoomyBook). changed_in c.args.tid not_sealed r.book.runs) c.self.view_is))
    (ap (λ (p : ℕ). counters c.counters-counters.result.counter p c.withdraw.new.self.owner) c.withdraw.ensures.published
    ∙ (ap (λ (o : Option Tid). counters c.counters-counters.result.counter c.counters-counters.result.published o) c.withdraw.ensures.owner
    ∙ (c.counters-counters.ensures ∙ sym (cond-true (has_ticket held.run) held.counters (record book.counters { counter = held.counters.counter }) has))))

pub returns-else-has_ticket-clause-book : goal.returns-else-has_ticket-clause-book
returns-else-has_ticket-clause-book c =
    let book = c.args.self.now.book in
    let held = c.run-run.result.now in
    let lacks : has_ticket held.run ≡ false = ap (λ (o : Option ℕ). is_some o) (sym c.ticket.ensures) ∙ (sym c.is_some-has_ticket.ensures ∙ c.if-has_ticket.false) in
    let counters : ℕ → ℕ → Option Tid → Counters = λ n p o. record { counter = n; published = p; owner = o } in
    unseals-made book _ _ c.args.tid held (counters c.counters-counters.result.counter c.self.inside.ticket.published c.self.inside.ticket.owner) c.run-run.ensures
    (ap (λ (r : RoomyBook). r.book.versions) c.self.view_is)
    (ap (λ (es : List (Tid × Held)). from_entries {R = tid_cmp} es) c.unseal.ensures ∙ (entries_changed (by_tid c.self.inside.runs.entries) c.args.tid not_sealed
    ∙ ap (λ (r : RoomyBook). changed_in c.args.tid not_sealed r.book.runs) c.self.view_is))
    (ap (λ (r : RoomyBook). counters c.counters-counters.result.counter r.book.counters.published r.book.counters.owner) c.self.view_is
    ∙ (ap (λ (m : Counters). counters m.counter book.counters.published book.counters.owner) c.counters-counters.ensures
    ∙ sym (cond-false (has_ticket held.run) held.counters (record book.counters { counter = held.counters.counter }) lacks)))
