use Rattle.std.proofs.Common.{◌≡◌, None, List, ap, ◌∙◌}
use Rattle.std.specs.FinMap.{from_entries}
use Rattle.std.proofs.lemmas.Result.{on_ok_weaker}
use Rattle.mdb_base.specs.declared.names.Tid.{Tid}
use Rattle.run_book.specs.Held.{Held, Runs, held_in}
use Rattle.mdb_base.specs.Names.{tid_cmp}
use Rattle.run_book.specs.Book.{RoomyBook, granted_to, grants}
use Rattle.run_book.specs.Named.{by_tid}
use Rattle.run_book.proofs.BookLemmas.{book_of}
use Rattle.run_book.proofs.InOrder.{some_held, of_found, order_granted}
use Rattle.run_book.proofs.RunMaps.{entries_changed}
use Rattle.run_book.proofs.book.RunBook.grant.Goals as goal

pub invariant_of-self : goal.invariant_of-self
invariant_of-self c =
    let (held, found) = some_held _ c.requires.held in
    let live = of_found (λ h. h.run.sealed ≡ None) _ held found c.requires.live in
    let at = ap (λ (r : RoomyBook). held_in r.book.runs c.args.tid) c.self.view_is ∙ found in
    order_granted c.grant.result _ _ _ _ _ c.args.tid c.args.access held c.self.invariant at live c.grant.ensures.granted c.grant.ensures.memory

pub returns-clause-granted : goal.returns-clause-granted
returns-clause-granted c =
    on_ok_weaker c.grant.result
    (λ is. ap (λ (rs : Runs). book_of c.self.inside.tables.versions rs c.self.inside.counter c.self.inside.ticket.published c.self.inside.ticket.owner)
    (ap (λ (es : List (Tid × Held)). from_entries {R = tid_cmp} es) is ∙ entries_changed (by_tid c.self.inside.runs.entries) c.args.tid (granted_to c.args.access))
    ∙ ap (λ (r : RoomyBook). grants c.args.tid c.args.access r.book) c.self.view_is)
    c.grant.ensures.granted
