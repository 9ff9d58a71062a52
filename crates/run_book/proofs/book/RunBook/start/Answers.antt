use Rattle.std.proofs.Common.{◌∙◌, refl}
use Rattle.run_book.specs.Named.{by_tid}
use Rattle.run_book.proofs.BookLemmas.{same_parts}
use Rattle.run_book.proofs.InOrder.{order_restored}
use Rattle.run_book.proofs.Kept.{versions-first}
use Rattle.run_book.proofs.book.RunBook.start.Goals as goal

pub invariant_of-result : goal.invariant_of-result
invariant_of-result c =
    order_restored (by_tid c.in_ok-runs.runs.entries) c.in_ok-promised.promised c.reserve.new.self.spare c.in_ok-ticket.ticket c.args.counters c.args.doubtful.now c.in_ok-runs.ensures c.in_ok-promised.ensures
    c.in_ok-reserve.ensures.room c.in_ok-ticket.ensures.holders

pub returns-clause-book : goal.returns-clause-book
returns-clause-book c =
    same_parts _ _ _ _ _ _ _ _ _ _ (c.in_ok-reserve.ensures.same ∙ versions-first c.args.rows.now _ c.in_ok-tables.ensures.written) c.in_ok-runs.ensures refl c.in_ok-ticket.ensures.published c.in_ok-ticket.ensures.owner
