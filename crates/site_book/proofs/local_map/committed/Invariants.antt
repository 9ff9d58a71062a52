use Rattle.std.proofs.Common.{◌≡◌, drop}
use Rattle.std.specs.FinMap.{empty}
use Rattle.site_book.specs.Book.{with_committed}
use Rattle.site_book.specs.Numbered.{by_number}
use Rattle.site_book.proofs.local_map.committed.Given as goal

abbrev pub invariant-loop-tid : goal.invariant-loop-tid
invariant-loop-tid l = with_committed (drop l.tid-index l.committed) (by_number l.locals.items) ≡ with_committed l.committed empty
