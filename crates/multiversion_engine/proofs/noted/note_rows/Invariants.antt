use Rattle.std.proofs.Common.{◌≡◌, drop}
use Rattle.multiversion_engine.specs.Noted.{with_rows}
use Rattle.multiversion_engine.proofs.noted.note_rows.Given as goal

abbrev pub invariant-loop-row : goal.invariant-loop-row
invariant-loop-row l = with_rows l.book.book (drop l.row-index l.rows) l.olds ≡ with_rows l.book.book l.rows l.initial.olds
