-- The table and the rows of a book are those after the lines.
use Rattle.std.proofs.Common.{◌≡◌, List, sym, ap, ◌∙◌}
use Rattle.mdb_base.specs.declared.names.Engine.{Engine}
use Rattle.mdb_base.specs.declared.names.Key.{Key}
use Rattle.mdb_base.specs.declared.rows.Put.{Put}
use Rattle.mdb_base.proofs.ForCallers.{same_rows}
use Rattle.fed_rules.specs.Runs.{Start, EngineLine, Access, committed, after, table}
use Rattle.fed_rules.specs.Runs.{rows as rows_after}
use Rattle.site_tables.specs.Tables.{row_of, value_of}
use Rattle.run_book.specs.Book.{Book, table_in}
use Rattle.run_book.specs.Keeps.{Keeps}
use Rattle.run_book.specs.Tables.{AreRowsOf}
use Rattle.run_book.proofs.Kept.{value-kept_after}
use Rattle.run_book.proofs.KeptRows.{row-kept_after}
use Rattle.engine_laws.proofs.ForCallers.{after_same, rising_rows}

pub table_in-table : (kind : Engine) (book : Book) (start : Start) (lines : List EngineLine) → Keeps kind book start lines → (key : Key) → table_in book key ≡ table start lines key
table_in-table kind book start lines k key = ap value_of (k.versions key) ∙ value-kept_after start.rows (committed start lines) key

pub rows-are : (kind : Engine) (book : Book) (start : Start) (lines : List EngineLine) (rows : List Put) → Keeps kind book start lines → AreRowsOf book.versions rows → rows ≡ rows_after start lines
rows-are kind book start lines rows k are =
    same_rows rows (rows_after start lines) are.rising (rising_rows start.rows (committed start lines) k.rising)
    (λ key. are.values key ∙ ap row_of (k.versions key) ∙ sym (row-kept_after start.rows (committed start lines) key))

-- what a granted read answers
pub after-table : (kind : Engine) (book : Book) (start : Start) (lines : List EngineLine) (acts : List Access) (key : Key) → Keeps kind book start lines →
    after acts (table_in book) key ≡ after acts (table start lines) key
after-table kind book start lines acts key k = after_same acts (table_in book) (table start lines) key (table_in-table kind book start lines k key)
