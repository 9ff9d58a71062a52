-- The rows that runs leave give each key what the table keeps.
use Rattle.std.proofs.Common.{◌≡◌, ℕ, cond, Option, Some, None, List, [], ◌∷◌, refl, sym, ap, ap₂, ◌∙◌}
use Rattle.mdb_base.specs.declared.names.Key.{Key}
use Rattle.mdb_base.specs.declared.rows.Put.{Put}
use Rattle.mdb_base.specs.Names.{same_key}
use Rattle.mdb_base.specs.Rows.{value_in}
use Rattle.mdb_base.proofs.ForCallers.{first_of, value_in-with_row, value_in-with_rows}
use Rattle.fed_rules.specs.Runs.{Access, Got, Wrote, Run, number, puts_of, rows_of}
use Rattle.site_tables.specs.declared.versions.Version.{Version}
use Rattle.site_tables.specs.Tables.{row_of, written}
use Rattle.run_book.specs.Held.{own_write}
use Rattle.run_book.specs.Tables.{or_kept, kept_after}

-- the last write of each key
value_in-puts_of : (acts : List Access) (key : Key) → value_in (puts_of acts) key ≡ own_write key acts
value_in-puts_of [] key = refl
value_in-puts_of (Got k value ∷ acts) key = value_in-puts_of acts key
value_in-puts_of (Wrote k value ∷ acts) key =
    value_in-with_row (record { key = k; value = value }) (puts_of acts) key ∙ ap (cond (same_key k key) (Some value)) (value_in-puts_of acts key)

row_of-kept : (n : ℕ) (o : Option ℕ) (kept : Option Version) → row_of (or_kept n o kept) ≡ first_of o (row_of kept)
row_of-kept n None kept = refl
row_of-kept n (Some value) kept = refl

row_of-first : (o : Option ℕ) → o ≡ row_of (written 0 o None)
row_of-first None = refl
row_of-first (Some value) = refl

pub row-kept_after : (rows : List Put) (runs : List Run) (key : Key) → value_in (rows_of rows runs) key ≡ row_of (kept_after rows runs key)
row-kept_after rows [] key = row_of-first (value_in rows key)
row-kept_after rows (run ∷ runs) key =
    value_in-with_rows (puts_of run.acts) (rows_of rows runs) key
    ∙ ap₂ first_of (value_in-puts_of run.acts key) (row-kept_after rows runs key)
    ∙ sym (row_of-kept (number run) (own_write key run.acts) (kept_after rows runs key))
