-- The table that a book keeps: each key with its value and the number of its last writer.
use Rattle.std.specs.Prelude.{ℕ, suc, ◌+◌, ◌≡◌, cond, Option, Some, None, List, [], ◌∷◌}
use Rattle.std.specs.FinMap.{empty, get, insert}
use Rattle.mdb_base.specs.declared.names.Key.{Key}
use Rattle.mdb_base.specs.declared.names.Tid.{Tid}
use Rattle.mdb_base.specs.declared.rows.Put.{Put}
use Rattle.mdb_base.specs.Rising.{IsRising}
use Rattle.mdb_base.specs.Rows.{value_in}
use Rattle.fed_rules.specs.Runs.{Access, Got, Wrote, Run, is_sealed, number}
use Rattle.site_tables.specs.declared.versions.Version.{Version}
use Rattle.site_tables.specs.Tables.{Versions, row_of, with_row, written}
use Rattle.run_book.specs.Held.{Held, own_write}

-- the table of these rows, each written by number 0
abbrev pub first_versions : List Put → Versions
first_versions [] = empty
first_versions (row ∷ rows) = insert (first_versions rows) row.key.0 (record { value = row.value; number = 0 })

-- the table after the writes of these accesses by this number, the newest one first, so that of two writes of a key that one counts
abbrev pub with_writes : ℕ → List Access → Versions → Versions
with_writes n [] versions = versions
with_writes n (Got key value ∷ acts) versions = with_writes n acts versions
with_writes n (Wrote key value ∷ acts) versions = with_writes n acts (with_row n (record { key = key; value = value }) versions)

-- the value of this number, where there is one, and else what is kept
abbrev pub or_kept : ℕ → Option ℕ → Option Version → Option Version
or_kept n None kept = kept
or_kept n (Some value) kept = Some (record { value = value; number = n })

-- what these rows and the runs that committed, the one with the greatest number first, leave of a key
abbrev pub kept_after : List Put → List Run → Key → Option Version
kept_after rows [] key = written 0 (value_in rows key) None
kept_after rows (run ∷ runs) key = or_kept (number run) (own_write key run.acts) (kept_after rows runs key)

-- how many of these accesses are writes
abbrev pub writes_in : List Access → ℕ
writes_in [] = 0
writes_in (Got key value ∷ acts) = writes_in acts
writes_in (Wrote key value ∷ acts) = suc (writes_in acts)

-- how many writes a run may install: those of a sealed one
abbrev pub promised_by : Held → ℕ
promised_by held = cond (is_sealed held.run) (writes_in held.run.acts) 0

-- and how many these runs may
abbrev pub promised : List (Tid × Held) → ℕ
promised [] = 0
promised (entry ∷ more) = promised_by entry.1 + promised more

-- the rows give each key the value that the table keeps, and they rise by their keys
pub record AreRowsOf (versions : Versions) (rows : List Put) : Type 0 where
  pub values : (key : Key) → value_in rows key ≡ row_of (get versions key.0)
  pub rising : IsRising (λ row. row.key.0) rows
