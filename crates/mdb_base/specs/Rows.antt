-- Rows by rising key, and tables, in which an absent key reads 0.
use Rattle.std.specs.Prelude.{ℕ, cond, nat_eq, nat_lt, Option, Some, None, List, [], ◌∷◌, map}
use Rattle.std.specs.List.{IsDistinct}
use Rattle.mdb_base.specs.declared.names.Key.{Key}
use Rattle.mdb_base.specs.declared.rows.Put.{Put}
use Rattle.mdb_base.specs.Names.{same_key}

-- a table gives each key a number
abbrev pub Table : Type 0
Table = Key → ℕ

-- the value of a key in these rows, or 0
abbrev pub look_up : List Put → Table
look_up [] key = 0
look_up (row ∷ rows) key = cond (same_key row.key key) row.value (look_up rows key)

-- the value of a key in these rows, where one of them has the key
abbrev pub value_in : List Put → Key → Option ℕ
value_in [] key = None
value_in (row ∷ rows) key = cond (same_key row.key key) (Some row.value) (value_in rows key)

-- no two rows have one key
abbrev pub HaveOwnKeys : List Put → Type 0
HaveOwnKeys rows = IsDistinct nat_eq (map (λ row. row.key.0) rows)

-- the rows, by rising key, with this one in place of the one of its key
abbrev pub with_row : Put → List Put → List Put
with_row row [] = row ∷ []
with_row row (other ∷ rows) =
    cond (same_key other.key row.key) (row ∷ rows) (cond (nat_lt other.key.0 row.key.0) (other ∷ with_row row rows) (row ∷ other ∷ rows))

-- the rows with these ones in place of those of their keys
abbrev pub with_rows : List Put → List Put → List Put
with_rows [] rows = rows
with_rows (row ∷ more) rows = with_row row (with_rows more rows)
