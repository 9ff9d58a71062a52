-- A site's table: a map from keys to values, each with the number of its last writer.
use Rattle.std.specs.Prelude.{ℕ, Bool, true, cond, Option, Some, None, nat_lt, refl}
use Rattle.std.specs.Ordering.{nat_cmp}
use Rattle.std.specs.FinMap.{FinMap, code, get, insert}
use Rattle.std.specs.Coded.{Coded, code_by, coded×, coded_ℕ}
use Rattle.mdb_base.specs.declared.rows.Put.{Put}
use Rattle.site_tables.specs.declared.versions.Version.{Version}

-- what is kept of each key
abbrev pub Versions : Type 0
Versions = FinMap nat_cmp Version

-- what a table keeps of each key, and for how many further keys it has room
pub record Table : Type 0 where
  pub versions : Versions
  pub spare : ℕ

-- the value of a key; an absent key reads 0
abbrev pub value_of : Option Version → ℕ
value_of None = 0
value_of (Some kept) = kept.value

-- whether a write of this number counts: nothing is kept, or what is kept has a smaller number
abbrev pub is_newer : ℕ → Option Version → Bool
is_newer number None = true
is_newer number (Some kept) = nat_lt kept.number number

-- what is kept of a key after a write of this number, if there is one
abbrev pub written : ℕ → Option ℕ → Option Version → Option Version
written number None kept = kept
written number (Some value) kept = cond (is_newer number kept) (Some (record { value = value; number = number })) kept

-- what is kept after a write of this row by this number
abbrev pub with_row : ℕ → Put → Versions → Versions
with_row number put versions =
    cond (is_newer number (get versions put.key.0)) (insert versions put.key.0 (record { value = put.value; number = number })) versions

-- a row of the table
abbrev pub row_of : Option Version → Option ℕ
row_of None = None
row_of (Some kept) = Some kept.value

-- the row of a key and what is kept of it
abbrev pub put_of : ℕ × Version → Put
put_of entry = record { key = record { 0 = entry.0 }; value = entry.1.value }

-- a table is stored as its versions and its room
abbrev pub version_code : Coded Version
version_code =
    code_by (ℕ × ℕ) (coded× coded_ℕ coded_ℕ) (λ v. (v.value, v.number)) (λ p. record { value = p.0; number = p.1 }) (λ _. refl)

abbrev pub versions_code : Coded Versions
versions_code = code coded_ℕ version_code

abbrev pub table_code : Coded Table
table_code =
    code_by (Versions × ℕ) (coded× versions_code coded_ℕ) (λ t. (t.versions, t.spare)) (λ p. record { versions = p.0; spare = p.1 }) (λ _. refl)
