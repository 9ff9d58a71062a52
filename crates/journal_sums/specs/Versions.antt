-- Rows with the serial numbers that wrote them.
use Rattle.std.specs.Prelude.{ℕ, Bool, false, cond, nat_lt, Option, Some, None, List, [], ◌∷◌}
use Rattle.std.specs.BTreeMap.{get}
use Rattle.std.specs.declared.cmp.Ordering.{Ordering}
use Rattle.std.specs.Ordering.{nat_cmp}
use Rattle.mdb_base.specs.declared.names.Key.{Key}
use Rattle.mdb_base.specs.declared.rows.Put.{Put}
use Rattle.mdb_base.specs.Rows.{value_in}
use Rattle.mdb_base.specs.Words.{map_some}
use Rattle.fed_rules.specs.SiteRecords.{Install}
use Rattle.journal_sums.specs.declared.versions.Version.{Version}
use Rattle.journal_sums.specs.declared.versions.Versions.{Versions}

abbrev pub key_cmp : Key → Key → Ordering
key_cmp a b = nat_cmp a.0 b.0

-- the row of a key
abbrev pub row_of : Option Version → Option ℕ
row_of kept = map_some (λ version. version.value) kept

-- a first row is written by number 0
abbrev pub first_version : Option ℕ → Option Version
first_version row = map_some (λ value. record { number = 0; value = value }) row

-- what was written later, and else the first row
abbrev pub later_or : Option Version → Option ℕ → Option Version
later_or None row = first_version row
later_or (Some version) row = Some version

-- what is kept of a key
abbrev pub kept : Versions → Key → Option Version
kept versions key = later_or (get key_cmp versions.later key) (value_in versions.first key)

-- whether a write of this number leaves what is kept: that has a greater number
abbrev pub is_kept_from : ℕ → Option Version → Bool
is_kept_from number None = false
is_kept_from number (Some kept) = nat_lt number kept.number

-- what is kept of a key after a newer transaction of this number, which may have written it
abbrev pub version_after : ℕ → Option ℕ → Option Version → Option Version
version_after number None kept = kept
version_after number (Some value) kept = cond (is_kept_from number kept) kept (Some (record { number = number; value = value }))

-- the value that was written, by this number, and else what was kept before
abbrev pub or_else_by : Option ℕ → ℕ → Option Version → Option Version
or_else_by None number kept = kept
or_else_by (Some value) number kept = Some (record { number = number; value = value })

-- the first of these transactions that wrote the key says what is kept of it, and else the first rows do
abbrev pub version_in : List Put → List Install → Key → Option Version
version_in rows [] key = first_version (value_in rows key)
version_in rows (install ∷ installs) key = or_else_by (value_in install.writes key) install.number (version_in rows installs key)
