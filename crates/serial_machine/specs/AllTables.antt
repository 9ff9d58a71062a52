-- The rows of all sites as one map, and as the tables that programs run on.
use Rattle.std.specs.Prelude.{ℕ, ◌≡◌, Bool, false, ◌==◌, ◌&&◌, cond, Option, Some, None, List, [], ◌∷◌}
use Rattle.std.specs.Map.{lookup}
use Rattle.mdb_base.specs.declared.acts.Act.{Act}
use Rattle.mdb_base.specs.declared.acts.Act.TheVariants.{Get, Set, Add}
use Rattle.mdb_base.specs.declared.acts.Step.{Step}
use Rattle.mdb_base.specs.declared.names.Key.{Key}
use Rattle.mdb_base.specs.declared.names.SiteId.{SiteId}
use Rattle.mdb_base.specs.declared.rows.Put.{Put}
use Rattle.mdb_base.specs.declared.rows.SiteRows.{SiteRows}
use Rattle.mdb_base.specs.Names.{same_site, same_key}
use Rattle.mdb_base.specs.Rows.{value_in}
use Rattle.mdb_base.specs.Words.{or_else}
use Rattle.fed_rules.specs.Serial.{Tables}
use Rattle.serial_machine.specs.declared.all_tables.AllTables.{AllTables}

-- whether a row's place is this site and key
abbrev pub is_place : SiteId → Key → ℕ × ℕ → Bool
is_place site key place = (site.0 == place.0) && (key.0 == place.1)

-- the value of a key at a site, where there is such a row
abbrev pub value_at : AllTables → SiteId → Key → Option ℕ
value_at tables site key = lookup (is_place site key) tables.values.entries

-- the rows of a site, in the order of the map
abbrev pub rows_from : SiteId → List ((ℕ × ℕ) × ℕ) → List Put
rows_from site [] = []
rows_from site (e ∷ es) =
    cond (e.0.0 == site.0) (record { key = record { 0 = e.0.1 }; value = e.1 } ∷ rows_from site es) (rows_from site es)

-- the rows as tables, in which an absent key reads 0
abbrev pub tables_of : AllTables → Tables
tables_of tables site key = or_else (value_at tables site key) 0

-- the first of two values
abbrev pub first_of : Option ℕ → Option ℕ → Option ℕ
first_of None other = other
first_of (Some value) other = Some value

-- the value of a key in these rows of a site, seen from a site
abbrev pub value_there : SiteId → List Put → SiteId → Key → Option ℕ
value_there of rows site key = cond (same_site of site) (value_in rows key) None

-- the value of a key in the given rows of a site
abbrev pub given_value : List SiteRows → SiteId → Key → Option ℕ
given_value [] site key = None
given_value (first ∷ more) site key = first_of (value_there first.site first.rows site key) (given_value more site key)

-- whether a step writes this key at this site
abbrev pub writes_at : SiteId → Key → Step → Bool
writes_at site key step = same_site step.site site && writes_key step.act where
  writes_key : Act → Bool
  writes_key (Get k) = false
  writes_key (Set k value) = same_key k key
  writes_key (Add k register amount) = same_key k key

-- two maps with the same values
abbrev pub SameRows : AllTables → AllTables → Type 0
SameRows old new = (site : SiteId) (key : Key) → value_at new site key ≡ value_at old site key

-- tables with the same values
abbrev pub SameTables : Tables → Tables → Type 0
SameTables old new = (site : SiteId) (key : Key) → new site key ≡ old site key
