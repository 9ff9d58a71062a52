-- How far a program has come, and how far several in their order, and what they have left of the tables.
use Rattle.std.specs.Prelude.{ℕ, ◌≡◌, Bool, ◌||◌, List, take, is_some}
use Rattle.mdb_base.specs.declared.acts.Step.{Step}
use Rattle.mdb_base.specs.declared.names.Key.{Key}
use Rattle.mdb_base.specs.declared.names.SiteId.{SiteId}
use Rattle.mdb_base.specs.Words.{some_of}
use Rattle.fed_rules.specs.Serial.{alone, serial_reads, serial_tables}
use Rattle.serial_machine.specs.AllTables.{value_at, tables_of, writes_at, SameTables}
use Rattle.serial_machine.specs.declared.all_tables.AllTables.{AllTables}

-- after so many of its steps the program, alone, has read these values and left these tables; each key that it wrote has a row
pub record ReachesAlone (program : List Step) (done : ℕ) (old new : AllTables) (reads : List ℕ) : Type 0 where
  pub reads_are : reads ≡ (alone (take done program) (tables_of old)).reads
  pub tables_are : SameTables (alone (take done program) (tables_of old)).tables (tables_of new)
  pub rows : (site : SiteId) (key : Key) → is_some (value_at new site key) ≡ (is_some (value_at old site key) || some_of (writes_at site key) (take done program))

-- whether one of the programs writes this key at this site
abbrev pub one_writes : SiteId → Key → List (List Step) → Bool
one_writes site key programs = some_of (λ program. some_of (writes_at site key) program) programs

-- so many of these programs, one after another, have read these values and left these tables; each key that they wrote has a row
pub record ReachesSerial (programs : List (List Step)) (done : ℕ) (old new : AllTables) (reads : List (List ℕ)) : Type 0 where
  pub reads_are : reads ≡ serial_reads (take done programs) (tables_of old)
  pub tables_are : SameTables (serial_tables (take done programs) (tables_of old)) (tables_of new)
  pub rows : (site : SiteId) (key : Key) → is_some (value_at new site key) ≡ (is_some (value_at old site key) || one_writes site key (take done programs))
