-- Programs run alone, one after another, on the tables of all sites. Nothing interleaves, and there are no tickets and no messages.
use Rattle.std.specs.Prelude.{ℕ, cond, List, [], ◌∷◌, ◌++◌}
use Rattle.mdb_base.specs.declared.acts.PlainAct.{PlainAct}
use Rattle.mdb_base.specs.declared.acts.PlainAct.TheVariants.{Read, Write}
use Rattle.mdb_base.specs.declared.acts.Step.{Step}
use Rattle.mdb_base.specs.declared.names.Key.{Key}
use Rattle.mdb_base.specs.declared.names.SiteId.{SiteId}
use Rattle.mdb_base.specs.Names.{same_site, same_key}
use Rattle.mdb_base.specs.Programs.{plain_act}
use Rattle.mdb_base.specs.Rows.{Table}

-- each site has a table, in which an absent key reads 0
abbrev pub Tables : Type 0
Tables = SiteId → Table

-- a table with this value at this key
abbrev pub update : Key → ℕ → Table → Table
update key value table k = cond (same_key key k) value (table k)

-- the tables with this value at this key of this site
abbrev pub update_at : SiteId → Key → ℕ → Tables → Tables
update_at site key value tables s = cond (same_site site s) (update key value (tables s)) (tables s)

-- what a program run alone read, in program order, and the tables that it left
pub record Ran : Type 0 where
  pub reads : List ℕ
  pub tables : Tables

-- the values read so far, with what an act reads
abbrev pub reads_after : SiteId → PlainAct → Tables → List ℕ → List ℕ
reads_after site (Read key) tables reads = reads ++ tables site key ∷ []
reads_after site (Write key value) tables reads = reads

-- the tables, with what an act writes
abbrev pub tables_after : SiteId → PlainAct → Tables → Tables
tables_after site (Read key) tables = tables
tables_after site (Write key value) tables = update_at site key value tables

-- carries out the steps in their order
abbrev pub run_steps : List Step → List ℕ → Tables → Ran
run_steps [] reads tables = record { reads = reads; tables = tables }
run_steps (step ∷ steps) reads tables =
    run_steps steps (reads_after step.site (plain_act reads step.act) tables reads) (tables_after step.site (plain_act reads step.act) tables)

-- a program run alone
abbrev pub alone : List Step → Tables → Ran
alone program tables = run_steps program [] tables

-- what each of these programs reads when they are run one after another
abbrev pub serial_reads : List (List Step) → Tables → List (List ℕ)
serial_reads [] tables = []
serial_reads (program ∷ programs) tables = (alone program tables).reads ∷ serial_reads programs (alone program tables).tables

-- the tables that these programs leave when they are run one after another
abbrev pub serial_tables : List (List Step) → Tables → Tables
serial_tables [] tables = tables
serial_tables (program ∷ programs) tables = serial_tables programs (alone program tables).tables
