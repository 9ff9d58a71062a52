-- One more program behind others that ran one after another.
use Rattle.std.proofs.Common.{◌≡◌, ℕ, ◌+◌, Bool, true, false, cond, ◌||◌, List, [], ◌∷◌, ◌++◌, take, is_some, refl, sym, ap, ap₂, ◌∙◌}
use Rattle.mdb_base.specs.declared.acts.PlainAct.{PlainAct}
use Rattle.mdb_base.specs.declared.acts.PlainAct.TheVariants.{Read, Write}
use Rattle.mdb_base.specs.declared.acts.Step.{Step}
use Rattle.mdb_base.specs.declared.names.Key.{Key}
use Rattle.mdb_base.specs.declared.names.SiteId.{SiteId}
use Rattle.mdb_base.specs.Names.{same_site, same_key}
use Rattle.mdb_base.specs.Programs.{plain_act}
use Rattle.mdb_base.specs.Words.{some_of}
use Rattle.fed_rules.specs.Serial.{Tables, Ran, alone, run_steps, reads_after, tables_after, serial_reads, serial_tables}
use Rattle.serial_machine.specs.AllTables.{value_at, tables_of, writes_at, SameTables}
use Rattle.serial_machine.specs.Runs.{ReachesSerial, one_writes}
use Rattle.serial_machine.specs.declared.all_tables.AllTables.{AllTables}
use Rattle.serial_machine.proofs.Steps.{some_of-last, or_assoc}

-- a program alone, on two tables with the same values
record AreAlike (one other : Ran) : Type 0 where
  reads_alike : other.reads ≡ one.reads
  tables_alike : SameTables one.tables other.tables

same_reads : (site : SiteId) (act : PlainAct) (one other : Tables) (reads : List ℕ) → SameTables one other → reads_after site act other reads ≡ reads_after site act one reads
same_reads site (Read key) one other reads same = ap (λ v. reads ++ v ∷ []) (same site key)
same_reads site (Write key value) one other reads same = refl

same_writes : (site : SiteId) (act : PlainAct) (one other : Tables) → SameTables one other → SameTables (tables_after site act one) (tables_after site act other)
same_writes site (Read key) one other same s k = same s k
same_writes site (Write key value) one other same s k = by_site (same_site site s)
  where
    by_key : (c : Bool) → cond c value (other s k) ≡ cond c value (one s k)
    by_key true = refl
    by_key false = same s k

    by_site : (b : Bool) → cond b (λ (j : Key). cond (same_key key j) value (other s j)) (other s) k ≡ cond b (λ (j : Key). cond (same_key key j) value (one s j)) (one s) k
    by_site true = by_key (same_key key k)
    by_site false = same s k

run_steps-alike : (steps : List Step) (reads : List ℕ) (one other : Tables) → SameTables one other → AreAlike (run_steps steps reads one) (run_steps steps reads other)
run_steps-alike [] reads one other same = record { reads_alike = refl; tables_alike = same }
run_steps-alike (x ∷ xs) reads one other same =
    let act = plain_act reads x.act in
    let rest = run_steps-alike xs (reads_after x.site act one reads) (tables_after x.site act one) (tables_after x.site act other) (same_writes x.site act one other same) in
    rw (same_reads x.site act one other reads same) rest

serial_reads-last : (programs : List (List Step)) (program : List Step) (tables : Tables) → serial_reads (programs ++ program ∷ []) tables ≡ serial_reads programs tables ++ (alone program (serial_tables programs tables)).reads ∷ []
serial_reads-last [] program tables = refl
serial_reads-last (p ∷ ps) program tables = ap (λ rs. (alone p tables).reads ∷ rs) (serial_reads-last ps program (alone p tables).tables)

serial_tables-last : (programs : List (List Step)) (program : List Step) (tables : Tables) → serial_tables (programs ++ program ∷ []) tables ≡ (alone program (serial_tables programs tables)).tables
serial_tables-last [] program tables = refl
serial_tables-last (p ∷ ps) program tables = serial_tables-last ps program (alone p tables).tables

-- the next program, alone on what the ones before it left
pub one_more : (programs : List (List Step)) (done : ℕ) (program : List Step) (old now new : AllTables) (reads : List (List ℕ)) (values : List ℕ) → ReachesSerial programs done old now reads
    → take (done + 1) programs ≡ take done programs ++ program ∷ []
    → values ≡ (alone program (tables_of now)).reads
    → SameTables (alone program (tables_of now)).tables (tables_of new)
    → ((site : SiteId) (key : Key) → is_some (value_at new site key) ≡ (is_some (value_at now site key) || some_of (writes_at site key) program))
    → ReachesSerial programs (done + 1) old new (reads ++ values ∷ [])
one_more programs done program old now new reads values reached more read left rows =
    let before = serial_tables (take done programs) (tables_of old) in
    let alike = run_steps-alike program [] before (tables_of now) reached.tables_are in
    record {
      reads_are =
          ap₂ (λ (rs : List (List ℕ)) (vs : List ℕ). rs ++ vs ∷ []) reached.reads_are (read ∙ alike.reads_alike)
          ∙ sym (serial_reads-last (take done programs) program (tables_of old)) ∙ ap (λ ps. serial_reads ps (tables_of old)) (sym more);
      tables_are = λ site key.
          left site key ∙ alike.tables_alike site key
          ∙ ap (λ (t : Tables). t site key) (sym (serial_tables-last (take done programs) program (tables_of old))) ∙ ap (λ ps. serial_tables ps (tables_of old) site key) (sym more);
      rows = λ site key.
          rows site key ∙ ap (λ b. b || some_of (writes_at site key) program) (reached.rows site key)
          ∙ or_assoc (is_some (value_at old site key)) _ _
          ∙ ap (λ b. is_some (value_at old site key) || b) (sym (some_of-last (λ p. some_of (writes_at site key) p) (take done programs) program))
          ∙ ap (λ ps. is_some (value_at old site key) || one_writes site key ps) (sym more);
    }
