-- Who accessed a key, each run by its age.
use Rattle.std.specs.Prelude.{ℕ, cond, nat_lt, Option, Some, None, List, [], ◌∷◌, refl}
use Rattle.std.specs.Ordering.{nat_cmp}
use Rattle.std.specs.FinMap.{FinMap, code, get}
use Rattle.std.specs.Coded.{Coded, code_by, coded×, coded_option, coded_ℕ}
use Rattle.mdb_base.specs.declared.names.Key.{Key}
use Rattle.mdb_base.specs.declared.names.Tid.{Tid}
use Rattle.mdb_base.specs.Words.{or_else}
use Rattle.fed_rules.specs.declared.runs.Kept.{Kept}
use Rattle.fed_rules.specs.EngineLines.{has_row}
use Rattle.run_book.specs.Held.{tid_code}
use Rattle.run_book.specs.declared.rival.Rival.{Rival}
use Rattle.run_book.specs.declared.key_ages.End.{End}
use Rattle.run_book.specs.declared.key_ages.End.TheVariants.{Commit, Abort}
use Rattle.run_book.specs.declared.key_ages.KeyAges.{KeyAges}

-- the ages of each key that was accessed
abbrev pub Ages : Type 0
Ages = FinMap nat_cmp KeyAges

abbrev pub rival_code : Coded Rival
rival_code = code_by (Tid × ℕ) (coded× tid_code coded_ℕ) (λ r. (r.tid, r.rank)) (λ p. record { tid = p.0; rank = p.1 }) (λ _. refl)

abbrev pub key_ages_code : Coded KeyAges
key_ages_code =
    code_by (Option Rival × (Option Rival × Option Rival)) (coded× (coded_option rival_code) (coded× (coded_option rival_code) (coded_option rival_code)))
    (λ a. (a.read, (a.last, a.writer))) (λ p. record { read = p.0; last = p.1.0; writer = p.1.1 }) (λ _. refl)

abbrev pub ages_code : Coded Ages
ages_code = code coded_ℕ key_ages_code

-- nobody accessed the key
abbrev pub no_ages : KeyAges
no_ages = record { read = None; last = None; writer = None }

-- the ages of a key
abbrev pub ages_of : Ages → Key → KeyAges
ages_of ages key = or_else (get ages key.0) no_ages

-- the younger one of two, where both are there
abbrev pub younger_of : Option Rival → Option Rival → Option Rival
younger_of None other = other
younger_of (Some rival) None = Some rival
younger_of (Some rival) (Some other) = Some (cond (nat_lt rival.rank other.rank) other rival)

-- a run reads the key
abbrev pub with_reader : Rival → KeyAges → KeyAges
with_reader run ages = record ages { read = younger_of ages.read (Some run) }

-- a run writes the key
abbrev pub with_writer : Rival → KeyAges → KeyAges
with_writer run ages = record ages { writer = Some run }

-- the writer commits: it is the last one now, unless a younger one committed before
abbrev pub settled : KeyAges → KeyAges
settled ages = record { read = ages.read; last = younger_of ages.last ages.writer; writer = None }

-- the writer ends otherwise
abbrev pub unwritten : KeyAges → KeyAges
unwritten ages = record ages { writer = None }

-- the writer ends so
abbrev pub ended : End → KeyAges → KeyAges
ended Commit ages = settled ages
ended Abort ages = unwritten ages

-- a transaction in doubt by its serial number
abbrev pub rival_of : Kept → Rival
rival_of kept = record { tid = kept.tid; rank = kept.number }

-- the transaction in doubt that wrote the key, the last one of the list
abbrev pub restored_writer : List Kept → Key → Option Rival → Option Rival
restored_writer [] key writer = writer
restored_writer (kept ∷ more) key writer = restored_writer more key (cond (has_row key kept.writes) (Some (rival_of kept)) writer)
