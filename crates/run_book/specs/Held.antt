-- Runs as an engine holds them, by attempt.
use Rattle.std.specs.Prelude.{ℕ, ◌≡◌, ◌⊎◌, Bool, false, not, ◌&&◌, cond, Option, Some, None, List, [], ◌∷◌, refl}
use mathlib.Core.Logic.{inl, inr}
use Rattle.std.specs.FinMap.{FinMap, code, get, insert, remove}
use Rattle.std.specs.Coded.{Coded, code_by, coded×, coded⊎, coded_list, coded_option, coded_ℕ}
use Rattle.mdb_base.specs.declared.names.Key.{Key}
use Rattle.mdb_base.specs.declared.names.Tid.{Tid}
use Rattle.mdb_base.specs.declared.rows.Put.{Put}
use Rattle.mdb_base.specs.Names.{same_key, tid_cmp}
use Rattle.mdb_base.specs.Words.{or_else, map_some}
use Rattle.fed_rules.specs.Runs.{Access, Got, Wrote, Run, is_sealed, has_ticket}
use Rattle.run_book.specs.declared.counters.Counters.{Counters}

-- a run with the counters that were noted at it: of a sealed one those before its sealing
pub record Held : Type 0 where
  pub run : Run
  pub counters : Counters

-- at most one run of each attempt
abbrev pub Runs : Type 0
Runs = FinMap tid_cmp Held

-- attempts, runs and counters as codes, which the map of runs asks for
abbrev pub tid_code : Coded Tid
tid_code = code_by (ℕ × ℕ) (coded× coded_ℕ coded_ℕ) (λ t. (t.tx.0, t.attempt)) (λ p. record { tx = record { 0 = p.0 }; attempt = p.1 }) (λ _. refl)

abbrev parts_of_access : Access → (ℕ × ℕ) ⊎ (ℕ × ℕ)
parts_of_access (Got key value) = inl (key.0, value)
parts_of_access (Wrote key value) = inr (key.0, value)

abbrev access_of_parts : (ℕ × ℕ) ⊎ (ℕ × ℕ) → Access
access_of_parts (inl p) = Got (record { 0 = p.0 }) p.1
access_of_parts (inr p) = Wrote (record { 0 = p.0 }) p.1

pub access_is_its_parts : (access : Access) → access_of_parts (parts_of_access access) ≡ access
access_is_its_parts (Got key value) = refl
access_is_its_parts (Wrote key value) = refl

abbrev pub access_code : Coded Access
access_code =
    code_by ((ℕ × ℕ) ⊎ (ℕ × ℕ)) (coded⊎ (coded× coded_ℕ coded_ℕ) (coded× coded_ℕ coded_ℕ)) parts_of_access access_of_parts access_is_its_parts

abbrev pub run_code : Coded Run
run_code =
    code_by (Tid × (ℕ × (Option ℕ × (Option ℕ × List Access))))
    (coded× tid_code (coded× coded_ℕ (coded× (coded_option coded_ℕ) (coded× (coded_option coded_ℕ) (coded_list access_code)))))
    (λ run. (run.tid, (run.age, (run.sealed, (run.ticket, run.acts)))))
    (λ p. record { tid = p.0; age = p.1.0; sealed = p.1.1.0; ticket = p.1.1.1.0; acts = p.1.1.1.1 }) (λ _. refl)

abbrev pub counters_code : Coded Counters
counters_code =
    code_by (ℕ × (ℕ × Option Tid)) (coded× coded_ℕ (coded× coded_ℕ (coded_option tid_code)))
    (λ counters. (counters.counter, (counters.published, counters.owner))) (λ p. record { counter = p.0; published = p.1.0; owner = p.1.1 }) (λ _. refl)

abbrev pub held_code : Coded Held
held_code = code_by (Run × Counters) (coded× run_code counters_code) (λ held. (held.run, held.counters)) (λ p. record { run = p.0; counters = p.1 }) (λ _. refl)

abbrev pub runs_code : Coded Runs
runs_code = code tid_code held_code

-- the run of this attempt
abbrev pub held_in : Runs → Tid → Option Held
held_in runs tid = get runs tid

-- this run is the one of this attempt
abbrev pub with_run : Tid → Held → Runs → Runs
with_run tid held runs = insert runs tid held

-- this is done to the run of the attempt
abbrev pub changed_in : Tid → (Held → Held) → Runs → Runs
changed_in tid change runs = or_else (map_some (λ held. insert runs tid (change held)) (get runs tid)) runs

-- the attempt has no run
abbrev pub without : Tid → Runs → Runs
without tid runs = remove runs tid

-- whether it is a live run that has taken the ticket
abbrev pub is_taker : Option Held → Bool
is_taker None = false
is_taker (Some held) = not (is_sealed held.run) && has_ticket held.run

-- the value that was read or written
abbrev pub access_value : Access → ℕ
access_value (Got key value) = value
access_value (Wrote key value) = value

-- the row that a write leaves
abbrev pub written_row : Access → Option Put
written_row (Got key value) = None
written_row (Wrote key value) = Some (record { key = key; value = value })

-- the last write of the key among these accesses
abbrev pub own_write : Key → List Access → Option ℕ
own_write key [] = None
own_write key (Got k value ∷ acts) = own_write key acts
own_write key (Wrote k value ∷ acts) = cond (same_key k key) (Some value) (own_write key acts)
