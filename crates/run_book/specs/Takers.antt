-- Who has taken the ticket, each run by its age.
use Rattle.std.specs.Prelude.{ℕ, ◌≡◌, ◌≤◌, Bool, not, ◌&&◌, cond, Option, Some, None, List, [], ◌∷◌, refl}
use Rattle.std.specs.Ordering.{nat_cmp}
use Rattle.std.specs.FinMap.{FinMap, code, empty, get, insert, remove}
use Rattle.std.specs.Coded.{Coded, code_by, coded×, coded_option, coded_ℕ}
use Rattle.mdb_base.specs.declared.names.Tid.{Tid}
use Rattle.fed_rules.specs.declared.runs.Kept.{Kept}
use Rattle.fed_rules.specs.Runs.{Run, has_ticket, is_sealed}
use Rattle.fed_rules.specs.Replies.{age_of}
use Rattle.run_book.specs.Held.{tid_code}
use Rattle.run_book.specs.Rivals.{rival_by}
use Rattle.run_book.specs.declared.rival.Rival.{Rival}
use Rattle.run_book.specs.Ages.{rival_code, younger_of, rival_of}

-- runs by their ages
abbrev pub ByAge : Type 0
ByAge = FinMap nat_cmp Tid

-- the unended runs that have taken the ticket, the one of them that isn't sealed, and the youngest committed one
pub record Takers : Type 0 where
  pub unended : ByAge
  pub live : Option Rival
  pub committed : Option Rival

abbrev pub by_age_code : Coded ByAge
by_age_code = code coded_ℕ tid_code

abbrev pub takers_code : Coded Takers
takers_code =
    code_by (ByAge × (Option Rival × Option Rival)) (coded× by_age_code (coded× (coded_option rival_code) (coded_option rival_code)))
    (λ t. (t.unended, (t.live, t.committed))) (λ p. record { unended = p.0; live = p.1.0; committed = p.1.1 }) (λ _. refl)

abbrev pub no_takers : Takers
no_takers = record { unended = empty; live = None; committed = None }

-- a run is one of the takers
abbrev pub with_taker : Rival → ByAge → ByAge
with_taker run runs = insert runs run.rank run.tid

-- the transactions in doubt, by their serial numbers
abbrev pub restored_takers : List Kept → ByAge → ByAge
restored_takers [] runs = runs
restored_takers (kept ∷ more) runs = restored_takers more (with_taker (rival_of kept) runs)

-- a live run that has taken the ticket
abbrev pub takes_ticket : Run → Bool
takes_ticket run = has_ticket run && not (is_sealed run)

-- a run is a taker no longer
abbrev pub without_taker : Run → Takers → Takers
without_taker run takers =
    record { unended = remove takers.unended run.age; live = cond (takes_ticket run) None takers.live; committed = takers.committed }

-- and where it committed, it is the youngest one that did, unless a younger one committed before
abbrev pub with_committed : Run → Option Rival → Option Rival
with_committed run youngest = cond (has_ticket run) (younger_of youngest (Some (rival_by age_of run))) youngest

abbrev pub committed_taker : Run → Takers → Takers
committed_taker run takers = record (without_taker run takers) { committed = with_committed run takers.committed }

-- the youngest of some runs, if there is one
abbrev pub IsYoungestOf : ByAge → Option Rival → Type 0
IsYoungestOf runs None = (age : ℕ) → get runs age ≡ None
IsYoungestOf runs (Some rival) = (get runs rival.rank ≡ Some rival.tid) × ((age : ℕ) (tid : Tid) → get runs age ≡ Some tid → age ≤ rival.rank)
