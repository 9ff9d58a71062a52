-- The youngest run of which a fact holds is the one that the rules look for.
use Rattle.std.proofs.Common.{◌≡◌, ℕ, ◌≤◌, ◌<◌, Bool, true, false, cond, nat_lt, Option, Some, None, List, refl, sym, ap, ◌∙◌, arith}
use Rattle.std.proofs.lemmas.Bool.{ltb-true, ltb-false}
use Rattle.std.proofs.lemmas.Option.{same_Some}
use Rattle.mdb_base.specs.declared.names.Tid.{Tid}
use Rattle.mdb_base.specs.Words.{map_some, greatest}
use Rattle.mdb_base.proofs.ForCallers.{each_among}
use Rattle.fed_rules.specs.Runs.{Run}
use Rattle.fed_rules.specs.Replies.{age_of, late_or_wait}
use Rattle.engine_laws.proofs.ForCallers.{Lists, OfOneAge}
use Rattle.run_book.specs.declared.rival.Rival.{Rival}
use Rattle.run_book.specs.Rivals.{rival_by}
use Rattle.run_book.proofs.Best.{greatest-is, greatest-none}
use Rattle.run_book.specs.Stops.{above, below, stop_by}
use Rattle.run_book.proofs.Youngest.{IsUpTo}

-- the youngest run of which a fact holds, by its name and age
abbrev pub IsYoungest : (Run → Type 0) → Option Rival → Type 0
IsYoungest P None = (run : Run) → P run → ⊥
IsYoungest P (Some rival) = (run : Run) × P run × (run.tid ≡ rival.tid) × (run.age ≡ rival.rank) × ((other : Run) → P other → other.age ≤ rival.rank)

-- it is the one that the rules look for
pub youngest_listed : (P : Run → Type 0) (runs : List Run) (o : Option Rival) → Lists runs P → OfOneAge P → IsYoungest P o → o ≡ map_some (rival_by age_of) (greatest age_of runs)
youngest_listed P runs o listed one_age h = by_greatest (greatest age_of runs) refl o h
  where
    by_greatest : (m : Option Run) → greatest age_of runs ≡ m → (o : Option Rival) → IsYoungest P o → o ≡ map_some (rival_by age_of) m
    by_greatest None e None h = refl
    by_greatest None e (Some rival) (run, holds, tid, age, above) = absurd (greatest-none age_of runs e run (listed.all run holds))
    by_greatest (Some m) e None h = let best = greatest-is age_of runs m e in absurd (h m (each_among P m runs listed.only best.is))
    by_greatest (Some m) e (Some rival) (run, holds, tid, age, above) =
        let best = greatest-is age_of runs m e in
        let m_holds = each_among P m runs listed.only best.is in
        let up = above m m_holds in
        let down = best.above run (listed.all run holds) in
        let same : m.age ≡ run.age = omega arith in
        let names : m.tid ≡ run.tid = one_age m run m_holds holds same in
        ap (λ (t : Tid). let r : Rival = record rival { tid = t } in Some r) (sym tid ∙ sym names)
        ∙ ap (λ (n : ℕ). let r : Rival = record { tid = m.tid; rank = n } in Some r) (sym age ∙ sym same)

pub stop_by-late_or_wait : (youngest older : Option Run) → stop_by (map_some (rival_by age_of) youngest) (map_some (rival_by age_of) older) ≡ late_or_wait youngest older
stop_by-late_or_wait (Some youngest) older = refl
stop_by-late_or_wait None (Some older) = refl
stop_by-late_or_wait None None = refl

-- the part of a rival that is younger than this age
pub youngest_above : (P Q : Run → Type 0) (age : ℕ) (o : Option Rival) → ((run : Run) → P run → (age < run.age) × Q run) → ((run : Run) → age < run.age → Q run → P run) →
    ((run : Run) → Q run → IsUpTo run.age o) → ((rival : Rival) → o ≡ Some rival → (run : Run) × Q run × (run.tid ≡ rival.tid) × (run.age ≡ rival.rank)) → IsYoungest P (above age o)
youngest_above P Q age None split join up is = λ run p. up run (split run p).1
youngest_above P Q age (Some rival) split join up is = by_test (nat_lt age rival.rank) refl
  where
    by_test : (b : Bool) → nat_lt age rival.rank ≡ b → IsYoungest P (cond b (Some rival) None)
    by_test true e =
        let it = is rival refl in
        let lt = ltb-true age rival.rank e in
        let aged = it.3 in
        (it.0, join it.0 (omega arith) it.1, it.2, it.3, λ other p. up other (split other p).1)
    by_test false e = λ run p.
        let ge = ltb-false age rival.rank e in
        let le = up run (split run p).1 in
        let lt = (split run p).0 in
        omega arith

-- the part of the only such rival that is older than this age
pub youngest_below : (P Q : Run → Type 0) (age : ℕ) (o : Option Rival) → ((run : Run) → P run → (run.age < age) × Q run) → ((run : Run) → run.age < age → Q run → P run) →
    ((run : Run) → Q run → o ≡ Some (record { tid = run.tid; rank = run.age })) → ((rival : Rival) → o ≡ Some rival → (run : Run) × Q run × (run.tid ≡ rival.tid) × (run.age ≡ rival.rank)) → IsYoungest P (below age o)
youngest_below P Q age None split join only is = λ run p. let bad = only run (split run p).1 in cc
youngest_below P Q age (Some rival) split join only is = by_test (nat_lt rival.rank age) refl
  where
    same_rank : (run : Run) → P run → rival.rank ≡ run.age
    same_rank run p = ap (λ (r : Rival). r.rank) (same_Some _ _ (only run (split run p).1))

    by_test : (b : Bool) → nat_lt rival.rank age ≡ b → IsYoungest P (cond b (Some rival) None)
    by_test true e =
        let it = is rival refl in
        let lt = ltb-true rival.rank age e in
        let aged = it.3 in
        (it.0, join it.0 (omega arith) it.1, it.2, it.3, λ other p. let rank = same_rank other p in omega arith)
    by_test false e = λ run p.
        let ge = ltb-false rival.rank age e in
        let rank = same_rank run p in
        let lt = (split run p).0 in
        omega arith
