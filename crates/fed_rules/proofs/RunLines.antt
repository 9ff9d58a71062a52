-- What a line leaves of the run of its attempt and of other ones, and of the numbers.
use Rattle.std.proofs.Common.{◌≡◌, ℕ, ◌+◌, false, Option, Some, List, ◌∷◌, refl, ap, ◌∙◌, arith}
use Rattle.std.proofs.lemmas.Bool.{cond-true, cond-false}
use Rattle.mdb_base.specs.declared.names.Tid.{Tid}
use Rattle.mdb_base.specs.Names.{same_tid}
use Rattle.mdb_base.proofs.ForCallers.{same_tid-refl}
use Rattle.fed_rules.specs.Runs.{Start, EngineLine, Begins, Seals, Run, tid_of, changed, run_at, counter}
use Rattle.fed_rules.specs.EngineLines.{IsSealed, IsRight}

-- a line changes the run of its attempt
pub run_at_own : (start : Start) (older : List EngineLine) (line : EngineLine) (was : Option Run) → run_at start older (tid_of line) ≡ was
    → run_at start (line ∷ older) (tid_of line) ≡ changed line was
run_at_own start older line was h = cond-true _ _ _ (same_tid-refl (tid_of line)) ∙ ap (changed line) h

-- and no other one
pub run_at_other : (start : Start) (older : List EngineLine) (line : EngineLine) (u : Tid) → same_tid (tid_of line) u ≡ false
    → run_at start (line ∷ older) u ≡ run_at start older u
run_at_other start older line u h = cond-false _ _ _ h

-- a sealed run has its serial number
pub sealed_then : (start : Start) (older : List EngineLine) (tid : Tid) (run : Run) (n : ℕ) → run_at start older tid ≡ Some run
    → IsSealed start (Seals tid n ∷ older) tid (record run { sealed = Some n }) n
sealed_then start older tid run n h = (run_at_own start older (Seals tid n) _ h, refl)

-- a begin draws one number
pub counter_begun : (start : Start) (older : List EngineLine) (tid : Tid) (n : ℕ) → IsRight start (Begins tid n ∷ older)
    → counter start (Begins tid n ∷ older) ≡ counter start older + 1
counter_begun start older tid n h = let e = h.0.1 in omega arith
