-- How many of the calls of the rules can fail.
use Rattle.std.proofs.Common.{◌≡◌, ℕ, zero, suc, ◌+◌, ◌≤◌, Bool, true, false, cond, List, [], ◌∷◌, ◌++◌, length, take, refl, arith}
use Rattle.fed_rules.specs.Disk.{Call, Append, Sync, CutBack, TrimFront, Stops}
use Rattle.journal_rules.specs.Calls.{can_fail}

-- at most all of them
can_fail-length : {R : Type 0} (calls : List (Call R)) → can_fail calls ≤ length calls
can_fail-length [] = omega arith
can_fail-length (Append entry ∷ calls) = omega (arith, can_fail-length calls)
can_fail-length (Sync ∷ calls) = omega (arith, can_fail-length calls)
can_fail-length (CutBack ∷ calls) = omega (arith, can_fail-length calls)
can_fail-length (TrimFront ∷ calls) = omega (arith, can_fail-length calls)
can_fail-length (Stops cut ∷ calls) = omega (arith, can_fail-length calls)

-- the first n of some that all can, and then a stop
pub stopped_calls : {R : Type 0} (n cut : ℕ) (calls : List (Call R)) → can_fail calls ≡ length calls → n ≤ length calls → can_fail (take n calls ++ Stops cut ∷ []) ≡ n
stopped_calls zero cut calls all few = refl
stopped_calls (suc n) cut [] all few = absurd (omega arith)
stopped_calls (suc n) cut (Append entry ∷ calls) all few = omega (arith, stopped_calls n cut calls (omega (arith, all)) (omega (arith, few)))
stopped_calls (suc n) cut (Sync ∷ calls) all few = omega (arith, stopped_calls n cut calls (omega (arith, all)) (omega (arith, few)))
stopped_calls (suc n) cut (CutBack ∷ calls) all few = omega (arith, stopped_calls n cut calls (omega (arith, all)) (omega (arith, few)))
stopped_calls (suc n) cut (TrimFront ∷ calls) all few = omega (arith, stopped_calls n cut calls (omega (arith, all)) (omega (arith, few)))
stopped_calls (suc n) cut (Stops other ∷ calls) all few = absurd (omega (arith, all, can_fail-length calls))

-- a record that is synced or isn't
pub forced_or_not : {R : Type 0} (entry : R) (forced : Bool) → can_fail (Append entry ∷ cond forced (Sync ∷ []) []) ≡ length (Append entry ∷ cond forced (Sync ∷ []) [])
forced_or_not entry true = refl
forced_or_not entry false = refl

-- a start, which cuts a torn rest back
pub starting_calls : {R : Type 0} (torn : Bool) (more : List (Call R)) → can_fail more ≡ length more
    → can_fail (cond torn (CutBack ∷ []) [] ++ more) ≡ length (cond torn (CutBack ∷ []) [] ++ more)
starting_calls true more all = omega (arith, all)
starting_calls false more all = all
