-- Lines whose stamps rise.
use Rattle.std.proofs.Common.{ℕ, ◌≤◌, ◌<◌, List, [], ◌∷◌, ◌++◌, reverse, sym, subst, arith}
use Rattle.mdb_base.specs.Rising.{IsRising}
use Rattle.mdb_base.specs.Words.{Each}
use Rattle.mdb_base.proofs.ForCallers.{reverse_more}
use Rattle.fed_rules.specs.declared.commands.Stamped.{Stamped}
use Rattle.host_laws.specs.Lines.{next_stamp}

rising_more : {A : Type 0} (number : A → ℕ) (xs : List A) (x : A) → IsRising number xs → Each (λ (y : A). number y < number x) xs → IsRising number (xs ++ x ∷ [])
rising_more number [] x rising below = tt
rising_more number (y ∷ []) x rising below = (below.0, tt)
rising_more number (y ∷ z ∷ zs) x rising below = (rising.0, rising_more number (z ∷ zs) x rising.1 below.1)

each_more : {A : Type 0} (P Q : A → Type 0) (xs : List A) (x : A) → ((y : A) → P y → Q y) → Each P xs → Q x → Each Q (xs ++ x ∷ [])
each_more P Q [] x into each last = (last, tt)
each_more P Q (y ∷ ys) x into each last = (into y each.0, each_more P Q ys x into each.1 last)

each_into : {A : Type 0} (P Q : A → Type 0) (xs : List A) → ((y : A) → P y → Q y) → Each P xs → Each Q xs
each_into P Q [] into each = tt
each_into P Q (y ∷ ys) into each = (into y each.0, each_into P Q ys into each.1)

-- the next stamp is above the last one
pub above : (last after : ℕ) → last < next_stamp last after
above last after = omega arith

-- the stamp of the newest line, 0 before the first one
abbrev pub newest : List Stamped → ℕ
newest [] = 0
newest (line ∷ lines) = line.stamp

-- each line's stamp is above those of the lines before it, the newest line first
abbrev pub Rise : List Stamped → Type 0
Rise [] = Unit {0}
Rise (line ∷ lines) = (newest lines < line.stamp) × Rise lines

-- no stamp is above the newest one
below_newest : (lines : List Stamped) → Rise lines → Each (λ (line : Stamped). line.stamp ≤ newest lines) (reverse lines)
below_newest [] rise = tt
below_newest (line ∷ lines) rise =
    let less = rise.0 in
    subst (λ (ls : List Stamped). Each (λ (other : Stamped). other.stamp ≤ line.stamp) ls) (sym (reverse_more line lines))
    (each_more (λ (other : Stamped). other.stamp ≤ newest lines) (λ (other : Stamped). other.stamp ≤ line.stamp) (reverse lines) line (λ other low. omega (arith, low, less)) (below_newest lines rise.1) (omega arith))

-- so they rise in the order of the lines
pub rise_turned : (lines : List Stamped) → Rise lines → IsRising (λ (line : Stamped). line.stamp) (reverse lines)
rise_turned [] rise = tt
rise_turned (line ∷ lines) rise =
    let less = rise.0 in
    subst (λ (ls : List Stamped). IsRising (λ (other : Stamped). other.stamp) ls) (sym (reverse_more line lines))
    (rising_more (λ (other : Stamped). other.stamp) (reverse lines) line (rise_turned lines rise.1)
    (each_into (λ (other : Stamped). other.stamp ≤ newest lines) (λ (other : Stamped). other.stamp < line.stamp) (reverse lines) (λ other low. omega (arith, low, less)) (below_newest lines rise.1)))
