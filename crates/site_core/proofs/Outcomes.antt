-- What holds of an outcome, from what holds of it in other words.
use Rattle.std.proofs.Common.{◌≡◌, ℕ, Result, Ok, Err, IfOk, IfErr, IsOkAnd, OnOk, sym, ◌∙◌, subst, arith}
use Rattle.mdb_base.specs.Counts.{HasCauseOf}

pub map_on_ok : {A E : Type 0} (P Q : Type 0) (r : Result A E) → OnOk r P → (P → Q) → OnOk r Q
map_on_ok P Q (Ok a) p f = f p
map_on_ok P Q (Err e) p f = tt

-- an outcome that is known
pub ok_with : {A E : Type 0} (P : A → Type 0) (r : Result A E) (a : A) → r ≡ Ok a → P a → IfOk r P
ok_with P r a is p = subst (λ o. IfOk o P) (sym is) p

pub well_with : {A E : Type 0} (P : A → Type 0) (r : Result A E) (a : A) → r ≡ Ok a → P a → IsOkAnd r P
well_with P r a is p = subst (λ o. IsOkAnd o P) (sym is) p

-- one that is well
pub well_ok : {A E : Type 0} (P : A → Type 0) (r : Result A E) → IsOkAnd r P → IfOk r P
well_ok P (Ok a) p = p
well_ok P (Err e) p = absurd p

pub well_err : {A E : Type 0} (P : A → Type 0) (Q : E → Type 0) (r : Result A E) → IsOkAnd r P → IfErr r Q
well_err P Q (Ok a) p = tt
well_err P Q (Err e) p = absurd p

-- the count of faults stands where an outcome is well, and where its only error isn't a fault
pub well_cause : {A E : Type 0} (P : A → Type 0) (fault : E) (before now : ℕ) (r : Result A E) → now ≡ before → IsOkAnd r P → HasCauseOf fault before now r
well_cause P fault before now (Ok a) same p = record { later = omega (arith, same); failed = (λ e. cc); clean = (λ no. same) }
well_cause P fault before now (Err e) same p = absurd p

pub other_cause : {A E : Type 0} (fault other : E) (before now : ℕ) (r : Result A E) → (other ≡ fault → ⊥) → now ≡ before → IfErr r (λ why. why ≡ other) → HasCauseOf fault before now r
other_cause fault other before now (Ok a) apart same only = record { later = omega (arith, same); failed = (λ e. cc); clean = (λ no. same) }
other_cause fault other before now (Err why) apart same only = record { later = omega (arith, same); failed = (λ e. absurd (apart (sym only ∙ one_err why fault e))); clean = (λ no. same) }
  where
    one_err : {A E : Type 0} (a b : E) → ◌≡◌ {A = Result A E} (Err a) (Err b) → a ≡ b
    one_err a b e = cc
