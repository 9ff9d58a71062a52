-- Steps that are always answered, and those that fail for want of memory alone.
use Rattle.std.proofs.Common.{◌≡◌, ℕ, Result, Ok, Err, IfOk, IfErr, IsOkAnd, OnErr, le_of_eq, le_refl, refl, subst, sym}
use Rattle.mdb_base.specs.Counts.{HasCauseOf}
use Rattle.actor_store.specs.declared.errors.StepErr.{StepErr}
use Rattle.actor_store.specs.declared.errors.StepErr.TheVariants as Err_is

-- ---- one that is always answered

pub made_and : {A E : Type 0} (P Q : A → Type 0) (r : Result A E) → IsOkAnd r P → ((a : A) → P a → Q a) → IsOkAnd r Q
made_and P Q (Ok a) p f = f a p
made_and P Q (Err e) p f = absurd p

pub made_ok : {A E : Type 0} (P Q : A → Type 0) (r : Result A E) → IsOkAnd r P → ((a : A) → P a → Q a) → IfOk r Q
made_ok P Q (Ok a) p f = f a p
made_ok P Q (Err e) p f = absurd p

pub made_err : {A E : Type 0} (P : A → Type 0) (Q : E → Type 0) (r : Result A E) → IsOkAnd r P → IfErr r Q
made_err P Q (Ok a) p = tt
made_err P Q (Err e) p = absurd p

pub made_on_err : {A E : Type 0} (P : A → Type 0) (Q : Type 0) (r : Result A E) → IsOkAnd r P → OnErr r Q
made_on_err P Q (Ok a) p = tt
made_on_err P Q (Err e) p = absurd p

pub made_cause : {A : Type 0} (P : A → Type 0) (before now : ℕ) (r : Result A StepErr) → now ≡ before → IsOkAnd r P → HasCauseOf Err_is.Disk before now r
made_cause P before now (Ok a) same p = record { later = le_of_eq (sym same); failed = λ e. cc; clean = λ n. same }
made_cause P before now (Err e) same p = absurd p

-- ---- one that fails for want of memory alone

pub want_err : {A : Type 0} (P : Type 0) (Q : StepErr → Type 0) (r : Result A StepErr) → IfErr r (λ why. why ≡ Err_is.Memory) → OnErr r P → (P → Q Err_is.Memory) → IfErr r Q
want_err P Q (Ok a) is p f = tt
want_err P Q (Err e) is p f = subst Q (sym is) (f p)

pub want_anyway : {A : Type 0} (Q : StepErr → Type 0) (r : Result A StepErr) → IfErr r (λ why. why ≡ Err_is.Memory) → Q Err_is.Memory → IfErr r Q
want_anyway Q (Ok a) is q = tt
want_anyway Q (Err e) is q = subst Q (sym is) q

pub want_cause : {A : Type 0} (faults : ℕ) (r : Result A StepErr) → IfErr r (λ why. why ≡ Err_is.Memory) → HasCauseOf Err_is.Disk faults faults r
want_cause faults (Ok a) is = record { later = le_refl _; failed = λ e. cc; clean = λ n. refl }
want_cause faults (Err e) is = record { later = le_refl _; failed = λ d. cc; clean = λ n. refl }

-- ---- two facts of one

pub both_ok : {A E : Type 0} (P Q R : A → Type 0) (r : Result A E) → IfOk r P → IfOk r Q → ((a : A) → P a → Q a → R a) → IfOk r R
both_ok P Q R (Ok a) p q f = f a p q
both_ok P Q R (Err e) p q f = tt
