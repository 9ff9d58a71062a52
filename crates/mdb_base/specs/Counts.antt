-- Counts of faults, which never fall. They are kept in 64 bits.
use Rattle.std.specs.Prelude.{ℕ, ◌≡◌, ◌<◌, ◌≤◌, ◌^◌, ◌-◌, ◌⊎◌, Result, OnOk, OnErr, IsErrOf}

-- the count rose, or stands at its last value
abbrev pub HasRisen : ℕ → ℕ → Type 0
HasRisen before now = (before < now) ⊎ (now ≡ 2 ^ 64 - 1)

-- the count didn't fall, a failure comes only where it rose, and where all went well it stands where it stood: no fault is hidden
pub record HasCause {T E : Type 0} (before now : ℕ) (outcome : Result T E) : Type 0 where
  pub later : before ≤ now
  pub failed : OnErr outcome (HasRisen before now)
  pub clean : OnOk outcome (now ≡ before)

-- the same of a call with more than one error: this one comes only where the count rose, and with every other answer, want of memory
-- among them, the count stands where it stood
pub record HasCauseOf {T E : Type 0} (failure : E) (before now : ℕ) (outcome : Result T E) : Type 0 where
  pub later : before ≤ now
  pub failed : IsErrOf outcome failure → HasRisen before now
  pub clean : (IsErrOf outcome failure → ⊥) → now ≡ before
