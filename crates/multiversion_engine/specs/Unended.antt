-- The unended runs by their ages.
use Rattle.std.specs.Prelude.{ℕ, ◌≡◌, ◌<◌, ◌≤◌, Bool, true, false, Option, Some, None, IsSome}
use Rattle.std.specs.FinMap.{get}
use Rattle.mdb_base.specs.declared.names.Tid.{Tid}
use Rattle.fed_rules.specs.Runs.{Run}
use Rattle.run_book.specs.Takers.{ByAge}

-- a run of an age that is above the first number, and not above the second
pub record HasAgeWithin (runs : ByAge) (from until : ℕ) : Type 0 where
  pub age : ℕ
  pub above : from < age
  pub within : age ≤ until
  pub there : IsSome (get runs age)

-- whether there is such a run
abbrev pub AreWithin : ByAge → ℕ → ℕ → Bool → Type 0
AreWithin runs from until true = HasAgeWithin runs from until
AreWithin runs from until false = (age : ℕ) → from < age → age ≤ until → get runs age ≡ None

-- the attempt has a run of this age
pub record IsOfAge (runs : Tid → Option Run) (tid : Tid) (age : ℕ) : Type 0 where
  pub run : Run
  pub at : runs tid ≡ Some run
  pub aged : run.age ≡ age

-- these are the runs, each by its age
pub record AreUnended (unended : ByAge) (runs : Tid → Option Run) : Type 0 where
  pub there : (age : ℕ) (tid : Tid) → get unended age ≡ Some tid → IsOfAge runs tid age
  pub back : (tid : Tid) (run : Run) → runs tid ≡ Some run → get unended run.age ≡ Some tid
