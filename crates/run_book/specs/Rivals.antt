-- A run by its name and a number of it, and the one that stands first of several.
use Rattle.std.specs.Prelude.{ℕ, ◌≡◌, ◌≤◌, Bool, true, Option, Some, None}
use Rattle.mdb_base.specs.declared.names.Tid.{Tid}
use Rattle.fed_rules.specs.Runs.{Run}
use Rattle.run_book.specs.declared.rival.Rival.{Rival}

abbrev pub rival_by : (Run → ℕ) → Run → Rival
rival_by measure run = record { tid = run.tid; rank = measure run }

-- it is a run that counts, by its age, and none that counts is older
pub record IsOldestRun (runs : Tid → Option Run) (counts : Run → Bool) (rival : Rival) : Type 0 where
  pub run : Run
  pub at : runs rival.tid ≡ Some run
  pub counts_here : counts run ≡ true
  pub rank : rival.rank ≡ run.age
  pub below : (u : Tid) (other : Run) → runs u ≡ Some other → counts other ≡ true → rival.rank ≤ other.age

-- the oldest of the runs that count, if one counts
abbrev pub IsOldest : (Tid → Option Run) → (Run → Bool) → Option Rival → Type 0
IsOldest runs counts None = (u : Tid) (run : Run) → runs u ≡ Some run → counts run ≡ true → ⊥
IsOldest runs counts (Some rival) = IsOldestRun runs counts rival
