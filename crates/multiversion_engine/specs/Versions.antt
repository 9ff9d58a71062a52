-- Which versions of a key the runs of a site read, and where each of them finds its own.
use Rattle.std.specs.Prelude.{ℕ, ◌≡◌, ◌<◌, ◌≤◌, Bool, true, false, nat_lt, Option, Some, List}
use Rattle.std.specs.FinMap.{get}
use Rattle.mdb_base.specs.declared.names.Key.{Key}
use Rattle.mdb_base.specs.declared.names.Tid.{Tid}
use Rattle.mdb_base.specs.Words.{those}
use Rattle.fed_rules.specs.Runs.{Start, EngineLine, Run, run_at, committed, number}
use Rattle.fed_rules.specs.Replies.{has_written}
use Rattle.site_tables.specs.declared.versions.Version.{Version}
use Rattle.site_tables.specs.Numbers.{number_of}
use Rattle.site_tables.specs.Tables.{value_of, is_newer}
use Rattle.run_book.specs.Tables.{kept_after}
use Rattle.multiversion_engine.specs.OldVersions.{Olds, place_of, IsValueBelow}

-- the newest version of a key: what all committed runs left
abbrev pub newest : Start → List EngineLine → Key → Option Version
newest start lines key = kept_after start.rows (committed start lines) key

-- the version of a key that a run of this age reads: what the committed runs with smaller numbers left
abbrev pub version_below : Start → List EngineLine → ℕ → Key → Option Version
version_below start lines n key = kept_after start.rows (those (λ run. nat_lt (number run) n) (committed start lines)) key

-- the version stands among the old ones
abbrev pub IsThere : Olds → Key → Option Version → Type 0
IsThere olds key version = get olds (place_of key (number_of version)) ≡ Some (value_of version)

-- the old versions serve each unended run
pub record AreVersions (olds : Olds) (start : Start) (lines : List EngineLine) : Type 0 where
  -- who is above an old version reads no earlier one
  pub ordered : (key : Key) (n value age : ℕ) → get olds (place_of key n) ≡ Some value → n < age → n ≤ number_of (version_below start lines age key)
  -- who isn't above the newest version finds its own among the old ones
  pub kept : (tid : Tid) (run : Run) (key : Key) → run_at start lines tid ≡ Some run → is_newer run.age (newest start lines key) ≡ false
      → IsThere olds key (version_below start lines run.age key)
  -- who has written a key has noted the version that it supersedes
  pub noted : (tid : Tid) (run : Run) (key : Key) → run_at start lines tid ≡ Some run → has_written key run ≡ true
      → IsThere olds key (newest start lines key)

-- the newest version is read, or else the last old one below the age
abbrev pub IsNewestOr : Bool → Option Version → Olds → ℕ → Key → ℕ → Type 0
IsNewestOr true kept olds age key value = value ≡ value_of kept
IsNewestOr false kept olds age key value = IsValueBelow olds key age value

-- what a run of this age reads of a key: the newest version, where the age is above its number, and else the last old one below the age
abbrev pub IsValueAt : Option Version → Olds → ℕ → Key → ℕ → Type 0
IsValueAt kept olds age key value = IsNewestOr (nat_lt (number_of kept) age) kept olds age key value
