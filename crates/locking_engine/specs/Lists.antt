-- The lists of the keys, which keep who holds them.
use Rattle.std.specs.Prelude.{ℕ, ◌≡◌, nat_eq, Option, Some, List, [], ◌∷◌, ◌++◌}
use Rattle.std.specs.FinMap.{from_entries}
use Rattle.std.specs.Global.{Vec}
use Rattle.std.specs.List.{IsDistinct}
use Rattle.std.specs.Map.{keys_of, lookup}
use Rattle.mdb_base.specs.declared.names.Tid.{Tid}
use Rattle.run_book.specs.declared.rival.Rival.{Rival}
use Rattle.locking_engine.specs.ByAge.{IsByAge}
use Rattle.locking_engine.specs.Holders.{Holders}
use Rattle.locking_engine.specs.Places.{Place}

-- the keys with their lists
abbrev pub Lists : Type 0
Lists = List (ℕ × Vec Rival)

-- the list of a key
abbrev pub list_of : Lists → ℕ → Option (Vec Rival)
list_of lists key = lookup (nat_eq key) lists

-- the holders of one key, each with its place
abbrev pub places_at : ℕ → List Rival → List (Place × Tid)
places_at key [] = []
places_at key (rival ∷ rivals) = (record { key = key; age = rival.rank }, rival.tid) ∷ places_at key rivals

-- the holders of all keys, each with its place
abbrev pub all_places : Lists → List (Place × Tid)
all_places [] = []
all_places (entry ∷ more) = places_at entry.0 entry.1.items ++ all_places more

-- the holders that the lists keep
abbrev pub holders_in : Lists → Holders
holders_in lists = from_entries (all_places lists)

-- no key has two lists, and each list is by rising age
pub record AreInOrder (lists : Lists) : Type 0 where
  pub apart : IsDistinct nat_eq (keys_of lists)
  pub by_age : (key : ℕ) (list : Vec Rival) → list_of lists key ≡ Some list → IsByAge list.items
