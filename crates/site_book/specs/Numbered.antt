-- A list with an item or nothing at the number of each transaction, as a finite map.
use Rattle.std.specs.Prelude.{ℕ, suc, Option, Some, None, List, [], ◌∷◌}
use Rattle.std.specs.FinMap.{FinMap, from_entries}
use Rattle.mdb_base.specs.declared.names.Tx.{Tx}
use Rattle.mdb_base.specs.Names.{tx_cmp}

-- the items with their transactions, where the list begins at this number
abbrev pub items_from : {A : Type 0} → ℕ → List (Option A) → List (Tx × A)
items_from n [] = []
items_from n (None ∷ items) = items_from (suc n) items
items_from n (Some item ∷ items) = (record { 0 = n }, item) ∷ items_from (suc n) items

-- at each transaction what stands at its number
abbrev pub by_number : {A : Type 0} → List (Option A) → FinMap tx_cmp A
by_number items = from_entries (items_from 0 items)
