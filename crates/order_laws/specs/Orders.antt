-- Lists as orders of their items: who stands before whom, and tests that tell items apart and rank them.
use Rattle.std.specs.Prelude.{◌≡◌, ◌⊎◌, Bool, true, false, List, [], ◌∷◌}
use Rattle.mdb_base.specs.Words.{Among, some_of}
use Rattle.order_laws.specs.Chains.{In}

-- a stands before b in the list
abbrev pub Before : {A : Type 0} → List A → A → A → Type 0
Before [] a b = ⊥
Before (x ∷ xs) a b = ((x ≡ a) × In b xs) ⊎ Before xs a b

-- a stands before b in one of the orders
abbrev pub Union : {A : Type 0} → List (List A) → A → A → Type 0
Union orders a b = Among (λ ts. Before ts a b) orders

-- whether the item stands in the list
abbrev pub is_in : {A : Type 0} → (A → A → Bool) → List A → A → Bool
is_in same xs a = some_of (same a) xs

-- the test holds of an item and itself, and of no two that differ
pub record TellsApart {A : Type 0} (same : A → A → Bool) : Type 0 where
  pub self : (a : A) → same a a ≡ true
  pub alike : (a b : A) → same a b ≡ true → a ≡ b

-- the test ranks any two items that differ, one way round alone, and what is before what is before a third is before that one
pub record Ranks {A : Type 0} (before : A → A → Bool) : Type 0 where
  pub one_way : (a b : A) → before a b ≡ true → before b a ≡ false
  pub onward : (a b c : A) → before a b ≡ true → before b c ≡ true → before a c ≡ true
  pub total : (a b : A) → before a b ≡ false → before b a ≡ false → a ≡ b
