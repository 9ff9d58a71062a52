-- The least merge, said by what is left of the orders, and computed.
use Rattle.std.specs.Prelude.{◌≡◌, Bool, false, not, cond, Option, Some, None, List, [], ◌∷◌, ◌++◌, map}
use Rattle.mdb_base.specs.Words.{Each, Among, each_of, those}
use Rattle.order_laws.specs.Chains.{In}
use Rattle.order_laws.specs.Orders.{Union, is_in}

-- the list without this item
abbrev pub without : {A : Type 0} → (A → A → Bool) → A → List A → List A
without same t xs = those (λ x. not (same t x)) xs

-- t stands in an order, and nothing stands before it
pub record IsFree {A : Type 0} (orders : List (List A)) (t : A) : Type 0 where
  pub listed : Among (In t) orders
  pub first : (p : A) → Union orders p t → ⊥

-- at each place stands the least free item of what is left of the orders, until nothing is left
abbrev pub IsLeastMerge : {A : Type 0} → (A → A → Bool) → (A → A → Bool) → List (List A) → List A → Type 0
IsLeastMerge same before orders [] = Each (λ ts. ts ≡ []) orders
IsLeastMerge {A} same before orders (t ∷ o) =
    IsFree orders t
    × ((u : A) → IsFree orders u → before u t ≡ false)
    × IsLeastMerge same before (map (without same t) orders) o

-- the items of a list behind its first one
abbrev pub rest : {A : Type 0} → List A → List A
rest [] = []
rest (x ∷ xs) = xs

-- the first items of the orders that have one
abbrev pub heads : {A : Type 0} → List (List A) → List A
heads [] = []
heads ([] ∷ orders) = heads orders
heads ((x ∷ xs) ∷ orders) = x ∷ heads orders

-- all items of the orders, one order after the other
abbrev pub all_items : {A : Type 0} → List (List A) → List A
all_items [] = []
all_items (ts ∷ orders) = ts ++ all_items orders

-- the one that is before the other, the first of two alike
abbrev pub earlier : {A : Type 0} → (A → A → Bool) → A → Option A → A
earlier before x None = x
earlier before x (Some y) = cond (before y x) y x

-- the least item
abbrev pub earliest : {A : Type 0} → (A → A → Bool) → List A → Option A
earliest before [] = None
earliest before (x ∷ xs) = Some (earlier before x (earliest before xs))

-- whether no order has t behind its first item
abbrev pub is_free : {A : Type 0} → (A → A → Bool) → List (List A) → A → Bool
is_free same orders t = each_of (λ ts. not (is_in same (rest ts) t)) orders

-- the least free item
abbrev pub next_item : {A : Type 0} → (A → A → Bool) → (A → A → Bool) → List (List A) → Option A
next_item same before orders = earliest before (those (is_free same orders) (heads orders))

-- the least free item, and then those of what is left: at most so many items as the list has
abbrev pub merged : {A : Type 0} → (A → A → Bool) → (A → A → Bool) → List A → List (List A) → List A
merged same before [] orders = []
merged same before (x ∷ xs) orders =
    elim (next_item same before orders) [
      | None ↦ []
      | Some t ↦ t ∷ merged same before xs (map (without same t) orders)
    ]

-- the least merge
abbrev pub least_merge : {A : Type 0} → (A → A → Bool) → (A → A → Bool) → List (List A) → List A
least_merge same before orders = merged same before (all_items orders) orders
