-- A merge of several orders, and the least one, said by what is placed: at each place stands the least item
-- all of whose predecessors stand before it.
use Rattle.std.specs.Prelude.{◌≡◌, Bool, true, false, List, [], ◌∷◌}
use Rattle.mdb_base.specs.Words.{Each, Among, some_of, each_of, those}
use Rattle.order_laws.specs.Chains.{In}
use Rattle.order_laws.specs.Orders.{Union, is_in}

-- o names each item of each order and nothing else, and the members of each order stand in o in their order.
-- So it names each once where no order names one twice.
pub record IsMerge {A : Type 0} (same : A → A → Bool) (orders : List (List A)) (o : List A) : Type 0 where
  pub kept : Each (λ ts. those (is_in same ts) o ≡ ts) orders
  pub named : each_of (λ t. some_of (λ ts. is_in same ts t) orders) o ≡ true

-- t stands in an order and isn't placed yet, and all that stand before it in an order are placed
pub record MayCome {A : Type 0} (orders : List (List A)) (placed : List A) (t : A) : Type 0 where
  pub listed : Among (In t) orders
  pub new : In t placed → ⊥
  pub ready : (p : A) → Union orders p t → In p placed

-- behind those that are placed, at each place stands the least item that may come there, until all are placed
abbrev pub IsLeastOrder : {A : Type 0} → (A → A → Bool) → List (List A) → List A → List A → Type 0
IsLeastOrder {A} before orders placed [] = (t : A) → Among (In t) orders → In t placed
IsLeastOrder {A} before orders placed (t ∷ o) =
    MayCome orders placed t
    × ((u : A) → MayCome orders placed u → before u t ≡ false)
    × IsLeastOrder before orders (t ∷ placed) o
