-- Chains of elements of which each has an edge to the next, and what it means that there is no cycle.
-- A chain is given by its first element, the list of its middle elements and its last one.
use Rattle.std.specs.Prelude.{◌≡◌, List, [], ◌∷◌}
use Rattle.mdb_base.specs.Words.{Each, Among}

-- the item stands in the list
abbrev pub In : {A : Type 0} → A → List A → Type 0
In a xs = Among (λ x. x ≡ a) xs

-- no item stands in the list twice
abbrev pub Distinct : {A : Type 0} → List A → Type 0
Distinct [] = Unit {0}
Distinct (x ∷ xs) = (In x xs → ⊥) × Distinct xs

-- an edge leads from a to the first middle element, from each of these to the next, and from the last to b
abbrev pub Chain : {A : Type 0} → (A → A → Type 0) → A → List A → A → Type 0
Chain E a [] b = E a b
Chain E a (x ∷ xs) b = E a x × Chain E x xs b

-- no chain leads from an element back to it
abbrev pub Acyclic : {A : Type 0} → (A → A → Type 0) → Type 0
Acyclic {A} E = (a : A) (xs : List A) → Chain E a xs a → ⊥

-- an edge between two of these elements
pub record Within {A : Type 0} (E : A → A → Type 0) (ns : List A) (a b : A) : Type 0 where
  pub edge : E a b
  pub from : In a ns
  pub to : In b ns

-- a chain from a to b whose middle elements are among these
pub record Way {A : Type 0} (E : A → A → Type 0) (ns : List A) (a b : A) : Type 0 where
  pub middle : List A
  pub among : Each (λ x. In x ns) middle
  pub chain : Chain E a middle b

-- some chain leads from a to b
pub record Path {A : Type 0} (E : A → A → Type 0) (a b : A) : Type 0 where
  pub middle : List A
  pub chain : Chain E a middle b
