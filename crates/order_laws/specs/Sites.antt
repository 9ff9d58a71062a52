-- The orders of several sites. An item with a home stands at that site alone; the others may stand at several.
use Rattle.std.specs.Prelude.{◌≡◌, Option, Some, None, List}
use Rattle.order_laws.specs.Chains.{In, Distinct}
use Rattle.order_laws.specs.Orders.{Before}

-- no site lists an item twice, an item with a home stands at no other site, and of two items without a home
-- at one site an edge leads from the one before to the one behind
pub record AreSites {S A : Type 0} (order : S → List A) (home : A → Option S) (E : A → A → Type 0) : Type 0 where
  pub distinct : (s : S) → Distinct (order s)
  pub at_home : (s h : S) (a : A) → In a (order s) → home a ≡ Some h → h ≡ s
  pub agree : (s : S) (a b : A) → Before (order s) a b → home a ≡ None → home b ≡ None → E a b

-- a stands before b at some site
pub record BeforeAtSite {S A : Type 0} (order : S → List A) (a b : A) : Type 0 where
  pub site : S
  pub before : Before (order site) a b
