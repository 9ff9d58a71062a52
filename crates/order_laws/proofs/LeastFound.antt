use Rattle.std.proofs.Common.{suc, ◌<◌, ◌≤◌, ◌≡◌, Bool, true, false, not, cond, Option, Some, None, List, [], ◌∷◌, length, inl, inr, refl, subst, sym, ap, map, arith, length-append}
use Rattle.std.proofs.lemmas.Bool.{not-true}
use Rattle.mdb_base.specs.Words.{Each, Among, those}
use Rattle.mdb_base.proofs.ForCallers.{length_those}
use Rattle.order_laws.specs.Chains.{In, Acyclic, Path}
use Rattle.order_laws.specs.Orders.{Before, Union, is_in, TellsApart, Ranks}
use Rattle.order_laws.specs.Least.{without, IsFree, IsLeastMerge, rest, heads, all_items, is_free, next_item, merged, least_merge}
use Rattle.order_laws.proofs.Chains.{acyclic_map}
use Rattle.order_laws.proofs.Lists.{among_is, is_among, not_false, bool_is, is_in_true, is_in_false, not_in_false, those_in, in_those, each_of_at, each_of_true, each_of_false}
use Rattle.order_laws.proofs.Orders.{union_those, before_rest}
use Rattle.order_laws.proofs.Source.{some_source, path_one}
use Rattle.order_laws.proofs.Earliest.{earliest_none, earliest_is}
use Rattle.order_laws.proofs.Least.{not_self}

-- the first item of an order is a first item of the orders
pub head_in : {A : Type 0} (orders : List (List A)) (x : A) (xs : List A) → In (x ∷ xs) orders → In x (heads orders)
head_in [] x xs i = absurd i
head_in ([] ∷ orders) x xs (inl e) = cc
head_in ([] ∷ orders) x xs (inr i) = head_in orders x xs i
head_in ((y ∷ ys) ∷ orders) x xs (inl e) = let f : y ≡ x = cc in inl f
head_in ((y ∷ ys) ∷ orders) x xs (inr i) = inr (head_in orders x xs i)

-- a first item stands in an order
pub head_listed : {A : Type 0} (orders : List (List A)) (t : A) → In t (heads orders) → Among (In t) orders
head_listed [] t i = absurd i
head_listed ([] ∷ orders) t i = inr (head_listed orders t i)
head_listed ((x ∷ xs) ∷ orders) t (inl e) = inl (inl e)
head_listed ((x ∷ xs) ∷ orders) t (inr i) = inr (head_listed orders t i)

-- where there is no first item nothing is left
pub no_heads : {A : Type 0} (orders : List (List A)) → heads orders ≡ [] → Each (λ ts. ts ≡ []) orders
no_heads [] e = tt
no_heads ([] ∷ orders) e = (refl, no_heads orders e)
no_heads ((x ∷ xs) ∷ orders) e = cc

not_behind : {A : Type 0} (same : A → A → Bool) → TellsApart same → (t : A) (ts : List A) → not (is_in same (rest ts) t) ≡ true →
    (p : A) → Before ts p t → ⊥
not_behind same law t [] e p h = h
not_behind same law t (x ∷ xs) e p h =
    is_in_false same law xs t (not-true (is_in same xs t) e) (before_rest x xs p t h)

-- a first item that no order has behind its own first one is free
pub free_is : {A : Type 0} (same : A → A → Bool) → TellsApart same → (orders : List (List A)) (t : A) →
    In t (heads orders) → is_free same orders t ≡ true → IsFree orders t
free_is same law orders t i e =
    record {
      listed = head_listed orders t i;
      first = λ p h.
          let a = among_is (λ ts. Before ts p t) orders h in
          not_behind same law t a.0 (each_of_at (λ ts. not (is_in same (rest ts) t)) orders a.0 e a.1) p a.2;
    }

free_head : {A : Type 0} (orders : List (List A)) (t : A) (ts : List A) → In ts orders → In t ts → ((p : A) → Before ts p t → ⊥) → In t (heads orders)
free_head orders t [] i j first = absurd j
free_head orders t (x ∷ xs) i (inl e) first = subst (λ y. In y (heads orders)) e (head_in orders x xs i)
free_head orders t (x ∷ xs) i (inr j) first = absurd (first x (inl (refl, j)))

free_rest : {A : Type 0} (same : A → A → Bool) → TellsApart same → (t : A) (ts : List A) → ((p : A) → Before ts p t → ⊥) →
    not (is_in same (rest ts) t) ≡ true
free_rest same law t [] first = refl
free_rest same law t (x ∷ xs) first = ap not (not_in_false same law xs t (λ j. first x (inl (refl, j))))

-- a free item is a first item that no order has behind its own first one
pub is_free_in : {A : Type 0} (same : A → A → Bool) → TellsApart same → (orders : List (List A)) (t : A) → IsFree orders t →
    In t (those (is_free same orders) (heads orders))
is_free_in {A} same law orders t f =
    let at : (ts : List A) → In ts orders → (p : A) → Before ts p t → ⊥ = λ ts i p h. f.first p (is_among (λ us. Before us p t) ts orders i h) in
    let a = among_is (In t) orders f.listed in
    in_those (is_free same orders) t (heads orders) (free_head orders t a.0 a.1 a.2 (at a.0 a.1))
    (each_of_true (λ ts. not (is_in same (rest ts) t)) orders (λ ts i. free_rest same law t ts (at ts i)))

behind_head : {A : Type 0} (same : A → A → Bool) → TellsApart same → (orders : List (List A)) (t : A) (ts : List A) → In ts orders →
    not (is_in same (rest ts) t) ≡ false → (p : A) × In p (heads orders) × Path (Union orders) p t
behind_head same law orders t [] i e = cc
behind_head same law orders t (x ∷ xs) i e =
    let k : In t xs = is_in_true same law xs t (not_false (is_in same xs t) e) in
    (x, head_in orders x xs i, path_one (Union orders) x t (is_among (λ us. Before us x t) (x ∷ xs) orders i (inl (refl, k))))

none_free : {A : Type 0} (same : A → A → Bool) → TellsApart same → (orders : List (List A)) → Acyclic (Union orders) →
    (hs : List A) → heads orders ≡ hs → those (is_free same orders) (heads orders) ≡ [] → hs ≡ []
none_free same law orders none [] is e = refl
none_free same law orders none (h ∷ hs) is e =
    absurd (some_source (Union orders) none h hs (λ m i out.
    let here : In m (heads orders) = subst (In m) (sym is) i in
    elim (bool_is (is_free same orders m)) [
      | inl f ↦ let gone : In m (those (is_free same orders) (heads orders)) = in_those (is_free same orders) m (heads orders) here f in
          let none : ⊥ = subst (In m) e gone in none
      | inr f ↦
          let a = among_is (λ ts. not (is_in same (rest ts) m) ≡ false) orders (each_of_false (λ ts. not (is_in same (rest ts) m)) orders f) in
          let b = behind_head same law orders m a.0 a.1 a.2 in
          out b.0 (subst (In b.0) is b.1) b.2
    ]))

-- in orders without a cycle there is a free item as long as something is left
pub next_none : {A : Type 0} (same before : A → A → Bool) → TellsApart same → (orders : List (List A)) → Acyclic (Union orders) →
    next_item same before orders ≡ None → Each (λ ts. ts ≡ []) orders
next_none same before law orders none e =
    no_heads orders (none_free same law orders none (heads orders) refl
    (earliest_none before (those (is_free same orders) (heads orders)) e))

-- the next item is the least free one
pub record IsNext {A : Type 0} (before : A → A → Bool) (orders : List (List A)) (t : A) : Type 0 where
  pub free : IsFree orders t
  pub least : (u : A) → IsFree orders u → before u t ≡ false

pub next_some : {A : Type 0} (same before : A → A → Bool) → TellsApart same → Ranks before → (orders : List (List A)) (t : A) →
    next_item same before orders ≡ Some t → IsNext before orders t
next_some same before law ranks orders t e =
    let best = earliest_is before ranks (those (is_free same orders) (heads orders)) t e in
    let at = those_in (is_free same orders) t (heads orders) best.item in
    record { free = free_is same law orders t at.0 at.1; least = λ u f. best.least u (is_free_in same law orders u f) }

those_fewer_step : {A : Type 0} (test : A → Bool) (t x : A) (xs : List A) (b : Bool) → test x ≡ b → test t ≡ false → In t (x ∷ xs) →
    (In t xs → length (those test xs) < length xs) → length (cond b (x ∷ those test xs) (those test xs)) < suc (length xs)
those_fewer_step test t x xs true e f (inl p) ih = let g : test t ≡ true = subst (λ y. test y ≡ true) p e in cc
those_fewer_step test t x xs true e f (inr i) ih = let h = ih i in omega arith
those_fewer_step test t x xs false e f i ih = let h = length_those test xs in omega arith

those_fewer : {A : Type 0} (test : A → Bool) (t : A) (xs : List A) → test t ≡ false → In t xs → length (those test xs) < length xs
those_fewer test t [] f i = absurd i
those_fewer test t (x ∷ xs) f i = those_fewer_step test t x xs (test x) refl f i (those_fewer test t xs f)

-- orders cut down to some items have no more items than before
pub all_those : {A : Type 0} (test : A → Bool) (orders : List (List A)) → length (all_items (map (those test) orders)) ≤ length (all_items orders)
all_those test [] = omega arith
all_those test (ts ∷ orders) =
    let h = length_those test ts in
    let k = all_those test orders in
    omega (arith, length-append (those test ts) (all_items (map (those test) orders)), length-append ts (all_items orders))

-- and fewer where an item is left out
pub all_fewer : {A : Type 0} (test : A → Bool) (t : A) (orders : List (List A)) → test t ≡ false → Among (In t) orders →
    length (all_items (map (those test) orders)) < length (all_items orders)
all_fewer test t [] f i = absurd i
all_fewer test t (ts ∷ orders) f (inl i) =
    let h = those_fewer test t ts f i in
    let k = all_those test orders in
    omega (arith, length-append (those test ts) (all_items (map (those test) orders)), length-append ts (all_items orders))
all_fewer test t (ts ∷ orders) f (inr i) =
    let h = length_those test ts in
    let k = all_fewer test t orders f i in
    omega (arith, length-append (those test ts) (all_items (map (those test) orders)), length-append ts (all_items orders))

no_items : {A : Type 0} (orders : List (List A)) → length (all_items orders) ≤ 0 → Each (λ ts. ts ≡ []) orders
no_items [] h = tt
no_items ([] ∷ orders) h = (refl, no_items orders h)
no_items ((x ∷ xs) ∷ orders) h = absurd (omega arith)

-- what is left without an item has no cycle either
pub acyclic_without : {A : Type 0} (same : A → A → Bool) (t : A) (orders : List (List A)) → Acyclic (Union orders) →
    Acyclic (Union (map (without same t) orders))
acyclic_without {A} same t orders none =
    acyclic_map (Union (map (without same t) orders)) (Union orders) (λ (a : A). a) (union_those (λ x. not (same t x)) orders) none

merged_step : {A : Type 0} (same before : A → A → Bool) → TellsApart same → Ranks before → (n : List A) (orders : List (List A)) →
    Acyclic (Union orders) → length (all_items orders) ≤ suc (length n) →
    ((left : List (List A)) → Acyclic (Union left) → length (all_items left) ≤ length n → IsLeastMerge same before left (merged same before n left)) →
    (next : Option A) → next_item same before orders ≡ next →
    IsLeastMerge same before orders (elim next [ None ↦ [] | Some t ↦ t ∷ merged same before n (map (without same t) orders) ])
merged_step same before law ranks n orders none enough ih None e = next_none same before law orders none e
merged_step same before law ranks n orders none enough ih (Some t) e =
    let next = next_some same before law ranks orders t e in
    let fewer = all_fewer (λ x. not (same t x)) t orders (not_self same law t t refl) next.free.listed in
    (next.free, next.least, ih (map (without same t) orders) (acyclic_without same t orders none) (omega arith))

merged_is : {A : Type 0} (same before : A → A → Bool) → TellsApart same → Ranks before → (n : List A) (orders : List (List A)) →
    Acyclic (Union orders) → length (all_items orders) ≤ length n → IsLeastMerge same before orders (merged same before n orders)
merged_is same before law ranks [] orders none enough = no_items orders enough
merged_is same before law ranks (x ∷ n) orders none enough =
    merged_step same before law ranks n orders none enough (merged_is same before law ranks n) (next_item same before orders) refl

-- orders without a cycle have a least merge, the one that is computed
pub merged_is_least : {A : Type 0} (same before : A → A → Bool) → TellsApart same → Ranks before → (orders : List (List A)) →
    Acyclic (Union orders) → IsLeastMerge same before orders (least_merge same before orders)
merged_is_least same before law ranks orders none = merged_is same before law ranks (all_items orders) orders none (omega arith)

none_left_by : {A : Type 0} (same before : A → A → Bool) → TellsApart same → Ranks before → (orders : List (List A)) → Acyclic (Union orders) →
    ((t : A) → IsFree orders t → ⊥) → (next : Option A) → next_item same before orders ≡ next → Each (λ ts. ts ≡ []) orders
none_left_by same before law ranks orders none free None e = next_none same before law orders none e
none_left_by same before law ranks orders none free (Some t) e = absurd (free t (next_some same before law ranks orders t e).free)

-- in orders without a cycle nothing is left where no item is free
pub none_left : {A : Type 0} (same before : A → A → Bool) → TellsApart same → Ranks before → (orders : List (List A)) → Acyclic (Union orders) →
    ((t : A) → IsFree orders t → ⊥) → Each (λ ts. ts ≡ []) orders
none_left same before law ranks orders none free = none_left_by same before law ranks orders none free (next_item same before orders) refl
