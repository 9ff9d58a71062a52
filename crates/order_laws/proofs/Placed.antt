use Rattle.std.proofs.Common.{◌≡◌, Bool, true, false, not, ◌&&◌, ◌||◌, List, [], ◌∷◌, inl, inr, refl, subst, sym, ap, map, ◌∙◌}
use Rattle.std.proofs.lemmas.Bool.{not-true}
use Rattle.mdb_base.specs.Words.{Each, Among, those}
use Rattle.order_laws.specs.Chains.{In}
use Rattle.order_laws.specs.Orders.{Before, Union, is_in, TellsApart}
use Rattle.order_laws.specs.Merge.{MayCome, IsLeastOrder}
use Rattle.order_laws.specs.Least.{without, IsFree, IsLeastMerge}
use Rattle.order_laws.proofs.Lists.{among_weaker, among_map, map_among, among_is, is_among, bool_is, is_in_true, is_in_false, not_in_false, those_in, in_those, those_same, those_all, those_those}
use Rattle.order_laws.proofs.Orders.{before_in, union_those, those_union}
use Rattle.order_laws.proofs.Least.{empty_none}

-- whether an item is one of those that aren't placed yet
abbrev pub unplaced : {A : Type 0} → (A → A → Bool) → List A → A → Bool
unplaced same placed x = not (is_in same placed x)

-- what is left of the orders when these are placed
abbrev pub left : {A : Type 0} → (A → A → Bool) → List A → List (List A) → List (List A)
left same placed orders = map (those (unplaced same placed)) orders

is_unplaced : {A : Type 0} (same : A → A → Bool) → TellsApart same → (placed : List A) (t : A) → (In t placed → ⊥) → unplaced same placed t ≡ true
is_unplaced same law placed t out = ap not (not_in_false same law placed t out)

not_placed : {A : Type 0} (same : A → A → Bool) → TellsApart same → (placed : List A) (t : A) → unplaced same placed t ≡ true → In t placed → ⊥
not_placed same law placed t e i = is_in_false same law placed t (not-true (is_in same placed t) e) i

same_turned : {A : Type 0} (same : A → A → Bool) → TellsApart same → (a b : A) → same a b ≡ same b a
same_turned same law a b =
    elim (bool_is (same a b)) [
      | inl e ↦ let p : a ≡ b = law.alike a b e in
          let f : same b a ≡ true = subst (λ y. same y a ≡ true) p (law.self a) in cc
      | inr e ↦ elim (bool_is (same b a)) [
        | inl f ↦ let p : b ≡ a = law.alike b a f in
            let g : same a b ≡ true = subst (λ y. same y b ≡ true) p (law.self b) in cc
        | inr f ↦ cc
      ]
    ]

neither : (p s u : Bool) → s ≡ u → (not p && not s) ≡ not (u || p)
neither true true u e = cc
neither true false u e = rw (← e) refl
neither false true u e = rw (← e) refl
neither false false u e = rw (← e) refl

left_one : {A : Type 0} (same : A → A → Bool) → TellsApart same → (placed : List A) (t : A) (ts : List A) →
    without same t (those (unplaced same placed) ts) ≡ those (unplaced same (t ∷ placed)) ts
left_one same law placed t ts =
    those_those (λ x. not (same t x)) (unplaced same placed) ts
    ∙ those_same (λ x. unplaced same placed x && not (same t x)) (unplaced same (t ∷ placed)) ts
    (λ x i. neither (is_in same placed x) (same t x) (same x t) (same_turned same law t x))

-- what is left when one more is placed is what is left without it
pub left_more : {A : Type 0} (same : A → A → Bool) → TellsApart same → (placed : List A) (t : A) (orders : List (List A)) →
    map (without same t) (left same placed orders) ≡ left same (t ∷ placed) orders
left_more same law placed t [] = refl
left_more same law placed t (ts ∷ orders) =
    let now = left_one same law placed t ts in
    let later = left_more same law placed t orders in
    rw (now, later) refl

-- nothing is placed at first, so all is left
pub left_all : {A : Type 0} (same : A → A → Bool) (orders : List (List A)) → left same [] orders ≡ orders
left_all same [] = refl
left_all same (ts ∷ orders) =
    let now : those (unplaced same []) ts ≡ ts = those_all (unplaced same []) ts (λ t i. refl) in
    let later = left_all same orders in
    rw (now, later) refl

left_listed : {A : Type 0} (same : A → A → Bool) (placed : List A) (orders : List (List A)) (t : A) → Among (In t) (left same placed orders) →
    Among (In t) orders × (unplaced same placed t ≡ true)
left_listed same placed orders t i =
    let a = among_map (In t) (those (unplaced same placed)) orders i in
    let b = among_is (λ ts. In t (those (unplaced same placed) ts)) orders a in
    let c = those_in (unplaced same placed) t b.0 b.2 in
    (is_among (In t) b.0 orders b.1 c.0, c.1)

listed_left : {A : Type 0} (same : A → A → Bool) (placed : List A) (orders : List (List A)) (t : A) → Among (In t) orders →
    unplaced same placed t ≡ true → Among (In t) (left same placed orders)
listed_left same placed orders t i e =
    map_among (In t) (those (unplaced same placed)) orders
    (among_weaker (In t) (λ ts. In t (those (unplaced same placed) ts)) (λ ts j. in_those (unplaced same placed) t ts j e) orders i)

union_ends : {A : Type 0} (orders : List (List A)) (p t : A) → Union orders p t → Among (In p) orders
union_ends orders p t u = among_weaker (λ ts. Before ts p t) (In p) (λ ts h. (before_in ts p t h).0) orders u

-- what may come next is what is free among those left
pub may_free : {A : Type 0} (same : A → A → Bool) → TellsApart same → (orders : List (List A)) (placed : List A) (t : A) →
    MayCome orders placed t → IsFree (left same placed orders) t
may_free same law orders placed t m =
    record {
      listed = listed_left same placed orders t m.listed (is_unplaced same law placed t m.new);
      first = λ p u.
          not_placed same law placed p (left_listed same placed orders p (union_ends (left same placed orders) p t u)).1
          (m.ready p (union_those (unplaced same placed) orders p t u));
    }

pub free_may : {A : Type 0} (same : A → A → Bool) → TellsApart same → (orders : List (List A)) (placed : List A) (t : A) →
    IsFree (left same placed orders) t → MayCome orders placed t
free_may same law orders placed t f =
    let here = left_listed same placed orders t f.listed in
    record {
      listed = here.0;
      new = not_placed same law placed t here.1;
      ready = λ p u. elim (bool_is (is_in same placed p)) [
        | inl e ↦ is_in_true same law placed p e
        | inr e ↦ absurd (f.first p (those_union (unplaced same placed) orders p t u (ap not e) here.1))
      ];
    }

nothing_left : {A : Type 0} (same : A → A → Bool) → TellsApart same → (placed : List A) (orders : List (List A)) →
    ((t : A) → Among (In t) orders → In t placed) → Each (λ ts. ts ≡ []) (left same placed orders)
nothing_left same law placed [] h = tt
nothing_left {A} same law placed (ts ∷ orders) h = (
  none_of (those (unplaced same placed) ts)
      (λ t i. let j = those_in (unplaced same placed) t ts i in not_placed same law placed t j.1 (h t (inl j.0))),
  nothing_left same law placed orders (λ t i. h t (inr i)),
)
  where
    none_of : {B : Type 0} (xs : List B) → ((t : B) → In t xs → ⊥) → xs ≡ []
    none_of [] k = refl
    none_of (x ∷ xs) k = absurd (k x (inl refl))

all_placed : {A : Type 0} (same : A → A → Bool) → TellsApart same → (placed : List A) (orders : List (List A)) →
    Each (λ ts. ts ≡ []) (left same placed orders) → (t : A) → Among (In t) orders → In t placed
all_placed same law placed orders e t i =
    elim (bool_is (is_in same placed t)) [
      | inl f ↦ is_in_true same law placed t f
      | inr f ↦ absurd (empty_none (left same placed orders) t e (listed_left same placed orders t i (ap not f)))
    ]

placed_is : {A : Type 0} (same before : A → A → Bool) → TellsApart same → (orders : List (List A)) (placed o : List A) →
    IsLeastMerge same before (left same placed orders) o → IsLeastOrder before orders placed o
placed_is same before law orders placed [] h = all_placed same law placed orders h
placed_is same before law orders placed (t ∷ o) h = (
  free_may same law orders placed t h.0,
  (λ u m. h.1 u (may_free same law orders placed u m)),
  placed_is same before law orders (t ∷ placed) o
      (subst (λ us. IsLeastMerge same before us o) (left_more same law placed t orders) h.2),
)

left_is : {A : Type 0} (same before : A → A → Bool) → TellsApart same → (orders : List (List A)) (placed o : List A) →
    IsLeastOrder before orders placed o → IsLeastMerge same before (left same placed orders) o
left_is same before law orders placed [] h = nothing_left same law placed orders h
left_is same before law orders placed (t ∷ o) h = (
  may_free same law orders placed t h.0,
  (λ u f. h.1 u (free_may same law orders placed u f)),
  subst (λ us. IsLeastMerge same before us o) (sym (left_more same law placed t orders))
      (left_is same before law orders (t ∷ placed) o h.2),
)

-- the least merge by what is left is the one by what is placed
pub least_merge_placed : {A : Type 0} (same before : A → A → Bool) → TellsApart same → (orders : List (List A)) (o : List A) →
    IsLeastMerge same before orders o → IsLeastOrder before orders [] o
least_merge_placed same before law orders o h =
    placed_is same before law orders [] o (subst (λ us. IsLeastMerge same before us o) (sym (left_all same orders)) h)

-- and the one by what is placed is the one by what is left
pub least_order_left : {A : Type 0} (same before : A → A → Bool) → TellsApart same → (orders : List (List A)) (o : List A) →
    IsLeastOrder before orders [] o → IsLeastMerge same before orders o
least_order_left same before law orders o h =
    subst (λ us. IsLeastMerge same before us o) (left_all same orders) (left_is same before law orders [] o h)
