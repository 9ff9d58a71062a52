use Rattle.std.proofs.Common.{◌≡◌, Bool, true, false, not, List, [], ◌∷◌, inl, inr, refl, subst, sym, ap, map}
use Rattle.std.proofs.lemmas.Bool.{not-true}
use Rattle.mdb_base.specs.Words.{Each, Among, some_of, each_of, those}
use Rattle.mdb_base.proofs.ForCallers.{among_some, each_of_map}
use Rattle.order_laws.specs.Chains.{In, Distinct}
use Rattle.order_laws.specs.Orders.{Before, Union, is_in, TellsApart, Ranks}
use Rattle.order_laws.specs.Merge.{IsMerge}
use Rattle.order_laws.specs.Least.{without, IsFree, IsLeastMerge}
use Rattle.order_laws.proofs.Lists.{among_weaker, among_map, each_at, each_from, among_is, is_among, bool_is, is_in_true, in_is_true, is_in_false, not_in_false, those_in, in_those, those_same, those_all, each_of_true}

-- the test that picks all items but one
pub other : {A : Type 0} → (A → A → Bool) → A → A → Bool
other same t x = not (same t x)

-- what is left without an item are other items of the list
pub in_without : {A : Type 0} (same : A → A → Bool) → TellsApart same → (t u : A) (xs : List A) → In u (without same t xs) → In u xs × (t ≡ u → ⊥)
in_without same law t u xs i =
    let r = those_in (λ x. not (same t x)) u xs i in
    (r.0, λ e. let k : same t u ≡ true = subst (λ y. same t y ≡ true) e (law.self t) in let f : not (same t u) ≡ true = r.1 in let g : same t u ≡ false = not-true (same t u) f in cc)

pub differs : {A : Type 0} (same : A → A → Bool) → TellsApart same → (t u : A) → (t ≡ u → ⊥) → not (same t u) ≡ true
differs same law t u out =
    elim (bool_is (same t u)) [ inl e ↦ absurd (out (law.alike t u e)) | inr e ↦ ap not e ]

pub without_in : {A : Type 0} (same : A → A → Bool) → TellsApart same → (t u : A) (xs : List A) → In u xs → (t ≡ u → ⊥) → In u (without same t xs)
without_in same law t u xs i out = in_those (λ x. not (same t x)) u xs i (differs same law t u out)

-- without an item that it doesn't have a list is as it was
pub without_other : {A : Type 0} (same : A → A → Bool) → TellsApart same → (t : A) (xs : List A) → (In t xs → ⊥) → without same t xs ≡ xs
without_other same law t xs out =
    those_all (λ x. not (same t x)) xs (λ u i. differs same law t u (λ e. out (subst (λ y. In y xs) (sym e) i)))

pub not_self : {A : Type 0} (same : A → A → Bool) → TellsApart same → (t x : A) → x ≡ t → not (same t x) ≡ false
not_self same law t x e = ap not (subst (λ y. same t y ≡ true) (sym e) (law.self t))

-- without its first item, which it has once, a list is what stands behind it
pub without_first : {A : Type 0} (same : A → A → Bool) → TellsApart same → (t x : A) (xs : List A) → x ≡ t → (In t xs → ⊥) → without same t (x ∷ xs) ≡ xs
without_first same law t x xs e out =
    let first : not (same t x) ≡ false = not_self same law t x e in
    let later : without same t xs ≡ xs = without_other same law t xs out in
    rw first later

-- an order of which a free item is a member begins with it and has it once
pub free_first : {A : Type 0} (t x : A) (xs : List A) → ((p : A) → Before (x ∷ xs) p t → ⊥) → In t (x ∷ xs) → (x ≡ t) × (In t xs → ⊥)
free_first t x xs first i =
    (elim i [ inl e ↦ e | inr j ↦ absurd (first x (inl (refl, j))) ], λ j. first x (inl (refl, j)))

pub free_in_at : {A : Type 0} (t : A) (orders : List (List A)) → ((p : A) → Union orders p t → ⊥) → (ts : List A) → In ts orders → (p : A) → Before ts p t → ⊥
free_in_at t orders first ts i p h = first p (is_among (λ us. Before us p t) ts orders i h)

-- of two free items each of which is no later than the other there is only one
one_least : {A : Type 0} (before : A → A → Bool) → Ranks before → (orders : List (List A)) (t u : A) → IsFree orders t → IsFree orders u →
    ((v : A) → IsFree orders v → before v t ≡ false) → ((v : A) → IsFree orders v → before v u ≡ false) → t ≡ u
one_least before law orders t u f g lt lu = law.total t u (lu t f) (lt u g)

-- no item stands in orders of which nothing is left
pub empty_none : {A : Type 0} (orders : List (List A)) (t : A) → Each (λ ts. ts ≡ []) orders → Among (In t) orders → ⊥
empty_none [] t e i = i
empty_none (ts ∷ orders) t e (inl i) = subst (In t) e.0 i
empty_none (ts ∷ orders) t e (inr i) = empty_none orders t e.1 i

-- there is only one least merge
pub least_merge_one : {A : Type 0} (same before : A → A → Bool) → Ranks before → (orders : List (List A)) (o o' : List A) →
    IsLeastMerge same before orders o → IsLeastMerge same before orders o' → o ≡ o'
least_merge_one same before law orders [] [] h k = refl
least_merge_one same before law orders [] (u ∷ o') h k = absurd (empty_none orders u h k.0.listed)
least_merge_one same before law orders (t ∷ o) [] h k = absurd (empty_none orders t k h.0.listed)
least_merge_one same before law orders (t ∷ o) (u ∷ o') h k =
    let e : t ≡ u = one_least before law orders t u h.0 k.0 h.1 k.1 in
    let k' : IsLeastMerge same before (map (without same t) orders) o' =
    subst (λ v. IsLeastMerge same before (map (without same v) orders) o') (sym e) k.2 in
    let r : o ≡ o' = least_merge_one same before law (map (without same t) orders) o o' h.2 k' in
    cc

-- what a least merge names stands in an order
pub least_listed : {A : Type 0} (same before : A → A → Bool) → TellsApart same → (orders : List (List A)) (o : List A) →
    IsLeastMerge same before orders o → (t : A) → In t o → Among (In t) orders
least_listed same before law orders [] h t i = absurd i
least_listed same before law orders (x ∷ o) h t (inl e) = subst (λ y. Among (In y) orders) e h.0.listed
least_listed same before law orders (x ∷ o) h t (inr i) =
    among_weaker (λ ts. In t (without same x ts)) (In t) (λ ts j. (in_without same law x t ts j).0) orders
    (among_map (In t) (without same x) orders (least_listed same before law (map (without same x) orders) o h.2 t i))

-- and what it names behind an item is another item
pub least_differs : {A : Type 0} (same before : A → A → Bool) → TellsApart same → (orders : List (List A)) (x : A) (o : List A) →
    IsLeastMerge same before (map (without same x) orders) o → In x o → ⊥
least_differs same before law orders x o h i =
    let a = among_is (λ ts. In x (without same x ts)) orders
    (among_map (In x) (without same x) orders (least_listed same before law (map (without same x) orders) o h x i)) in
    (in_without same law x x a.0 a.2).1 refl

-- a least merge names no item twice
pub least_distinct : {A : Type 0} (same before : A → A → Bool) → TellsApart same → (orders : List (List A)) (o : List A) →
    IsLeastMerge same before orders o → Distinct o
least_distinct same before law orders [] h = tt
least_distinct same before law orders (x ∷ o) h =
    (least_differs same before law orders x o h.2, least_distinct same before law (map (without same x) orders) o h.2)

kept_first : {A : Type 0} (same : A → A → Bool) → TellsApart same → (t x : A) (xs : List A) (o : List A) → x ≡ t →
    (In t o → ⊥) → those (is_in same xs) o ≡ xs → those (is_in same (x ∷ xs)) (t ∷ o) ≡ x ∷ xs
kept_first same law t x xs o e out h =
    let first : is_in same (x ∷ xs) t ≡ true = in_is_true same law (x ∷ xs) t (inl e) in
    let later : those (is_in same (x ∷ xs)) o ≡ those (is_in same xs) o =
    those_same (is_in same (x ∷ xs)) (is_in same xs) o (λ u i.
    let apart : same u x ≡ false = elim (bool_is (same u x)) [
      | inl k ↦ absurd (out (subst (λ y. In y o) e (subst (λ y. In y o) (law.alike u x k) i)))
      | inr k ↦ k
    ] in rw apart refl) in
    rw first (rw later (rw h (ap (λ y. y ∷ xs) (sym e))))

kept_other : {A : Type 0} (same : A → A → Bool) → TellsApart same → (t : A) (ts : List A) (o : List A) → (In t ts → ⊥) →
    those (is_in same ts) o ≡ ts → those (is_in same ts) (t ∷ o) ≡ ts
kept_other same law t ts o out h =
    let first : is_in same ts t ≡ false = not_in_false same law ts t out in rw first h

kept_one : {A : Type 0} (same : A → A → Bool) → TellsApart same → (t : A) (ts : List A) (o : List A) →
    ((p : A) → Before ts p t → ⊥) → (In t o → ⊥) → those (is_in same (without same t ts)) o ≡ without same t ts →
    (b : Bool) → is_in same ts t ≡ b → those (is_in same ts) (t ∷ o) ≡ ts
kept_one same law t [] o first out h true e = cc
kept_one same law t (x ∷ xs) o first out h true e =
    let f = free_first t x xs first (is_in_true same law (x ∷ xs) t e) in
    let left : without same t (x ∷ xs) ≡ xs = without_first same law t x xs f.0 f.1 in
    kept_first same law t x xs o f.0 out (subst (λ ts. those (is_in same ts) o ≡ ts) left h)
kept_one same law t ts o first out h false e =
    let none : In t ts → ⊥ = is_in_false same law ts t e in
    let left : without same t ts ≡ ts = without_other same law t ts none in
    kept_other same law t ts o none (subst (λ us. those (is_in same us) o ≡ us) left h)

-- each order is what the least merge has of its members
pub least_kept : {A : Type 0} (same before : A → A → Bool) → TellsApart same → (orders : List (List A)) (o : List A) →
    IsLeastMerge same before orders o → Each (λ ts. those (is_in same ts) o ≡ ts) orders
least_kept same before law orders [] h = each_from (λ ts. those (is_in same ts) [] ≡ ts) orders (λ ts i. sym (each_at (λ us. us ≡ []) ts orders h i))
least_kept same before law orders (t ∷ o) h =
    let left = each_of_map (λ ts. those (is_in same ts) o ≡ ts) (without same t) orders (least_kept same before law (map (without same t) orders) o h.2) in
    each_from (λ ts. those (is_in same ts) (t ∷ o) ≡ ts) orders (λ ts i.
    kept_one same law t ts o (free_in_at t orders h.0.first ts i) (least_differs same before law orders t o h.2)
    (each_at (λ us. those (is_in same (without same t us)) o ≡ without same t us) ts orders left i) (is_in same ts t) refl)

-- a list of which each item stands in an order names items of the orders alone
pub named : {A : Type 0} (same : A → A → Bool) → TellsApart same → (orders : List (List A)) (o : List A) →
    ((t : A) → In t o → Among (In t) orders) → each_of (λ t. some_of (λ ts. is_in same ts t) orders) o ≡ true
named same law orders o h =
    each_of_true (λ t. some_of (λ ts. is_in same ts t) orders) o (λ t i.
    among_some (λ ts. is_in same ts t) orders
    (among_weaker (In t) (λ ts. is_in same ts t ≡ true) (λ ts j. in_is_true same law ts t j) orders (h t i)))

-- the least merge is a merge
pub least_is_merge : {A : Type 0} (same before : A → A → Bool) → TellsApart same → (orders : List (List A)) (o : List A) →
    IsLeastMerge same before orders o → IsMerge same orders o
least_is_merge same before law orders o h =
    record { kept = least_kept same before law orders o h; named = named same law orders o (least_listed same before law orders o h) }
