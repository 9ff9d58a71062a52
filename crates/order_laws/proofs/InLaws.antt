-- Which items stand in lists that are joined, mapped, turned around or kept in order.
use Rattle.std.proofs.Common.{ℕ, zero, suc, ◌≡◌, Some, List, [], ◌∷◌, slice_get, inl, inr, map, ap, true, ◌⊎◌, ◌++◌, Option, None, refl, sym, ◌∙◌, cond, Bool, false, subst, reverse}
use Rattle.mdb_base.specs.declared.names.Tid.{Tid}
use Rattle.mdb_base.specs.Names.{tid_before, same_tx}
use Rattle.mdb_base.specs.Words.{item_at, found, with_some, Each, inserted, Among, those}
use Rattle.mdb_base.specs.declared.names.Tx.{Tx}
use Rattle.mdb_base.proofs.ForCallers.{append_each, reverse_more, same_tx-equal, same_tx-refl}
use Rattle.order_laws.specs.Chains.{In, Distinct}
use Rattle.order_laws.proofs.Names.{ranks_tids}

-- an item that is read stands in the list, at a place within it
pub slice_get-in : {A : Type 0} (xs : List A) (i : ℕ) (x : A) → slice_get xs i ≡ Some x → In x xs
slice_get-in [] i x h = cc
slice_get-in (y ∷ ys) zero x h = let e : y ≡ x = cc in inl e
slice_get-in (y ∷ ys) (suc i) x h = inr (slice_get-in ys i x h)

pub in_map : {A B : Type 0} (f : A → B) (x : A) (xs : List A) → In x xs → In (f x) (map f xs)
in_map f x [] i = i
in_map f x (z ∷ xs) (inl e) = inl (ap f e)
in_map f x (z ∷ xs) (inr i) = inr (in_map f x xs i)

pub before_irreflexive : (tid : Tid) → tid_before tid tid ≡ true → ⊥
before_irreflexive tid e = let back = ranks_tids.one_way tid tid e in cc

pub item_at-in : {A : Type 0} (xs : List A) (n : ℕ) (x : A) → item_at xs n ≡ Some x → In x xs
item_at-in [] n x e = cc
item_at-in (y ∷ xs) zero x e = inl (cc)
item_at-in (y ∷ xs) (suc n) x e = inr (item_at-in xs n x e)

pub in_append : {A : Type 0} (y : A) (xs ys : List A) → In y (xs ++ ys) → In y xs ⊎ In y ys
in_append y [] ys i = inr i
in_append y (x ∷ xs) ys (inl e) = inl (inl e)
in_append y (x ∷ xs) ys (inr i) = elim (in_append y xs ys i) [ inl j ↦ inl (inr j) | inr j ↦ inr j ]

-- what is found for one of a list is among what is found
pub found_there : {A B : Type 0} (look : A → Option B) (x : A) (b : B) (xs : List A) → In x xs → look x ≡ Some b → In b (found look xs)
found_there look x b [] i e = absurd i
found_there {A} {B} look x b (y ∷ ys) i e = by_look (look y) refl i (λ j. found_there look x b ys j e)
  where
    by_look : (o : Option B) → look y ≡ o → In x (y ∷ ys) → (In x ys → In b (found look ys)) → In b (with_some o (found look ys))
    by_look None q (inl same) rest = (let none : None ≡ Some b = sym q ∙ (ap look same ∙ e) in cc)
    by_look None q (inr j) rest = rest j
    by_look (Some c) q (inl same) rest = (let both : Some c ≡ Some b = sym q ∙ (ap look same ∙ e) in let one : c ≡ b = cc in inl one)
    by_look (Some c) q (inr j) rest = inr (rest j)

-- a fact of each one that is found, by the item that gives it
pub each_found_from : {A B : Type 0} (P : B → Type 0) (look : A → Option B) (xs : List A)
    → ((x : A) (y : B) → In x xs → look x ≡ Some y → P y) → Each P (found look xs)
each_found_from P look [] f = tt
each_found_from P look (x ∷ xs) f = by_look (look x) refl (each_found_from P look xs (λ z y i e. f z y (inr i) e))
  where
    by_look : (o : Option _) → look x ≡ o → Each P (found look xs) → Each P (with_some o (found look xs))
    by_look None is rest = rest
    by_look (Some y) is rest = (f x y (inl refl) is, rest)

pub inserted_first : (t : Tid) (tids : List Tid) → Each (λ u. tid_before t u ≡ true) tids → inserted tid_before t tids ≡ t ∷ tids
inserted_first t [] h = refl
inserted_first t (u ∷ tids) h = ap (λ b. cond b (u ∷ inserted tid_before t tids) (t ∷ u ∷ tids)) (ranks_tids.one_way t u h.0)

pub same_tids : (t : Tid) (ts : List Tid) → In t ts → Among (λ (u : Tid). u.tx ≡ t.tx) ts
same_tids t [] i = i
same_tids t (u ∷ ts) (inl e) = inl (ap (λ (v : Tid). v.tx) e)
same_tids t (u ∷ ts) (inr i) = inr (same_tids t ts i)

pub same_tx-false_back : (a b : Tx) → same_tx a b ≡ false → same_tx b a ≡ false
same_tx-false_back a b e = by_test (same_tx b a) refl
  where
    by_test : (c : Bool) → same_tx b a ≡ c → same_tx b a ≡ false
    by_test false q = q
    by_test true q = (let same = same_tx-equal b a q in let yes : same_tx a b ≡ true = subst (λ t. same_tx a t ≡ true) (sym same) (same_tx-refl a) in let clash = sym e ∙ yes in cc)

pub none_pass : {A : Type 0} (test : A → Bool) (xs : List A) → ((x : A) → In x xs → test x ≡ false) → those test xs ≡ []
none_pass test [] none = refl
none_pass test (x ∷ xs) none = ap (λ b. cond b (x ∷ those test xs) (those test xs)) (none x (inl refl)) ∙ none_pass test xs (λ y i. none y (inr i))

pub those-in : {A : Type 0} (test : A → Bool) (y : A) (xs : List A) → In y (those test xs) → (test y ≡ true) × In y xs
those-in test y [] i = elim i [ ]
those-in test y (x ∷ xs) i = by_test (test x) refl i (those-in test y xs)
  where
    by_test : (b : Bool) → test x ≡ b → In y (cond b (x ∷ those test xs) (those test xs)) → (In y (those test xs) → (test y ≡ true) × In y xs)
        → (test y ≡ true) × ((x ≡ y) ⊎ In y xs)
    by_test true is (inl e) rest = (ap test (sym e) ∙ is, inl e)
    by_test true is (inr i) rest = let r = rest i in (r.0, inr r.1)
    by_test false is i rest = let r = rest i in (r.0, inr r.1)

pub each_reverse : {A : Type 0} (P : A → Type 0) (xs : List A) → Each P xs → Each P (reverse xs)
each_reverse P [] h = tt
each_reverse P (x ∷ xs) h = subst (Each P) (sym (reverse_more x xs)) (append_each P (reverse xs) (x ∷ []) (each_reverse P xs h.1) (h.0, tt))

pub in_inserted : {A : Type 0} (before : A → A → Bool) (x y : A) (xs : List A) → In y (inserted before x xs) → (x ≡ y) ⊎ In y xs
in_inserted before x y [] (inl e) = inl e
in_inserted before x y [] (inr i) = absurd i
in_inserted {A} before x y (z ∷ zs) i = by_test (before z x) i (in_inserted before x y zs)
  where
    by_test : (t : Bool) → In y (cond t (z ∷ inserted before x zs) (x ∷ z ∷ zs)) → (In y (inserted before x zs) → (x ≡ y) ⊎ In y zs) → (x ≡ y) ⊎ In y (z ∷ zs)
    by_test true (inl e) h = inr (inl e)
    by_test true (inr j) h = elim (h j) [ inl e ↦ inl e | inr k ↦ inr (inr k) ]
    by_test false (inl e) h = inl e
    by_test false (inr j) h = inr j

pub append_in : {A : Type 0} (y : A) (xs ys : List A) → In y xs ⊎ In y ys → In y (xs ++ ys)
append_in y [] ys (inl i) = elim i [ ]
append_in y [] ys (inr i) = i
append_in y (x ∷ xs) ys (inl (inl e)) = inl e
append_in y (x ∷ xs) ys (inl (inr i)) = inr (append_in y xs ys (inl i))
append_in y (x ∷ xs) ys (inr i) = inr (append_in y xs ys (inr i))

pub in_parts : {A : Type 0} (xs ys : List A) (t : A) → In t (xs ++ ys) → In t xs ⊎ In t ys
in_parts [] ys t i = inr i
in_parts (x ∷ xs) ys t (inl e) = inl (inl e)
in_parts (x ∷ xs) ys t (inr i) = elim (in_parts xs ys t i) [ inl j ↦ inl (inr j) | inr j ↦ inr j ]

pub distinct_joined : {A : Type 0} (xs ys : List A) → Distinct xs → Distinct ys → ((t : A) → In t xs → In t ys → ⊥) → Distinct (xs ++ ys)
distinct_joined [] ys d e h = e
distinct_joined (x ∷ xs) ys d e h =
    (λ i. elim (in_parts xs ys x i) [ inl j ↦ d.0 j | inr j ↦ h x (inl refl) j ], distinct_joined xs ys d.1 e (λ t i j. h t (inr i) j))
