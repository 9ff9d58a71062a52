-- The least merge of one order is that order.
use Rattle.std.proofs.Common.{◌≡◌, Bool, true, false, cond, not, ◌&&◌, Option, Some, None, List, [], ◌∷◌, ◌++◌, map, inl, inr, refl, sym, ◌∙◌, ap}
use Rattle.mdb_base.specs.Words.{Each, those}
use Rattle.mdb_base.proofs.ForCallers.{each_map, none_some_of, those_all}
use Rattle.order_laws.specs.Chains.{In, Distinct}
use Rattle.order_laws.specs.Orders.{TellsApart}
use Rattle.order_laws.specs.Least.{without, earliest, next_item, merged, least_merge}

-- an item is unlike each of a list in which it doesn't stand
unlike_each : {A : Type 0} (same : A → A → Bool) → TellsApart same → (x : A) (xs : List A) → (In x xs → ⊥) → Each (λ y. same x y ≡ false) xs
unlike_each same t x [] new = tt
unlike_each same t x (y ∷ ys) new = (by_test (same x y) refl, unlike_each same t x ys (λ i. new (inr i)))
  where
    by_test : (b : Bool) → same x y ≡ b → same x y ≡ false
    by_test true e = absurd (new (inl (sym (t.alike x y e))))
    by_test false e = e

-- where one order is left, its first item comes next, and the others are left
next_one : {A : Type 0} (same before : A → A → Bool) → TellsApart same → (x : A) (xs : List A) → (In x xs → ⊥) → next_item same before ((x ∷ xs) ∷ []) ≡ Some x
next_one same before t x xs new =
    let unlike = none_some_of (same x) xs (unlike_each same t x xs new) in
    ap (λ b. earliest before (cond (not b && true) (x ∷ []) [])) unlike

without_one : {A : Type 0} (same : A → A → Bool) → TellsApart same → (x : A) (xs : List A) → (In x xs → ⊥) → without same x (x ∷ xs) ≡ xs
without_one same t x xs new =
    ap (λ b. cond (not b) (x ∷ those (λ y. not (same x y)) xs) (those (λ y. not (same x y)) xs)) (t.self x)
    ∙ those_all (λ y. not (same x y)) xs (each_map (λ y. same x y ≡ false) (λ y. not (same x y) ≡ true) (λ y e. ap not e) xs (unlike_each same t x xs new))

merged_one : {A : Type 0} (same before : A → A → Bool) → TellsApart same → (o : List A) → Distinct o → merged same before (o ++ []) (o ∷ []) ≡ o
merged_one same before t [] d = refl
merged_one {A} same before t (x ∷ xs) d =
    by_next (next_item same before ((x ∷ xs) ∷ [])) (next_one same before t x xs d.0) (merged_one same before t xs d.1)
  where
    by_next : (o : Option A) → o ≡ Some x → merged same before (xs ++ []) (xs ∷ []) ≡ xs
        → elim o [ None ↦ [] | Some u ↦ u ∷ merged same before (xs ++ []) (map (without same u) ((x ∷ xs) ∷ [])) ] ≡ x ∷ xs
    by_next None e h = cc
    by_next (Some u) e h =
        (let is : u ≡ x = cc in
        ap (λ v. v ∷ merged same before (xs ++ []) (map (without same v) ((x ∷ xs) ∷ []))) is
        ∙ ap (λ zs. x ∷ zs) (ap (λ o. merged same before (xs ++ []) (o ∷ [])) (without_one same t x xs d.0) ∙ h))

-- the least merge of one order
pub least_merge-one : {A : Type 0} (same before : A → A → Bool) → TellsApart same → (o : List A) → Distinct o → least_merge same before (o ∷ []) ≡ o
least_merge-one same before t o d = merged_one same before t o d
