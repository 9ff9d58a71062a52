-- Items of lists by their places, where lists grow at their end and shrink from both.
use Rattle.std.proofs.Common.{◌≡◌, ℕ, zero, suc, ◌+◌, ◌-◌, ◌<◌, ◌≤◌, ◌⊎◌, inl, inr, Option, Some, None, List, [], ◌∷◌, ◌++◌, length, drop, map, take, slice_get, get_or, slice_index_or, refl, ap, subst, arith}
use Rattle.std.specs.Prelude.{nat_lt, Bool, true, false}
use mathlib.Core.List.{IsPrefix}
use Rattle.std.proofs.lemmas.Bool.{ltb-false, ltb-true}
use Rattle.mdb_base.proofs.ForCallers.{slice_get-front, slice_get-one}

-- the item that was put at the end
pub at_end : {A : Type 0} (xs : List A) (x : A) → slice_get (xs ++ x ∷ []) (length xs) ≡ Some x
at_end [] x = refl
at_end (y ∷ ys) x = at_end ys x

-- an item stood there before, or it is the one that was put at the end
pub before_or_last : {A : Type 0} (xs : List A) (x y : A) (n : ℕ) → slice_get (xs ++ x ∷ []) n ≡ Some y → (slice_get xs n ≡ Some y) ⊎ ((n ≡ length xs) × (x ≡ y))
before_or_last [] x y zero at = inr (refl, cc)
before_or_last [] x y (suc n) at = cc
before_or_last (z ∷ zs) x y zero at = inl at
before_or_last (z ∷ zs) x y (suc n) at = next (before_or_last zs x y n at)
  where
    next : (slice_get zs n ≡ Some y) ⊎ ((n ≡ length zs) × (x ≡ y)) → (slice_get zs n ≡ Some y) ⊎ ((suc n ≡ suc (length zs)) × (x ≡ y))
    next (inl there) = inl there
    next (inr last) = inr (ap (λ (k : ℕ). suc k) last.0, last.1)

-- an item of a beginning of a list
pub of_prefix : {A : Type 0} (xs ys : List A) (n : ℕ) (y : A) → IsPrefix xs ys → slice_get xs n ≡ Some y → slice_get ys n ≡ Some y
of_prefix xs ys n y front at = subst (λ (zs : List _). slice_get zs n ≡ Some y) front.1 (slice_get-front xs front.0 n y at)

-- so much of a list of what there is for each item of another one
abbrev ListFor : {A B : Type 0} → (ℕ → A → B → Type 0) → List A → Type 0
ListFor {A} {B} R xs = (ys : List B) × ((length ys ≡ length xs) × ((n : ℕ) (x : A) (y : B) → slice_get xs n ≡ Some x → slice_get ys n ≡ Some y → R n x y))

list_more : {A B : Type 0} (R : ℕ → A → B → Type 0) (x : A) (xs : List A) → ((y : B) × R 0 x y) → ListFor (λ (n : ℕ). R (suc n)) xs → ListFor R (x ∷ xs)
list_more {A} {B} R x xs first rest = (first.0 ∷ rest.0, (ap (λ (k : ℕ). suc k) rest.1.0, each))
  where
    each : (n : ℕ) (z : A) (y : B) → slice_get (x ∷ xs) n ≡ Some z → slice_get (first.0 ∷ rest.0) n ≡ Some y → R n z y
    each zero z y e k = (let same : x ≡ z = cc in let alike : first.0 ≡ y = cc in subst (λ (w : A). R 0 w y) same (subst (λ (v : B). R 0 x v) alike first.1))
    each (suc n) z y e k = rest.1.1 n z y e k

-- a list of what there is for each item of another one
pub made_list : {A B : Type 0} (R : ℕ → A → B → Type 0) (xs : List A) → ((n : ℕ) (x : A) → slice_get xs n ≡ Some x → (y : B) × R n x y)
    → (ys : List B) × ((length ys ≡ length xs) × ((n : ℕ) (x : A) (y : B) → slice_get xs n ≡ Some x → slice_get ys n ≡ Some y → R n x y))
made_list R [] f = ([], (refl, λ n x y e k. cc))
made_list R (x ∷ xs) f = list_more R x xs (f 0 x refl) (made_list (λ (n : ℕ). R (suc n)) xs (λ n z e. f (suc n) z e))

-- a fact of the items so far, and of the next one
pub so_far_next : {A : Type 0} (P : A → Type 0) (xs : List A) (i : ℕ) (x : A) → ((n : ℕ) (y : A) → n < i → slice_get xs n ≡ Some y → P y) → slice_get xs i ≡ Some x → P x
    → (n : ℕ) (y : A) → n < i + 1 → slice_get xs n ≡ Some y → P y
so_far_next {A} P xs i x before at own n y less there = by_test (nat_lt n i) refl
  where
    by_test : (b : Bool) → nat_lt n i ≡ b → P y
    by_test true is = before n y (ltb-true n i is) there
    by_test false is = (let most = ltb-false n i is in let here : n ≡ i = omega (arith, most, less) in subst P (slice_get-one xs i x y at (subst (λ (k : ℕ). slice_get xs k ≡ Some y) here there)) own)
