-- What holds of each item, or of some item, of a list.
use Rattle.std.proofs.Common.{List, [], ◌∷◌, ◌++◌, ◌≡◌, ℕ, Some, slice_get, ◌∙◌, inl, inr, zero, suc, subst, ◌<◌, length, get_or, arith, refl, ◌⊎◌, Bool, true, false, cond, take, Option, None, map}
use Rattle.std.specs.List.{AllByRecursion}
use Rattle.mdb_base.specs.Words.{Each, Among, item_at, inserted, found, with_some}
use Rattle.mdb_base.proofs.Words.{item_at-slice_get}

pub each_pushed : {A : Type 0} (P : A → Type 0) (xs : List A) (y : A) → Each P xs → P y → Each P (xs ++ y ∷ [])
each_pushed P [] y h k = (k, tt)
each_pushed P (x ∷ xs) y h k = (h.0, each_pushed P xs y h.1 k)

pub each_item_at : {A : Type 0} (P : A → Type 0) (xs : List A) (n : ℕ) (x : A) → Each P xs → item_at xs n ≡ Some x → P x
each_item_at P [] n x each at = cc
each_item_at P (y ∷ ys) zero x each at = let same : y ≡ x = cc in subst P same each.0
each_item_at P (y ∷ ys) (suc n) x each at = each_item_at P ys n x each.1 at

pub each_at_place : {A : Type 0} (P : A → Type 0) (xs : List A) (n : ℕ) (x : A) → Each P xs → slice_get xs n ≡ Some x → P x
each_at_place P xs n x each at = each_item_at P xs n x each (item_at-slice_get xs n ∙ at)

pub among_append : {A : Type 0} (P : A → Type 0) (xs ys : List A) → Among P xs → Among P (xs ++ ys)
among_append P [] ys m = absurd m
among_append P (x ∷ xs) ys (inl p) = inl p
among_append P (x ∷ xs) ys (inr m) = inr (among_append P xs ys m)

pub among_behind : {A : Type 0} (P : A → Type 0) (xs ys : List A) → Among P ys → Among P (xs ++ ys)
among_behind P [] ys m = m
among_behind P (x ∷ xs) ys m = inr (among_behind P xs ys m)

pub each_get_or : {A : Type 0} (P : A → Type 0) (xs : List A) (i : ℕ) (d : A) → Each P xs → i < length xs → P (get_or xs i d)
each_get_or P [] i d h lt = absurd (omega arith)
each_get_or P (x ∷ xs) zero d h lt = h.0
each_get_or P (x ∷ xs) (suc i) d h lt = each_get_or P xs i d h.1 (omega arith)

pub each_by_place : {A : Type 0} (P : A → Type 0) (xs : List A) → ((n : ℕ) (x : A) → slice_get xs n ≡ Some x → P x) → Each P xs
each_by_place P [] h = tt
each_by_place P (x ∷ xs) h = (h zero x refl, each_by_place P xs (λ n y e. h (suc n) y e))

pub among_inserted : {A : Type 0} (Q : A → Type 0) (before : A → A → Bool) (x : A) (ys : List A) → Among Q (x ∷ ys) → Among Q (inserted before x ys)
among_inserted Q before x [] h = h
among_inserted Q before x (y ∷ ys) h = by_test (before y x) h (among_inserted Q before x ys)
  where
    by_test : (b : Bool) → Q x ⊎ (Q y ⊎ Among Q ys) → (Q x ⊎ Among Q ys → Among Q (inserted before x ys)) → Among Q (cond b (y ∷ inserted before x ys) (x ∷ y ∷ ys))
    by_test true (inl first) rest = inr (rest (inl first))
    by_test true (inr (inl second)) rest = inl second
    by_test true (inr (inr more)) rest = inr (rest (inr more))
    by_test false h rest = h

pub each_take : {A : Type 0} (P : A → Type 0) (n : ℕ) (xs : List A) → Each P xs → Each P (take n xs)
each_take P zero xs h = tt
each_take P (suc n) [] h = tt
each_take P (suc n) (x ∷ xs) h = (h.0, each_take P n xs h.1)

pub among_split : {A : Type 0} (P : A → Type 0) (xs ys : List A) → Among P (xs ++ ys) → Among P xs ⊎ Among P ys
among_split P [] ys m = inr m
among_split P (x ∷ xs) ys (inl p) = inl (inl p)
among_split P (x ∷ xs) ys (inr m) = elim (among_split P xs ys m) [ inl i ↦ inl (inr i) | inr i ↦ inr i ]

pub each_of_found : {A B : Type 0} (P : B → Type 0) (look : A → Option B) (xs : List A) → ((x : A) (y : B) → look x ≡ Some y → P y) → Each P (found look xs)
each_of_found P look [] h = tt
each_of_found {A} {B} P look (x ∷ xs) h = with-one (look x) (h x) (each_of_found P look xs h)
  where
    with-one : (o : Option B) → ((y : B) → o ≡ Some y → P y) → Each P (found look xs) → Each P (with_some o (found look xs))
    with-one None f rest = rest
    with-one (Some y) f rest = (f y refl, rest)

pub each_of_mapped : {A B : Type 0} (P : B → Type 0) (f : A → B) (xs : List A) → Each (λ x. P (f x)) xs → Each P (map f xs)
each_of_mapped P f [] h = tt
each_of_mapped P f (x ∷ xs) h = (h.0, each_of_mapped P f xs h.1)

-- the same of std's word
pub all_append : {A : Type 0} (P : A → Type 0) (xs ys : List A) → AllByRecursion P xs → AllByRecursion P ys → AllByRecursion P (xs ++ ys)
all_append P [] ys h k = k
all_append P (x ∷ xs) ys h k = (h.0, all_append P xs ys h.1 k)

pub each_recursion : {A : Type 0} (P : A → Type 0) (xs : List A) → Each P xs → AllByRecursion P xs
each_recursion P [] h = tt
each_recursion P (x ∷ xs) h = (h.0, each_recursion P xs h.1)
