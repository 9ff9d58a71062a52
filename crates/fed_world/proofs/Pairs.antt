-- Two lists of which each item is made for the one at its place in the other.
use Rattle.std.proofs.Common.{◌≡◌, ℕ, zero, suc, ◌+◌, ◌<◌, Some, List, [], ◌∷◌, ◌++◌, length, take, drop, slice_get, inl, inr, refl, sym, ◌∙◌, ap, subst, add-one, arith}
use Rattle.std.proofs.lemmas.Option.{slice_get_within}
use Rattle.std.proofs.lemmas.List.{length_push}
use Rattle.mdb_base.proofs.ForCallers.{slice_get-one}
use Rattle.order_laws.specs.Chains.{In}
use Rattle.session_routes.proofs.ForCallers.{snoc_before, snoc_get}
use Rattle.fed_world.proofs.SeenDisks.{by_place}

-- the fact holds of the items at each place
abbrev pub EachPair : {A B : Type 0} → (A → B → Type 0) → List A → List B → Type 0
EachPair {A} {B} P xs ys = (place : ℕ) (x : A) (y : B) → slice_get xs place ≡ Some x → slice_get ys place ≡ Some y → P x y

-- of no items
pub no_pairs : {A B : Type 0} (P : A → B → Type 0) (xs : List A) (ys : List B) → ys ≡ [] → EachPair P xs ys
no_pairs P xs ys none place x y at got = (let nothing : slice_get [] place ≡ Some y = subst (λ zs. slice_get zs place ≡ Some y) none got in cc)

-- and of one more
pub pair_more : {A B : Type 0} (P : A → B → Type 0) (xs : List A) (ys all : List B) (x : A) (y : B) → EachPair P xs ys → slice_get xs (length ys) ≡ Some x → P x y → all ≡ ys ++ y ∷ [] → EachPair P xs all
pair_more P xs ys all x y so_far own fact is place a b at got =
    let more : slice_get (ys ++ y ∷ []) place ≡ Some b = subst (λ zs. slice_get zs place ≡ Some b) is got in
    by_place (P a b) place (length ys)
    (λ here.
    let first : x ≡ a = slice_get-one xs place x a (subst (λ p. slice_get xs p ≡ Some x) (sym here) own) at in
    let last : y ≡ b = slice_get-one (ys ++ y ∷ []) place y b (snoc_get ys y place here) more in
    subst (λ z. P z b) first (subst (λ z. P x z) last fact))
    (λ there.
    let most = slice_get_within (ys ++ y ∷ []) place b more in
    let size = length_push ys y in
    let less : place < length ys = omega (arith, most, size, there) in
    so_far place a b at (sym (snoc_before ys y place less) ∙ more))

-- and of one more in both
pub pair_both : {A B : Type 0} (P : A → B → Type 0) (xs : List A) (ys all : List B) (x : A) (y : B) → EachPair P xs ys → length ys ≡ length xs → P x y → all ≡ ys ++ y ∷ [] → EachPair P (xs ++ x ∷ []) all
pair_both P xs ys all x y so_far many fact is =
    pair_more P (xs ++ x ∷ []) ys all x y
    (λ place a b at got.
    let less = slice_get_within ys place b got in
    so_far place a b (sym (snoc_before xs x place (omega (arith, less, many))) ∙ at) got)
    (snoc_get xs x (length ys) many) fact is

-- ---- fronts

-- one of a front has a place there
pub front_place : {A : Type 0} (n : ℕ) (xs : List A) (x : A) → In x (take n xs) → (place : ℕ) × (place < n) × (slice_get xs place ≡ Some x)
front_place zero xs x i = absurd i
front_place (suc n) [] x i = absurd i
front_place (suc n) (y ∷ xs) x (inl same) = (zero, omega arith, ap (λ z. Some z) same)
front_place (suc n) (y ∷ xs) x (inr i) = (let (place, less, at) = front_place n xs x i in (suc place, omega (arith, less), at))

grows : {A : Type 0} (n : ℕ) (xs : List A) (x : A) → In x (take n xs) → In x (take (suc n) xs)
grows zero xs x i = absurd i
grows (suc n) [] x i = absurd i
grows (suc n) (y ∷ xs) x (inl same) = inl same
grows (suc n) (y ∷ xs) x (inr i) = inr (grows n xs x i)

next : {A : Type 0} (n : ℕ) (xs : List A) (x : A) → slice_get xs n ≡ Some x → In x (take (suc n) xs)
next n [] x e = cc
next zero (y ∷ xs) x e = (let same : y ≡ x = cc in inl same)
next (suc n) (y ∷ xs) x e = inr (next n xs x e)

-- one of a front is one of the next one
pub front_grows : {A : Type 0} (n : ℕ) (xs : List A) (x : A) → In x (take n xs) → In x (take (n + 1) xs)
front_grows n xs x i = subst (λ k. In x (take k xs)) (sym (add-one n)) (grows n xs x i)

-- so is the item behind it
pub front_next : {A : Type 0} (n : ℕ) (xs : List A) (x : A) → slice_get xs n ≡ Some x → In x (take (n + 1) xs)
front_next n xs x at = subst (λ k. In x (take k xs)) (sym (add-one n)) (next n xs x at)

-- a list is a front and the others
pub front_and_rest : {A : Type 0} (n : ℕ) (xs : List A) → xs ≡ take n xs ++ drop n xs
front_and_rest zero xs = refl
front_and_rest (suc n) [] = refl
front_and_rest (suc n) (x ∷ xs) = ap (λ ys. x ∷ ys) (front_and_rest n xs)

item_rest : {A : Type 0} (n : ℕ) (xs : List A) (x : A) → slice_get xs n ≡ Some x → xs ≡ take n xs ++ x ∷ drop (suc n) xs
item_rest n [] x e = cc
item_rest zero (y ∷ xs) x e = (let same : y ≡ x = cc in ap (λ z. z ∷ xs) same)
item_rest (suc n) (y ∷ xs) x e = ap (λ ys. y ∷ ys) (item_rest n xs x e)

-- with the item between
pub front_item_rest : {A : Type 0} (n : ℕ) (xs : List A) (x : A) → slice_get xs n ≡ Some x → xs ≡ take n xs ++ x ∷ drop (n + 1) xs
front_item_rest n xs x at = subst (λ k. xs ≡ take n xs ++ x ∷ drop k xs) (sym (add-one n)) (item_rest n xs x at)
