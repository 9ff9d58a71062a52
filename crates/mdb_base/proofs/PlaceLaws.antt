-- The items of lists by their places.
use Rattle.std.proofs.Common.{◌≡◌, ℕ, zero, suc, ◌<◌, Some, List, [], ◌∷◌, length, arith, slice_get, refl, drop, drop-cons, get_or, sym, ap₂, ◌∙◌, map, take, ◌++◌, ◌+◌, Option, None, option_to_list, ap, subst, ◌-◌, length-drop, take_all}
use Rattle.std.proofs.lemmas.Option.{same_Some}
use Rattle.mdb_base.specs.Words.{item_at, found, with_some}

pub item_at-below : {A : Type 0} (xs : List A) (n : ℕ) (x : A) → item_at xs n ≡ Some x → n < length xs
item_at-below [] n x e = cc
item_at-below (y ∷ ys) zero x e = omega arith
item_at-below (y ∷ ys) (suc n) x e = let k = item_at-below ys n x e in omega (arith, k)

-- an item within a list
pub slice_get-there : {A : Type 0} (xs : List A) (place : ℕ) → place < length xs → (x : A) × (slice_get xs place ≡ Some x)
slice_get-there [] place h = absurd (omega (arith, h))
slice_get-there (x ∷ xs) zero h = (x, refl)
slice_get-there (x ∷ xs) (suc place) h = slice_get-there xs place (omega (arith, h))

-- the list from a place on
pub drop_before : {A : Type 0} (xs : List A) (i left : ℕ) (x : A) → left ≡ suc i → i < length xs → x ≡ get_or xs i x → drop i xs ≡ x ∷ drop left xs
drop_before xs i left x next within at = drop-cons xs i x within ∙ ap₂ (λ y n. y ∷ drop n xs) (sym at) (sym next)

pub drop_all : {A : Type 0} (xs : List A) → drop (length xs) xs ≡ []
drop_all [] = refl
drop_all (x ∷ xs) = drop_all xs

-- the item that an image is of
pub made_of : {A B : Type 0} (f : A → B) (xs : List A) (n : ℕ) (y : B) → slice_get (map f xs) n ≡ Some y → (x : A) × (slice_get xs n ≡ Some x) × (f x ≡ y)
made_of f [] n y e = cc
made_of f (x ∷ xs) zero y e = (x, refl, same_Some (f x) y e)
made_of f (x ∷ xs) (suc n) y e = made_of f xs n y e

pub slice_get-below : {A : Type 0} (xs : List A) (i : ℕ) (x : A) → slice_get xs i ≡ Some x → i < length xs
slice_get-below [] i x h = cc
slice_get-below (y ∷ ys) zero x h = omega arith
slice_get-below (y ∷ ys) (suc i) x h = let k = slice_get-below ys i x h in omega arith

-- one place has one item
pub slice_get-one : {A : Type 0} (xs : List A) (place : ℕ) (a b : A) → slice_get xs place ≡ Some a → slice_get xs place ≡ Some b → a ≡ b
slice_get-one xs place a b at got = let both : Some a ≡ Some b = sym at ∙ got in cc

pub take_none : {A : Type 0} (xs : List A) → take 0 xs ≡ []
take_none [] = refl
take_none (x ∷ xs) = refl

pub item_at-front : {A : Type 0} (xs ys : List A) (n : ℕ) (x : A) → item_at xs n ≡ Some x → item_at (xs ++ ys) n ≡ Some x
item_at-front [] ys n x e = cc
item_at-front (y ∷ xs) ys zero x e = e
item_at-front (y ∷ xs) ys (suc n) x e = item_at-front xs ys n x e

pub slice_get-front : {A : Type 0} (xs ys : List A) (i : ℕ) (x : A) → slice_get xs i ≡ Some x → slice_get (xs ++ ys) i ≡ Some x
slice_get-front [] ys i x h = cc
slice_get-front (z ∷ xs) ys zero x h = h
slice_get-front (z ∷ xs) ys (suc i) x h = slice_get-front xs ys i x h

pub same_lists : {A : Type 0} (xs ys : List A) → length xs ≡ length ys → ((n : ℕ) (x y : A) → slice_get xs n ≡ Some x → slice_get ys n ≡ Some y → x ≡ y) → xs ≡ ys
same_lists [] [] e h = refl
same_lists [] (y ∷ ys) e h = absurd (omega (arith, e))
same_lists (x ∷ xs) [] e h = absurd (omega (arith, e))
same_lists {A} (x ∷ xs) (y ∷ ys) e h = ap₂ (λ (z : A) (zs : List A). z ∷ zs) (h zero x y refl refl) (same_lists xs ys (omega (arith, e)) (λ n a b ea eb. h (suc n) a b ea eb))

-- what is found in one item more
pub found_next : {A B : Type 0} (look : A → Option B) (xs : List A) (n : ℕ) (x : A) → slice_get xs n ≡ Some x → found look (take (n + 1) xs) ≡ found look (take n xs) ++ option_to_list (look x)
found_next look [] n x e = cc
found_next {A} {B} look (y ∷ xs) zero x e = by_look (look y) (ap look (same_Some y x e)) where
  by_look : (o : Option B) → o ≡ look x → with_some o [] ≡ option_to_list (look x)
  by_look None i = ap option_to_list i
  by_look (Some b) i = ap option_to_list i
found_next {A} {B} look (y ∷ xs) (suc n) x e = subst (λ (k : ℕ). found look (take k (y ∷ xs)) ≡ found look (take (suc n) (y ∷ xs)) ++ option_to_list (look x)) next (by_look (look y) (found_next look xs n x e)) where
  next : suc (n + 1) ≡ suc n + 1
  next = omega arith

  by_look : (o : Option B) → found look (take (n + 1) xs) ≡ found look (take n xs) ++ option_to_list (look x) → with_some o (found look (take (n + 1) xs)) ≡ with_some o (found look (take n xs)) ++ option_to_list (look x)
  by_look None h = h
  by_look (Some b) h = ap (λ (bs : List B). b ∷ bs) h

-- as many items as are left are all that are left
pub take_left : {A : Type 0} (xs : List A) (n : ℕ) → take (length xs - n) (drop n xs) ≡ drop n xs
take_left xs n = let e = length-drop n xs in take_all (length xs - n) (drop n xs) (omega (arith, e))
