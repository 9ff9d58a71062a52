-- Laws of the words on tests, options and lists.
use Rattle.std.proofs.Common.{◌≡◌, ℕ, zero, suc, ◌<◌, ◌≤◌, Bool, true, false, cond, Option, Some, None, List, [], ◌∷◌, length, get_or, slice_get, refl, arith}
use Rattle.mdb_base.specs.Words.{when, item_at}

-- the first, where the test is true
pub when-true : {A : Type 0} (b : Bool) (x y : A) → b ≡ true → when b x y ≡ x
unfolding when
when-true true x y e = refl
when-true false x y e = cc

-- the second, where the test is false
pub when-false : {A : Type 0} (b : Bool) (x y : A) → b ≡ false → when b x y ≡ y
unfolding when
when-false true x y e = cc
when-false false x y e = refl

-- the first, where the test is true
pub cond-true : {A : Type 0} (b : Bool) (x y : A) → b ≡ true → cond b x y ≡ x
cond-true true x y e = refl
cond-true false x y e = cc

-- the second, where the test is false
pub cond-false : {A : Type 0} (b : Bool) (x y : A) → b ≡ false → cond b x y ≡ y
cond-false true x y e = cc
cond-false false x y e = refl

-- where the second is a value and the choice none, the test is true and the first is none
pub cond-none : {A : Type 0} (b : Bool) (o : Option A) (y : A) → cond b o (Some y) ≡ None → (b ≡ true) × (o ≡ None)
cond-none true o y e = (refl, e)
cond-none false o y e = cc

-- an item within the list
pub item_at-within : {A : Type 0} (xs : List A) (n : ℕ) (d : A) → n < length xs → item_at xs n ≡ Some (get_or xs n d)
item_at-within [] n d h = absurd (omega arith)
item_at-within (x ∷ xs) zero d h = refl
item_at-within (x ∷ xs) (suc n) d h = item_at-within xs n d (omega arith)

-- no item behind the list
pub item_at-past : {A : Type 0} (xs : List A) (n : ℕ) → length xs ≤ n → item_at xs n ≡ None
item_at-past [] n h = refl
item_at-past (x ∷ xs) zero h = absurd (omega arith)
item_at-past (x ∷ xs) (suc n) h = item_at-past xs n (omega arith)

-- std's word for the item at a place says the same
pub item_at-slice_get : {A : Type 0} (xs : List A) (n : ℕ) → item_at xs n ≡ slice_get xs n
item_at-slice_get [] n = refl
item_at-slice_get (x ∷ xs) zero = refl
item_at-slice_get (x ∷ xs) (suc n) = item_at-slice_get xs n
