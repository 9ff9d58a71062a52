-- Laws of rising lists.
use Rattle.std.specs.Prelude.{nat_lt, Bool, true, false, cond}
use Rattle.std.proofs.Common.{ℕ, List, [], ◌∷◌, ◌≡◌, zero, suc, ◌<◌, ◌≤◌, Some, slice_get, refl, subst, arith}
use Rattle.std.proofs.lemmas.Bool.{ltb-false, ltb-true}
use Rattle.mdb_base.specs.Rising.{IsRising}
use Rattle.mdb_base.specs.Words.{Each, those}
use Rattle.mdb_base.proofs.ListLaws.{each_filtered}

pub rising_rest : {A : Type 0} (number : A → ℕ) (x : A) (xs : List A) → IsRising number (x ∷ xs) → IsRising number xs
rising_rest number x [] h = tt
rising_rest number x (y ∷ ys) h = h.1

-- the first item of a rising list is the least
pub first_least : {A : Type 0} (f : A → ℕ) (z : A) (zs : List A) (n : ℕ) (y : A) → IsRising f (z ∷ zs) → slice_get zs n ≡ Some y → f z < f y
first_least f z [] n y r at = cc
first_least f z (w ∷ ws) zero y r at = (let same : w ≡ y = cc in subst (λ (v : _). f z < f v) same r.0)
first_least f z (w ∷ ws) (suc n) y r at = (let less = first_least f w ws n y r.1 at in let first = r.0 in omega (arith, less, first))

-- an item of a rising list is less than one behind it
pub rises_by_place : {A : Type 0} (f : A → ℕ) (xs : List A) (n m : ℕ) (x y : A) → IsRising f xs → slice_get xs n ≡ Some x → slice_get xs m ≡ Some y → n < m → f x < f y
rises_by_place f [] n m x y r one other less = cc
rises_by_place f (z ∷ zs) n zero x y r one other less = absurd (omega (arith, less))
rises_by_place f (z ∷ zs) zero (suc m) x y r one other less = (let same : z ≡ x = cc in subst (λ (v : _). f v < f y) same (first_least f z zs m y r other))
rises_by_place f (z ∷ zs) (suc n) (suc m) x y r one other less = rises_by_place f zs n m x y (rising_rest f z zs r) one other (omega (arith, less))

-- so a number has one place
pub one_place : {A : Type 0} (f : A → ℕ) (xs : List A) (n m : ℕ) (x y : A) → IsRising f xs → slice_get xs n ≡ Some x → slice_get xs m ≡ Some y → f x ≡ f y → n ≡ m
one_place f xs n m x y r one other same = by_order (nat_lt n m) refl (nat_lt m n) refl
  where
    by_order : (b : Bool) → nat_lt n m ≡ b → (c : Bool) → nat_lt m n ≡ c → n ≡ m
    by_order true e c k = (let less = rises_by_place f xs n m x y r one other (ltb-true n m e) in absurd (omega (arith, less, same)))
    by_order false e true k = (let less = rises_by_place f xs m n y x r other one (ltb-true m n k) in absurd (omega (arith, less, same)))
    by_order false e false k = (let a = ltb-false n m e in let b = ltb-false m n k in omega (arith, a, b))

-- what passes a test rises, as all do
each_above : {A : Type 0} (key : A → ℕ) (n : ℕ) (x : A) (xs : List A) → n ≤ key x → IsRising key (x ∷ xs) → Each (λ y. n < key y) xs
each_above key n x [] most rising = tt
each_above key n x (y ∷ ys) most rising =
    let less = rising.0 in
    (omega (arith, less, most), each_above key n y ys (omega (arith, less, most)) rising.1)

pub above_rising : {A : Type 0} (key : A → ℕ) (x : A) (xs : List A) → Each (λ y. key x < key y) xs → IsRising key xs → IsRising key (x ∷ xs)
above_rising key x [] above rising = tt
above_rising key x (y ∷ ys) above rising = (above.0, rising)

pub those_rise : {A : Type 0} (key : A → ℕ) (test : A → Bool) (xs : List A) → IsRising key xs → IsRising key (those test xs)
those_rise key test [] rising = tt
those_rise key test (x ∷ xs) rising = by_test (test x) (those_rise key test xs (rising_rest key x xs rising))
  where
    by_test : (b : Bool) → IsRising key (those test xs) → IsRising key (cond b (x ∷ those test xs) (those test xs))
    by_test true rest = above_rising key x (those test xs) (each_filtered (λ y. key x < key y) test xs (each_above key (key x) x xs (omega arith) rising)) rest
    by_test false rest = rest
