-- Rising lists: they rise by their numbers alone, no two items have one number, and what a look-up finds in one rises with it.
use Rattle.std.proofs.Common.{◌≡◌, ℕ, ◌<◌, ◌==◌, Bool, true, false, cond, Option, Some, None, List, [], ◌∷◌, map, refl, sym, ap, subst, arith, eqb-true}
use Rattle.mdb_base.specs.Rising.{IsRising}
use Rattle.mdb_base.specs.Words.{Each, found, with_some}
use Rattle.mdb_base.proofs.ForCallers.{each_map, not_same_after, rising_rest}
use Rattle.global_exec.specs.Firsts.{replaced}
use Rattle.global_exec.specs.Pasts.{IsOnly}

to_numbers : {A : Type 0} (number : A → ℕ) (xs : List A) → IsRising number xs → IsRising (λ (n : ℕ). n) (map number xs)
to_numbers number [] h = tt
to_numbers number (x ∷ []) h = tt
to_numbers number (x ∷ y ∷ ys) h = (h.0, to_numbers number (y ∷ ys) h.1)

from_numbers : {A : Type 0} (number : A → ℕ) (xs : List A) → IsRising (λ (n : ℕ). n) (map number xs) → IsRising number xs
from_numbers number [] h = tt
from_numbers number (x ∷ []) h = tt
from_numbers number (x ∷ y ∷ ys) h = (h.0, from_numbers number (y ∷ ys) h.1)

replaced_numbers : {A : Type 0} (number : A → ℕ) (test : A → Bool) (change : A → A) → ((x : A) → number (change x) ≡ number x) → (xs : List A) → map number (replaced test change xs) ≡ map number xs
replaced_numbers number test change keeps [] = refl
replaced_numbers number test change keeps (x ∷ xs) = by_test (test x) (replaced_numbers number test change keeps xs)
  where
    by_test : (b : Bool) → map number (replaced test change xs) ≡ map number xs → map number (cond b (change x ∷ xs) (x ∷ replaced test change xs)) ≡ map number (x ∷ xs)
    by_test true rest = ap (λ n. n ∷ map number xs) (keeps x)
    by_test false rest = ap (λ ns. number x ∷ ns) rest

-- another item of the same number in the place of one
pub rising_replaced : {A : Type 0} (number : A → ℕ) (test : A → Bool) (change : A → A) → ((x : A) → number (change x) ≡ number x) → (xs : List A) → IsRising number xs → IsRising number (replaced test change xs)
rising_replaced number test change keeps xs h =
    from_numbers number (replaced test change xs)
    (subst (IsRising (λ (n : ℕ). n)) (sym (replaced_numbers number test change keeps xs)) (to_numbers number xs h))

-- the number of the first item is greater
abbrev Above : {B : Type 0} → (B → ℕ) → ℕ → List B → Type 0
Above key n [] = Unit {0}
Above key n (y ∷ ys) = n < key y

pub each_above : {A : Type 0} (number : A → ℕ) (x : A) (xs : List A) → IsRising number (x ∷ xs) → Each (λ y. number x < number y) xs
each_above number x [] h = tt
each_above number x (y ∷ ys) h =
    (h.0, each_map (λ z. number y < number z) (λ z. number x < number z) (λ z less. omega (arith, h.0)) ys (each_above number y ys h.1))

-- at most one item has this number
pub only_number : {A : Type 0} (number : A → ℕ) (n : ℕ) (xs : List A) → IsRising number xs → IsOnly (λ x. number x == n) xs
only_number number n [] h = tt
only_number number n (x ∷ xs) h = (
  λ e. each_map (λ y. number x < number y) (λ y. (number y == n) ≡ false) (λ y less. not_same_after (number y) n (omega (arith, less, eqb-true (number x) n e))) xs
      (each_above number x xs h),
  only_number number n xs (rising_rest number x xs h),
)

rises_behind : {B : Type 0} (key : B → ℕ) (y : B) (ys : List B) → Above key (key y) ys → IsRising key ys → IsRising key (y ∷ ys)
rises_behind key y [] above h = tt
rises_behind key y (z ∷ zs) above h = (above, h)

module _ {A B : Type 0} (number : A → ℕ) (key : B → ℕ) (look : A → Option B) (same : (x : A) (b : B) → look x ≡ Some b → key b ≡ number x) where
  above_found : (n : ℕ) (xs : List A) → Each (λ x. n < number x) xs → Above key n (found look xs)
  above_found n [] h = tt
  above_found n (x ∷ xs) h = by_look (look x) refl (above_found n xs h.1)
    where
      by_look : (o : Option B) → look x ≡ o → Above key n (found look xs) → Above key n (with_some o (found look xs))
      by_look None is rest = rest
      by_look (Some b) is rest = omega (arith, same x b is, h.0)

  -- what is found in a rising list rises
  pub found_rises : (xs : List A) → IsRising number xs → IsRising key (found look xs)
  found_rises [] h = tt
  found_rises (x ∷ xs) h = by_look (look x) refl (found_rises xs (rising_rest number x xs h)) (above_found (number x) xs (each_above number x xs h))
    where
      by_look : (o : Option B) → look x ≡ o → IsRising key (found look xs) → Above key (number x) (found look xs) → IsRising key (with_some o (found look xs))
      by_look None is rest above = rest
      by_look (Some b) is rest above =
          rises_behind key b (found look xs) (subst (λ (n : ℕ). Above key n (found look xs)) (sym (same x b is)) above) rest
