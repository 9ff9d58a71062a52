-- How long a list is whose items bear numbers below a limit, each number at most so often.
use Rattle.std.proofs.Common.{◌≡◌, ℕ, zero, suc, ◌+◌, ◌*◌, ◌≤◌, Bool, true, false, cond, not, eqb, ltb, IsTrue, List, [], ◌∷◌, length, refl, sym, ap, ◌∙◌, arith, inl, inr}
use Rattle.std.proofs.lemmas.Bool.{eqb-true, le-ltb, cases_Bool, or_parts}
use Rattle.std.proofs.lemmas.Bool.Decides.{nat_tests}
use Rattle.mdb_base.specs.Words.{some_of, each_of, how_many}
use Rattle.mdb_base.proofs.ForCallers.{not_true}
use Rattle.fed_rules.specs.Plans.{all_differ}
use Rattle.scenario_text.proofs.ListLemmas.{first, second}

-- a number below n + 1 is below n, or it is n
below_step : (k n : ℕ) → cond (ltb k (suc n)) 1 0 ≡ cond (ltb k n) 1 0 + cond (eqb k n) 1 0
below_step k n = grind (arith, nat_tests)

how_many-cons : {A : Type 0} (test : A → Bool) (x : A) (xs : List A) → how_many test (x ∷ xs) ≡ cond (test x) 1 0 + how_many test xs
how_many-cons test x xs = by_test (test x) (how_many test xs)
  where
    by_test : (b : Bool) (n : ℕ) → cond b (suc n) n ≡ cond b 1 0 + n
    by_test true n = omega arith
    by_test false n = omega arith

flips : (a b : ℕ) → eqb a b ≡ eqb b a
flips a b = grind arith

as_one : (b : Bool) → b ≡ true → ◌≡◌ {A = ℕ} (cond b 1 0) 1
as_one true h = refl
as_one false h = absurd cc

as_none : (b : Bool) → b ≡ false → ◌≡◌ {A = ℕ} (cond b 1 0) 0
as_none true h = absurd cc
as_none false h = refl

module _ {A : Type 0} (number : A → ℕ) where
  below_more : (n : ℕ) (xs : List A) → how_many (λ x. ltb (number x) (suc n)) xs ≡ how_many (λ x. ltb (number x) n) xs + how_many (λ x. eqb (number x) n) xs
  below_more n [] = refl
  below_more n (x ∷ xs) =
      omega (arith, below_more n xs, below_step (number x) n, how_many-cons (λ x. ltb (number x) (suc n)) x xs, how_many-cons (λ x. ltb (number x) n) x xs, how_many-cons (λ x. eqb (number x) n) x xs)

  none_below : (xs : List A) → how_many (λ x. ltb (number x) 0) xs ≡ 0
  none_below [] = refl
  none_below (x ∷ xs) = ap (λ b. cond b (suc (how_many (λ y. ltb (number y) 0) xs)) (how_many (λ y. ltb (number y) 0) xs)) (le-ltb (number x) 0 (omega arith)) ∙ none_below xs

  below_few : (most n : ℕ) (xs : List A) → ((k : ℕ) → how_many (λ x. eqb (number x) k) xs ≤ most) → how_many (λ x. ltb (number x) n) xs ≤ n * most
  below_few most zero xs few = omega (arith, none_below xs)
  below_few most (suc n) xs few = omega (arith, below_more n xs, below_few most n xs few, few n)

  all_below : (n : ℕ) (xs : List A) → IsTrue (each_of (λ x. ltb (number x) n) xs) → how_many (λ x. ltb (number x) n) xs ≡ length xs
  all_below n [] h = refl
  all_below n (x ∷ xs) h =
      ap (λ b. cond b (suc (how_many (λ y. ltb (number y) n) xs)) (how_many (λ y. ltb (number y) n) xs)) (first (ltb (number x) n) _ h)
      ∙ ap suc (all_below n xs (second (ltb (number x) n) _ h))

  -- numbers below n, each at most so often
  pub length_by_number : (most n : ℕ) (xs : List A) → IsTrue (each_of (λ x. ltb (number x) n) xs) → ((k : ℕ) → how_many (λ x. eqb (number x) k) xs ≤ most) → length xs ≤ n * most
  length_by_number most n xs low few = omega (arith, all_below n xs low, below_few most n xs few)

  absent : (k : ℕ) (xs : List A) → some_of (λ y. eqb k (number y)) xs ≡ false → how_many (λ x. eqb (number x) k) xs ≡ 0
  absent k [] h = refl
  absent k (x ∷ xs) h =
      let apart = or_parts (eqb k (number x)) (some_of (λ y. eqb k (number y)) xs) h in
      ap (λ b. cond b (suc (how_many (λ y. eqb (number y) k) xs)) (how_many (λ y. eqb (number y) k) xs)) (flips (number x) k ∙ apart.0) ∙ absent k xs apart.1

  -- where all numbers differ, each stands at most once
  pub once_each : (k : ℕ) (xs : List A) → IsTrue (all_differ (λ x y. eqb (number x) (number y)) xs) → how_many (λ x. eqb (number x) k) xs ≤ 1
  once_each k [] h = omega arith
  once_each k (x ∷ xs) h =
      let new = not_true (some_of (λ y. eqb (number x) (number y)) xs) (first _ (all_differ (λ y z. eqb (number y) (number z)) xs) h) in
      let others = once_each k xs (second (not (some_of (λ y. eqb (number x) (number y)) xs)) _ h) in
      let count = how_many-cons (λ y. eqb (number y) k) x xs in
      elim (cases_Bool (eqb (number x) k)) [
        | inl here ↦
            let same : number x ≡ k = eqb-true _ _ here in
            let none = absent k xs (ap (λ n. some_of (λ y. eqb n (number y)) xs) (sym same) ∙ new) in
            let one = as_one (eqb (number x) k) here in
            omega (arith, count, none, one)
        | inr other ↦
            let none = as_none (eqb (number x) k) other in
            omega (arith, count, others, none)
      ]
