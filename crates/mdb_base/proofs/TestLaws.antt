-- What a test answers over the items of a list.
use Rattle.std.specs.List.{list_any, list_all}
use Rattle.std.proofs.Common.{◌≡◌, Bool, ◌||◌, List, [], ◌∷◌, refl, ap, true, false, cond, Some, sym, ◌∙◌, ◌&&◌, suc, ◌≤◌, length, arith, ◌++◌, ◌+◌, reverse}
use Rattle.mdb_base.specs.Words.{some_of, first_where, each_of, how_many, those}
use Rattle.mdb_base.proofs.BoolLaws.{or_false, or_swapped}
use Rattle.std.proofs.lemmas.List.{reverse-append}

pub some_of-list_any : {A : Type 0} (test : A → Bool) (xs : List A) → some_of test xs ≡ list_any test xs
some_of-list_any test [] = refl
some_of-list_any test (x ∷ xs) = ap (λ b. test x || b) (some_of-list_any test xs)

-- the live attempt of a transaction is one of it
pub first_passes : {A : Type 0} (test : A → Bool) (xs : List A) (y : A) → first_where test xs ≡ Some y → test y ≡ true
first_passes test [] y e = cc
first_passes test (x ∷ xs) y e = by_test (test x) refl e (first_passes test xs y) where
  by_test : (b : Bool) → test x ≡ b → cond b (Some x) (first_where test xs) ≡ Some y → (first_where test xs ≡ Some y → test y ≡ true) → test y ≡ true
  by_test true is e rest = let same : x ≡ y = cc in ap test (sym same) ∙ is
  by_test false is e rest = rest e

pub each_of-list_all : {A : Type 0} (test : A → Bool) (xs : List A) → each_of test xs ≡ list_all test xs
each_of-list_all test [] = refl
each_of-list_all test (x ∷ xs) = ap (λ b. test x && b) (each_of-list_all test xs)

pub how_many_at_most : {A : Type 0} (test : A → Bool) (xs : List A) → how_many test xs ≤ length xs
how_many_at_most test [] = omega arith
how_many_at_most test (x ∷ xs) = by_test (test x) (how_many_at_most test xs)
  where
    by_test : (b : Bool) → how_many test xs ≤ length xs → cond b (suc (how_many test xs)) (how_many test xs) ≤ suc (length xs)
    by_test true h = omega arith
    by_test false h = omega arith

pub or_assoc : (a b c : Bool) → (a || (b || c)) ≡ ((a || b) || c)
or_assoc true b c = refl
or_assoc false b c = refl

pub some_of-push : {A : Type 0} (test : A → Bool) (xs : List A) (y : A) → some_of test (xs ++ y ∷ []) ≡ (some_of test xs || test y)
some_of-push test [] y = or_false (test y)
some_of-push test (x ∷ xs) y = ap (λ b. test x || b) (some_of-push test xs y) ∙ or_assoc (test x) (some_of test xs) (test y)

pub those_shorter : {A : Type 0} (test : A → Bool) (x : A) (xs : List A) (b : Bool) → length (those test xs) ≤ length xs →
    length (cond b (x ∷ those test xs) (those test xs)) ≤ suc (length xs)
those_shorter test x xs true h = omega arith
those_shorter test x xs false h = omega arith

pub length_those : {A : Type 0} (test : A → Bool) (xs : List A) → length (those test xs) ≤ length xs
length_those test [] = omega arith
length_those test (x ∷ xs) = those_shorter test x xs (test x) (length_those test xs)

pub how_many_joined : {A : Type 0} (test : A → Bool) (xs ys : List A) → how_many test (xs ++ ys) ≡ how_many test xs + how_many test ys
how_many_joined test [] ys = omega arith
how_many_joined test (x ∷ xs) ys = from (test x) (how_many_joined test xs ys) where
  from : (b : Bool) → how_many test (xs ++ ys) ≡ how_many test xs + how_many test ys
      → cond b (suc (how_many test (xs ++ ys))) (how_many test (xs ++ ys)) ≡ cond b (suc (how_many test xs)) (how_many test xs) + how_many test ys
  from true e = omega (arith, e)
  from false e = e

pub those-append_step : {A : Type 0} (test : A → Bool) (x : A) (xs ys : List A) (b : Bool) → those test (xs ++ ys) ≡ those test xs ++ those test ys →
    cond b (x ∷ those test (xs ++ ys)) (those test (xs ++ ys)) ≡ cond b (x ∷ those test xs) (those test xs) ++ those test ys
those-append_step test x xs ys true e = ap (λ zs. x ∷ zs) e
those-append_step test x xs ys false e = e

-- those of two lists
pub those_append : {A : Type 0} (test : A → Bool) (xs ys : List A) → those test (xs ++ ys) ≡ those test xs ++ those test ys
those_append test [] ys = refl
those_append test (x ∷ xs) ys = those-append_step test x xs ys (test x) (those_append test xs ys)

pub some_reverse : {A : Type 0} (test : A → Bool) (xs : List A) → some_of test (reverse xs) ≡ some_of test xs
some_reverse test [] = refl
some_reverse test (x ∷ xs) =
    ap (some_of test) (reverse-append (x ∷ []) xs) ∙ some_of-push test (reverse xs) x ∙ ap (λ b. b || test x) (some_reverse test xs)
    ∙ or_swapped (some_of test xs) (test x)
