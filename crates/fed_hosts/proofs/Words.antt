-- Lists that grow at their end, and other small words.
use Rattle.std.proofs.Common.{◌≡◌, ℕ, suc, ◌+◌, ◌≤◌, Bool, true, false, cond, is_some, Option, Some, None, List, [], ◌∷◌, length, reverse, map, refl, ap, ◌∙◌, arith, Result, Ok, Err, IsErr, IsErrAnd}
use Rattle.std.specs.Prelude.{max, is_none, is_err, IfNone, OnOk}
use Rattle.std.proofs.lemmas.List.{length-reverse}
use Rattle.mdb_base.specs.Words.{how_many}
use Rattle.mdb_base.proofs.ForCallers.{how_many_joined, length-map, reverse_more}

pub length_turned : {A B : Type 0} (f : A → B) (xs : List A) → length (reverse (map f xs)) ≡ length xs
length_turned f xs = length-reverse (map f xs) ∙ length-map f xs

pub max_below : (a b n : ℕ) → a ≤ n → b ≤ n → max a b ≤ n
max_below a b n p q = omega arith

pub none_not : {A : Type 0} (o : Option A) → is_some o ≡ true → is_none o ≡ false
none_not None e = cc
none_not (Some x) e = refl

pub some_not : {A : Type 0} (o : Option A) → is_some o ≡ false → is_none o ≡ true
some_not None e = refl
some_not (Some x) e = cc

-- as many in the list turned round
pub how_many_turned : {A B : Type 0} (test : B → Bool) (f : A → B) (xs : List A) → how_many test (reverse (map f xs)) ≡ how_many (λ x. test (f x)) xs
how_many_turned test f [] = refl
how_many_turned test f (x ∷ xs) =
    ap (how_many test) (reverse_more (f x) (map f xs)) ∙ how_many_joined test (reverse (map f xs)) (f x ∷ []) ∙ from (test (f x)) (how_many_turned test f xs)
  where
    from : (b : Bool) → how_many test (reverse (map f xs)) ≡ how_many (λ x. test (f x)) xs
        → how_many test (reverse (map f xs)) + cond b 1 0 ≡ cond b (suc (how_many (λ x. test (f x)) xs)) (how_many (λ x. test (f x)) xs)
    from true e = omega (arith, e)
    from false e = omega (arith, e)

-- what `?` hands on
pub handed_on : {A Why : Type 0} (result : Result A Why) (error : Why) → IsErr result × IsErrAnd result (λ e. e ≡ error) → result ≡ Err error
handed_on (Ok x) error h = cc
handed_on {A} {Why} (Err e) error h = ap (λ (x : Why). let r : Result A Why = Err x in r) h.1

-- what is said of none
pub if_none : {A X : Type 0} (o : Option A) → o ≡ None → IfNone o X → X
if_none None e x = x
if_none (Some a) e x = cc

-- what is said of a success
pub ok_so : {T E X : Type 0} (r : Result T E) → is_err r ≡ false → OnOk r X → X
ok_so (Ok value) e x = x
ok_so (Err why) e x = cc
