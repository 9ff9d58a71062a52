-- The words on lists, where a list is turned round or goes on.
use Rattle.std.proofs.Common.{◌≡◌, ℕ, ◌+◌, ◌<◌, Bool, List, [], ◌∷◌, ◌++◌, length, get_or, take, reverse, Result, Ok, Err, IfOk, sym, ap, ◌∙◌}
use Rattle.std.specs.List.{list_any}
use Rattle.std.proofs.lemmas.List.Sorted.{list_any-IsPermutation, IsPermutation-reverse}
use Rattle.std.proofs.lemmas.List.{take_more, reverse-append}
use Rattle.mdb_base.specs.Words.{some_of}
use Rattle.mdb_base.proofs.ForCallers.{some_of-list_any}

-- some item passes the test also where the list is turned round
pub list_any_turned : {A : Type 0} (test : A → Bool) (xs : List A) → list_any test xs ≡ some_of test (reverse xs)
list_any_turned test xs =
    list_any-IsPermutation test xs (reverse xs) (IsPermutation-reverse xs) ∙ sym (some_of-list_any test (reverse xs))

-- two facts of the value of an Ok
pub if_ok-both : {X Y : Type 0} (r : Result X Y) (P Q R : X → Type 0) → ((x : X) → P x → Q x → R x) → IfOk r P → IfOk r Q → IfOk r R
if_ok-both (Ok x) P Q R f p q = f x p q
if_ok-both (Err e) P Q R f p q = tt

-- one item more, where the list is turned round
pub take_more-turned : {A : Type 0} (xs : List A) (i : ℕ) (x : A) → i < length xs → x ≡ get_or xs i x → reverse (take (i + 1) xs) ≡ x ∷ reverse (take i xs)
take_more-turned xs i x lt is =
    ap (λ (ys : List _). reverse ys) (take_more xs i x lt ∙ ap (λ y. take i xs ++ y ∷ []) (sym is)) ∙ reverse-append (take i xs) (x ∷ [])
