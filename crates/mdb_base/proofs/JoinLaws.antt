-- Lists joined, mapped and turned around, and how long they are.
use Rattle.std.specs.Prelude.{option_to_list}
use Rattle.std.specs.List.{AllByRecursion}
use Rattle.std.proofs.Common.{◌≡◌, suc, List, [], ◌∷◌, length, map, refl, ap, ◌++◌, ◌≤◌, Option, Some, None, arith, is_some, IsSome, ℕ, ◌∙◌, reverse, ◌+◌}
use Rattle.std.proofs.lemmas.List.{append_assoc, reverse-append}
use Rattle.mdb_base.specs.declared.acts.Step.{Step}
use Rattle.mdb_base.specs.Words.{found, with_some}

pub length-map : {A B : Type 0} (f : A → B) (xs : List A) → length (map f xs) ≡ length xs
length-map f [] = refl
length-map f (x ∷ xs) = ap (λ n. suc n) (length-map f xs)

pub append_nil : {A : Type 0} (xs : List A) → xs ++ [] ≡ xs
append_nil [] = refl
append_nil (x ∷ xs) = ap (λ ys. x ∷ ys) (append_nil xs)

pub length-option : {A : Type 0} (o : Option A) → length (option_to_list o) ≤ 1
length-option None = omega arith
length-option (Some x) = omega arith

pub nothing_left : {A : Type 0} (xs : List A) → length xs ≡ 0 → xs ≡ []
nothing_left [] h = refl
nothing_left (x ∷ xs) h = absurd (omega arith)

-- a program that is found is one of the site's own
pub some_steps : (program : Option (List Step)) (steps : List Step) → program ≡ Some steps → IsSome program
some_steps program steps e = ap is_some e

pub two_pieces : (old one two a b : List ℕ) → one ≡ old ++ a → two ≡ one ++ b → two ≡ old ++ (a ++ b)
two_pieces old one two a b e f = f ∙ ap (λ x. x ++ b) e ∙ append_assoc old a b

pub all_push : {A : Type 0} (P : A → Type 0) (xs : List A) (x : A) → AllByRecursion P xs → P x → AllByRecursion P (xs ++ x ∷ [])
all_push P [] x all here = (here, tt)
all_push P (y ∷ xs) x all here = (all.0, all_push P xs x all.1 here)

pub reverse_more : {A : Type 0} (x : A) (xs : List A) → reverse (x ∷ xs) ≡ reverse xs ++ x ∷ []
reverse_more x xs = reverse-append (x ∷ []) xs

pub length-append : {A : Type 0} (xs ys : List A) → length (xs ++ ys) ≡ length xs + length ys
length-append [] ys = omega arith
length-append (x ∷ xs) ys = let rest = length-append xs ys in omega (arith, rest)

pub found_append : {A B : Type 0} (look : A → Option B) (xs ys : List A) → found look (xs ++ ys) ≡ found look xs ++ found look ys
found_append look [] ys = refl
found_append {A} {B} look (x ∷ xs) ys = by_value (look x) (found_append look xs ys)
  where
    by_value : (o : Option B) → found look (xs ++ ys) ≡ found look xs ++ found look ys → with_some o (found look (xs ++ ys)) ≡ with_some o (found look xs) ++ found look ys
    by_value None e = e
    by_value (Some b) e = ap (λ (bs : List B). b ∷ bs) e
