-- Members of lists, what is found among them, and facts of each item.
use Rattle.std.proofs.Common.{◌≡◌, Bool, true, false, cond, Some, None, List, [], ◌∷◌, inl, inr, refl, subst}
use Rattle.std.proofs.lemmas.Bool.{and_parts}
use Rattle.mdb_base.specs.Words.{Each, each_of, first_where}
use Rattle.order_laws.specs.Chains.{In}

pub in_each : {A : Type 0} (P : A → Type 0) (xs : List A) (x : A) → Each P xs → In x xs → P x
in_each P [] x h i = absurd i
in_each P (y ∷ ys) x h (inl e) = subst P e h.0
in_each P (y ∷ ys) x h (inr i) = in_each P ys x h.1 i

-- what is found stands in the list
pub found_in : {A : Type 0} (test : A → Bool) (xs : List A) (x : A) → first_where test xs ≡ Some x → In x xs
found_in test [] x e = cc
found_in test (y ∷ ys) x e = by_test (test y) e (found_in test ys x)
  where
    by_test : (b : Bool) → cond b (Some y) (first_where test ys) ≡ Some x → (first_where test ys ≡ Some x → In x ys) → In x (y ∷ ys)
    by_test true e k = (let same : y ≡ x = cc in inl same)
    by_test false e k = inr (k e)

-- nothing passes where none is found
pub none_in : {A : Type 0} (test : A → Bool) (xs : List A) (x : A) → first_where test xs ≡ None → In x xs → test x ≡ true → ⊥
none_in test [] x f i t = absurd i
none_in test (y ∷ ys) x f i t = by_test (test y) refl f i (λ g j. none_in test ys x g j t)
  where
    by_test : (b : Bool) → test y ≡ b → cond b (Some y) (first_where test ys) ≡ None → In x (y ∷ ys) → (first_where test ys ≡ None → In x ys → ⊥) → ⊥
    by_test true e f i k = cc
    by_test false e f (inl s) k = (let bad : test x ≡ false = subst (λ z. test z ≡ false) s e in cc)
    by_test false e f (inr j) k = k f j

-- where each item passes, the test holds of each
pub each_passes : {A : Type 0} (test : A → Bool) (xs : List A) → each_of test xs ≡ true → Each (λ x. test x ≡ true) xs
each_passes test [] e = tt
each_passes test (x ∷ xs) e = let parts = and_parts (test x) (each_of test xs) e in (parts.0, each_passes test xs parts.1)
