-- The members of a list.
use Rattle.std.proofs.Common.{◌≡◌, ◌⊎◌, Bool, true, List, [], ◌∷◌, ◌++◌, inl, inr, sym, ap, ◌∙◌}
use Rattle.std.proofs.lemmas.Bool.{cond-true, cond-false, cond_both, cases_Bool}
use Rattle.mdb_base.specs.Words.{Among, those}

-- the item is one of the list
abbrev pub Is : {A : Type 0} → A → List A → Type 0
Is x xs = Among (λ y. y ≡ x) xs

pub is-append_left : {A : Type 0} (x : A) (xs ys : List A) → Is x xs → Is x (xs ++ ys)
is-append_left x [] ys h = absurd h
is-append_left x (y ∷ xs) ys h = elim h [ inl e ↦ inl e | inr m ↦ inr (is-append_left x xs ys m) ]

pub is-append_right : {A : Type 0} (x : A) (xs ys : List A) → Is x ys → Is x (xs ++ ys)
is-append_right x [] ys h = h
is-append_right x (y ∷ xs) ys h = inr (is-append_right x xs ys h)

pub is-append : {A : Type 0} (x : A) (xs ys : List A) → Is x (xs ++ ys) → Is x xs ⊎ Is x ys
is-append x [] ys h = inr h
is-append x (y ∷ xs) ys h =
    elim h [ inl e ↦ inl (inl e) | inr m ↦ elim (is-append x xs ys m) [ inl l ↦ inl (inr l) | inr r ↦ inr r ] ]

-- an item of a list that the test holds of is one of those
pub is-those : {A : Type 0} (test : A → Bool) (xs : List A) (x : A) → Is x xs → test x ≡ true → Is x (those test xs)
is-those test [] x h t = absurd h
is-those test (y ∷ ys) x h t =
    elim h [
      | inl e ↦ rw (cond-true (test y) (y ∷ those test ys) (those test ys) (ap test e ∙ t)) (inl e)
      | inr m ↦ cond_both (test y) (y ∷ those test ys) (those test ys) (Is x) (λ p. inr (is-those test ys x m t)) (λ p. is-those test ys x m t)
    ]

-- and each of those is an item of which it holds
pub those-is : {A : Type 0} (test : A → Bool) (xs : List A) (x : A) → Is x (those test xs) → Is x xs × (test x ≡ true)
those-is test [] x h = absurd h
those-is test (y ∷ ys) x h =
    elim (cases_Bool (test y)) [
      | inl p ↦ elim (rw (cond-true (test y) (y ∷ those test ys) (those test ys) p) at h) [
        | inl e ↦ (inl e, ap test (sym e) ∙ p)
        | inr m ↦ let r = those-is test ys x m in (inr r.0, r.1)
      ]
      | inr p ↦ let r = those-is test ys x (rw (cond-false (test y) (y ∷ those test ys) (those test ys) p) at h) in (inr r.0, r.1)
    ]
