-- Lists turned round, and what is put into a list.
use Rattle.std.proofs.Common.{◌≡◌, ◌⊎◌, List, [], ◌∷◌, ◌++◌, map, reverse, inl, inr, refl, sym, ◌∙◌, ap, ap₂, subst}
use Rattle.mdb_base.proofs.ForCallers.{reverse_more}
use Rattle.order_laws.specs.Chains.{In, Distinct}
use Rattle.order_laws.proofs.InLaws.{in_append}
use Rattle.std.proofs.lemmas.List.{map_push}

pub map_reverse : {A B : Type 0} (f : A → B) (xs : List A) → map f (reverse xs) ≡ reverse (map f xs)
map_reverse f [] = refl
map_reverse f (x ∷ xs) = ap (λ zs. map f zs) (reverse_more x xs) ∙ (map_push f (reverse xs) x ∙ (ap (λ zs. zs ++ f x ∷ []) (map_reverse f xs) ∙ sym (reverse_more (f x) (map f xs))))

pub in_push : {A : Type 0} (xs : List A) (y z : A) → In z (xs ++ y ∷ []) → In z (y ∷ xs)
in_push [] y z i = i
in_push (x ∷ xs) y z (inl e) = inr (inl e)
in_push (x ∷ xs) y z (inr i) = elim (in_push xs y z i) [ inl e ↦ inl e | inr j ↦ inr (inr j) ]

pub in_reverse : {A : Type 0} (xs : List A) (z : A) → In z (reverse xs) → In z xs
in_reverse [] z i = i
in_reverse (x ∷ xs) z i = elim (in_push (reverse xs) x z (subst (λ zs. In z zs) (reverse_more x xs) i)) [ inl e ↦ inl e | inr j ↦ inr (in_reverse xs z j) ]

distinct_more : {A : Type 0} (x : A) (xs : List A) → Distinct xs → (In x xs → ⊥) → Distinct (xs ++ x ∷ [])
distinct_more x [] d free = ((λ i. i), tt)
distinct_more x (y ∷ xs) d free = (
  λ i. apart (in_append y xs (x ∷ []) i),
  distinct_more x xs d.1 (λ i. free (inr i)),
)
  where
    apart : In y xs ⊎ ((x ≡ y) ⊎ ⊥) → ⊥
    apart (inl j) = d.0 j
    apart (inr (inl e)) = free (inl (sym e))
    apart (inr (inr never)) = never

pub distinct_reverse : {A : Type 0} (xs : List A) → Distinct xs → Distinct (reverse xs)
distinct_reverse [] d = tt
distinct_reverse (x ∷ xs) d =
    subst Distinct (sym (reverse_more x xs)) (distinct_more x (reverse xs) (distinct_reverse xs d.1) (λ i. d.0 (in_reverse xs x i)))

-- where two functions agree on each member, their lists are one
pub map_same : {A B : Type 0} (f g : A → B) (xs : List A) → ((x : A) → In x xs → f x ≡ g x) → map f xs ≡ map g xs
map_same f g [] h = refl
map_same f g (x ∷ xs) h = ap₂ (λ y ys. y ∷ ys) (h x (inl refl)) (map_same f g xs (λ y i. h y (inr i)))
