-- Two lists behind one another.
use Rattle.std.proofs.Common.{◌≡◌, List, [], ◌∷◌, ◌++◌, map, refl, ap, inl, inr}
use Rattle.order_laws.specs.Chains.{In}

pub in_left : {A : Type 0} (xs ys : List A) (t : A) → In t xs → In t (xs ++ ys)
in_left [] ys t i = absurd i
in_left (x ∷ xs) ys t (inl e) = inl e
in_left (x ∷ xs) ys t (inr i) = inr (in_left xs ys t i)

pub in_right : {A : Type 0} (xs ys : List A) (t : A) → In t ys → In t (xs ++ ys)
in_right [] ys t i = i
in_right (x ∷ xs) ys t i = inr (in_right xs ys t i)

pub map-append : {A B : Type 0} (f : A → B) (xs ys : List A) → map f (xs ++ ys) ≡ map f xs ++ map f ys
map-append f [] ys = refl
map-append f (x ∷ xs) ys = ap (λ zs. f x ∷ zs) (map-append f xs ys)
