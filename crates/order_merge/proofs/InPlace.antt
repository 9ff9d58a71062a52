-- A loop that writes each item of a list in place.
use Rattle.std.proofs.Common.{ℕ, zero, suc, ◌<◌, ◌≡◌, List, [], ◌∷◌, ◌++◌, length, get_or, take, drop, map, refl, inl, inr, ◌∙◌, ap, arith}
use Rattle.order_laws.specs.Chains.{In}

seam : {X : Type 0} (f : X → X) (xs : List X) (i : ℕ) (d : X) → i < length xs → get_or (map f (take i xs) ++ drop i xs) i d ≡ get_or xs i d
seam f [] i d h = absurd (omega arith)
seam f (x ∷ xs) zero d h = refl
seam f (x ∷ xs) (suc i) d h = seam f xs i d (omega arith)

-- the item that the loop comes to is as it was
pub not_yet : {X : Type 0} (f : X → X) (xs ys : List X) (i : ℕ) (d : X) → i < length xs → ys ≡ map f (take i xs) ++ drop i xs →
    get_or ys i d ≡ get_or xs i d
not_yet f xs ys i d h e = ap (λ zs. get_or zs i d) e ∙ seam f xs i d h

-- the item at a place within the list stands in it
pub item_in : {X : Type 0} (xs : List X) (i : ℕ) (d : X) → i < length xs → In (get_or xs i d) xs
item_in [] i d h = absurd (omega arith)
item_in (x ∷ xs) zero d h = inl refl
item_in (x ∷ xs) (suc i) d h = inr (item_in xs i d (omega arith))
