use Rattle.std.proofs.Common.{List, [], ◌∷◌, ◌++◌, inl, inr, refl, subst, sym}
use Rattle.order_laws.specs.Chains.{In, Chain, Acyclic, Path}
use Rattle.order_laws.proofs.Chains.{chain_append}

-- two chains, one after the other
pub path_append : {A : Type 0} (E : A → A → Type 0) (a c b : A) → Path E a c → Path E c b → Path E a b
path_append E a c b v w =
    record { middle = v.middle ++ c ∷ w.middle; chain = chain_append E a v.middle c w.middle b v.chain w.chain }

-- one edge
pub path_one : {A : Type 0} (E : A → A → Type 0) (a b : A) → E a b → Path E a b
path_one E a b e = record { middle = []; chain = e }

-- in a relation without a cycle it can't be that each item of a list has one of the list from which a chain leads to it
pub some_source : {A : Type 0} (E : A → A → Type 0) → Acyclic E → (x : A) (xs : List A) →
    ((m : A) → In m (x ∷ xs) → ((p : A) → In p (x ∷ xs) → Path E p m → ⊥) → ⊥) → ⊥
some_source E none x [] h =
    h x (inl refl) (λ p i w. elim i [ inl e ↦ none x w.middle (subst (λ y. Chain E y w.middle x) (sym e) w.chain) | inr f ↦ f ])
some_source E none x (y ∷ ys) h =
    some_source E none y ys (λ m i out. h m (inr i) (λ p j w. elim j [
      | inl e ↦ h x (inl refl) (λ q k v. elim k [
        | inl f ↦ none x v.middle (subst (λ z. Chain E z v.middle x) (sym f) v.chain)
        | inr k ↦ out q k (path_append E q x m v (subst (λ z. Path E z m) (sym e) w))
      ])
      | inr j ↦ out p j w
    ]))
