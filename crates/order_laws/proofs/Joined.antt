-- What holds among, and of each of, the items of joined lists.
use Rattle.std.proofs.Common.{◌≡◌, ℕ, zero, suc, inl, inr, List, [], ◌∷◌, ◌++◌, take}
use Rattle.mdb_base.specs.Words.{Each, Among}
use Rattle.mdb_base.proofs.ForCallers.{among_append}
use Rattle.order_laws.specs.Chains.{In}

-- what no item is, none is among them
pub each_not : {A : Type 0} (P Q : A → Type 0) → ((x : A) → P x → Q x → ⊥) → (xs : List A) → Each P xs → Among Q xs → ⊥
each_not P Q no_both [] e m = m
each_not P Q no_both (x ∷ xs) e (inl q) = no_both x e.0 q
each_not P Q no_both (x ∷ xs) e (inr m) = each_not P Q no_both xs e.1 m

-- an item of the first list is one of both
pub in_more : {A : Type 0} (x : A) (xs ys : List A) → In x xs → In x (xs ++ ys)
in_more x xs ys i = among_append (λ y. y ≡ x) xs ys i

-- what holds of each item holds of each of the first ones and of one more
pub each_cut : {A : Type 0} (P : A → Type 0) (k : ℕ) (xs : List A) (y : A) → Each P xs → P y → Each P (take k xs ++ y ∷ [])
each_cut P zero xs y h p = (p, tt)
each_cut P (suc k) [] y h p = (p, tt)
each_cut P (suc k) (x ∷ xs) y h p = (h.0, each_cut P k xs y h.1 p)
