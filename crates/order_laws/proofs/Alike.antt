-- What a test of two attempts and a test of two ways say, and that equal options have equal values.
use Rattle.std.proofs.Common.{◌≡◌, ◌⊎◌, inl, inr, Bool, true, false, ◌||◌, refl, subst}
use Rattle.mdb_base.specs.declared.names.Tid.{Tid}
use Rattle.mdb_base.specs.Names.{same_tid}
use Rattle.mdb_base.proofs.ForCallers.{same_tid-equal, same_tid-refl}

-- one attempt passes the test
pub same_of : (t g : Tid) → t ≡ g → same_tid t g ≡ true
same_of t g e = subst (λ u. same_tid t u ≡ true) e (same_tid-refl t)

-- what holds of an attempt holds of the one that the test finds the same
pub of_same : (P : Tid → Type 0) (t g : Tid) → P t → same_tid t g ≡ true → P g
of_same P t g p e = subst P (same_tid-equal t g e) p

-- the first of two tests is true, or it isn't and the second one is
pub first_or_second : (a b : Bool) → (a || b) ≡ true → (a ≡ true) ⊎ ((a ≡ false) × (b ≡ true))
first_or_second true b e = inl refl
first_or_second false b e = inr (refl, e)
