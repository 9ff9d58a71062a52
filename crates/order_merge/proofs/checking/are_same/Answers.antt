use Rattle.std.proofs.Common.{true, subst, ◌≡◌}
use Rattle.std.proofs.lemmas.Slice.Eq.{slice_eq-Decides}
use Rattle.mdb_base.specs.Names.{same_tid}
use Rattle.mdb_base.proofs.ForCallers.{same_tid-equal, same_tid-refl}
use Rattle.order_merge.proofs.checking.are_same.Goals as goal

pub returns : goal.returns
returns c = slice_eq-Decides (λ a b. (λ e. same_tid-equal a b e, λ p. subst (λ x. same_tid a x ≡ true) p (same_tid-refl a))) _ _ c.eq.result c.eq.ensures
