-- Two attempts of one transaction are told apart, and neither is of a lesser transaction.
use Rattle.std.proofs.Common.{◌≡◌, true, refl, subst}
use Rattle.mdb_base.specs.Names.{same_tid}
use Rattle.order_laws.specs.Orders.{Ranks}
use Rattle.fed_rules.proofs.ForCallers.{tid}
use Rattle.refuted_rules.specs.Orders.{of_lesser_transaction}

pub not_ranked : Ranks of_lesser_transaction → ⊥
not_ranked r =
    let same : tid 1 0 ≡ tid 1 1 = r.total (tid 1 0) (tid 1 1) refl refl in
    let apart : same_tid (tid 1 0) (tid 1 1) ≡ true = subst (λ t. same_tid (tid 1 0) t ≡ true) same refl in cc
