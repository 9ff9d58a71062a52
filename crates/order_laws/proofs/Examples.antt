use Rattle.std.proofs.Common.{ℕ, ◌≡◌, Some, None, [], ◌∷◌, refl}
use Rattle.mdb_base.specs.declared.names.SiteTicket.{SiteTicket}
use Rattle.mdb_base.specs.declared.names.Tid.{Tid}
use Rattle.mdb_base.specs.Names.{same_tid, tid_before}
use Rattle.order_laws.specs.Merge.{IsMerge}
use Rattle.order_laws.specs.Least.{least_merge}
use Rattle.order_laws.specs.Search.{cycle_through}
use Rattle.order_laws.specs.Tickets.{edge_between}

abbrev tid : ℕ → Tid
tid n = record { tx = record { 0 = n }; attempt = 0 }

abbrev ticket : ℕ → ℕ → SiteTicket
ticket s k = record { site = record { 0 = s }; ticket = k }

-- the orders 1.0 2.0 and 3.0 1.0 have the least merge 3.0 1.0 2.0
two_orders : least_merge same_tid tid_before ((tid 1 ∷ tid 2 ∷ []) ∷ (tid 3 ∷ tid 1 ∷ []) ∷ []) ≡ tid 3 ∷ tid 1 ∷ tid 2 ∷ []
two_orders = refl

two_orders_merged : IsMerge same_tid ((tid 1 ∷ tid 2 ∷ []) ∷ (tid 3 ∷ tid 1 ∷ []) ∷ []) (tid 3 ∷ tid 1 ∷ tid 2 ∷ [])
two_orders_merged = record { kept = (refl, (refl, tt)); named = refl }

-- two attempts with opposite tickets at two sites have a cycle
opposite : cycle_through edge_between (record { tid = tid 2; tickets = ticket 1 2 ∷ ticket 2 1 ∷ [] }) (record { tid = tid 1; tickets = ticket 1 1 ∷ ticket 2 2 ∷ [] } ∷ [])
    ≡ Some (record { from = tid 2; to = tid 1; site = record { 0 = 2 } } ∷ record { from = tid 1; to = tid 2; site = record { 0 = 1 } } ∷ [])
opposite = refl

-- with the same order at both they have none
agreeing : cycle_through edge_between (record { tid = tid 2; tickets = ticket 1 2 ∷ ticket 2 2 ∷ [] }) (record { tid = tid 1; tickets = ticket 1 1 ∷ ticket 2 1 ∷ [] } ∷ []) ≡ None
agreeing = refl
