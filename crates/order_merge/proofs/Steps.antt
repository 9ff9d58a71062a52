-- The steps of the merge.
use Rattle.std.proofs.Common.{◌<◌, ◌≡◌, Some, None, List, [], ◌∷◌, ◌++◌, length, map, refl, subst, sym, append_assoc}
use Rattle.mdb_base.specs.declared.names.Tid.{Tid}
use Rattle.mdb_base.specs.Names.{same_tid, tid_before}
use Rattle.order_laws.specs.Chains.{Acyclic}
use Rattle.order_laws.specs.Orders.{Union}
use Rattle.order_laws.specs.Merge.{IsLeastOrder}
use Rattle.order_laws.specs.Least.{without, all_items, IsLeastMerge}
use Rattle.order_laws.proofs.ForCallers.{acyclic_without, all_fewer, least_merge_placed, none_left, not_self, ranks_tids, tells_tids}
use Rattle.order_merge.specs.Next.{IsNext}

-- what is left has no cycle, and its least merge completes what was merged
pub record IsMerging (orders queues : List (List Tid)) (merged : List Tid) : Type 0 where
  pub acyclic : Acyclic (Union queues)
  pub completes : (o : List Tid) → IsLeastMerge same_tid tid_before queues o → IsLeastMerge same_tid tid_before orders (merged ++ o)

-- at first nothing is merged
pub starts : (orders queues : List (List Tid)) (merged : List Tid) → queues ≡ orders → merged ≡ [] → Acyclic (Union orders) → IsMerging orders queues merged
starts orders queues merged e f none =
    subst (λ qs. IsMerging orders qs merged) (sym e) (subst (IsMerging orders orders) (sym f) (record { acyclic = none; completes = λ o h. h }))

-- the next member goes behind what was merged, and out of what is left
pub goes_on : (orders queues left : List (List Tid)) (merged more : List Tid) (t : Tid) → IsMerging orders queues merged → IsNext queues (Some t) →
    left ≡ map (without same_tid t) queues → more ≡ merged ++ t ∷ [] → IsMerging orders left more
goes_on orders queues left merged more t m next e f =
    subst (λ qs. IsMerging orders qs more) (sym e) (subst (IsMerging orders (map (without same_tid t) queues)) (sym f) (record {
      acyclic = acyclic_without same_tid t queues m.acyclic;
      completes = λ o h. subst (IsLeastMerge same_tid tid_before orders) (sym (append_assoc merged (t ∷ []) o)) (m.completes (t ∷ o) (next.0, next.1, h));
    }))

-- so that less is left
pub less_left : (queues left : List (List Tid)) (t : Tid) → IsNext queues (Some t) → left ≡ map (without same_tid t) queues →
    length (all_items left) < length (all_items queues)
less_left queues left t next e =
    subst (λ qs. length (all_items qs) < length (all_items queues)) (sym e) (all_fewer _ t queues (not_self same_tid tells_tids t t refl) next.0.listed)

append-nil : (xs : List Tid) → xs ++ [] ≡ xs
append-nil [] = refl
append-nil (x ∷ xs) = rw (append-nil xs) refl

-- where nothing is free all is merged
pub ends : (orders queues : List (List Tid)) (merged : List Tid) → IsMerging orders queues merged → IsNext queues None → IsLeastOrder tid_before orders [] merged
ends orders queues merged m next =
    least_merge_placed same_tid tid_before tells_tids orders merged
    (subst (IsLeastMerge same_tid tid_before orders) (append-nil merged)
    (m.completes [] (none_left same_tid tid_before tells_tids ranks_tids queues m.acyclic next)))
