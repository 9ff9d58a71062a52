use Rattle.std.proofs.Common.{List, map, Some, None, [], subst, sym, ◌∙◌, ap, arith}
use Rattle.std.proofs.lemmas.List.{with_items_is}
use Rattle.std.specs.Vec.{with_items}
use Rattle.mdb_base.specs.Words.{Each}
use Rattle.mdb_base.specs.declared.names.Tid.{Tid}
use Rattle.mdb_base.specs.Names.{same_tid, tid_before}
use Rattle.order_laws.specs.Chains.{Distinct}
use Rattle.order_laws.specs.Least.{without}
use Rattle.order_laws.specs.Merge.{IsLeastOrder}
use Rattle.order_laws.proofs.ForCallers.{acyclic_distinct}
use Rattle.order_merge.specs.Next.{IsNext}
use Rattle.order_merge.proofs.Steps.{goes_on, less_left, ends}
use Rattle.order_merge.proofs.merge.merge_orders.Goals as goal

pub next_free-requires : goal.next_free-requires
next_free-requires c =
    subst (λ (qs : List (List Tid)). Each Distinct qs) (sym c.deref.ensures.value) (acyclic_distinct c.loop-tid.queues.items c.loop-tid.invariant.acyclic)

pub take_out-requires-clause-distinct : goal.take_out-requires-clause-distinct
take_out-requires-clause-distinct c =
    subst (λ (qs : List (List Tid)). Each Distinct qs) (sym c.deref_mut.ensures.value) (acyclic_distinct c.loop-tid.queues.items c.loop-tid.invariant.acyclic)

pub loop-tid-smaller : goal.loop-tid-smaller
loop-tid-smaller c =
    let next : IsNext c.loop-tid.queues.items (Some c.in-Some.tid) =
    subst (λ (qs : List (List Tid)). IsNext qs (Some c.in-Some.tid)) c.deref.ensures.value (subst (IsNext c.deref.result.now) c.in-Some.is c.next_free.ensures) in
    let left = with_items_is c.loop-tid.queues c.take_out.new.queues (omega arith) ∙ (c.take_out.ensures ∙ ap (λ (qs : List (List Tid)). map (without same_tid c.in-Some.tid) qs) c.deref_mut.ensures.value) in
    less_left c.loop-tid.queues.items (with_items c.loop-tid.queues c.take_out.new.queues).items c.in-Some.tid next left

pub loop-tid-preserved : goal.loop-tid-preserved
loop-tid-preserved c =
    let next : IsNext c.loop-tid.queues.items (Some c.in-Some.tid) =
    subst (λ (qs : List (List Tid)). IsNext qs (Some c.in-Some.tid)) c.deref.ensures.value (subst (IsNext c.deref.result.now) c.in-Some.is c.next_free.ensures) in
    let left = with_items_is c.loop-tid.queues c.take_out.new.queues (omega arith) ∙ (c.take_out.ensures ∙ ap (λ (qs : List (List Tid)). map (without same_tid c.in-Some.tid) qs) c.deref_mut.ensures.value) in
    goes_on c.args.orders.now c.loop-tid.queues.items (with_items c.loop-tid.queues c.take_out.new.queues).items c.loop-tid.merged.items c.push.new.self.items c.in-Some.tid
    c.loop-tid.invariant next left c.in_ok-push.ensures.items

pub returns : goal.returns
returns c =
    subst (IsLeastOrder tid_before c.args.orders.now []) (sym c.of.ensures)
    (ends c.args.orders.now c.loop-tid.queues.items c.loop-tid.merged.items c.loop-tid.invariant
    (subst (λ (qs : List (List Tid)). IsNext qs None) c.deref.ensures.value (subst (IsNext c.deref.result.now) c.in_default.is c.next_free.ensures)))
