use Rattle.std.proofs.Common.{◌<◌, List, length, slice_set, get_or, sym, subst, ◌∙◌, ap, arith}
use Rattle.std.proofs.lemmas.List.Edits.{map_over_more}
use Rattle.mdb_base.specs.declared.names.Tid.{Tid}
use Rattle.mdb_base.specs.Names.{same_tid}
use Rattle.order_laws.specs.Orders.{Before}
use Rattle.order_laws.specs.Least.{without}
use Rattle.order_laws.proofs.ForCallers.{free_in_at}
use Rattle.order_merge.proofs.InPlace.{not_yet, item_in}
use Rattle.order_merge.proofs.merge.take_out.Goals as goal

pub take_out-requires-clause-first : goal.take_out-requires-clause-first
take_out-requires-clause-first c =
    let i = c.loop-queue.queue-index in
    let q = c.queue-item.result in
    let within : i < length c.args.queues.now = omega arith in
    let same = not_yet (without same_tid c.args.tid) c.args.queues.now c.loop-queue.queues i q within c.loop-queue.invariant in
    λ p h. free_in_at c.args.tid c.args.queues.now c.requires.free.first (get_or c.args.queues.now i q) (item_in c.args.queues.now i q within) p
    (subst (λ (ts : List Tid). Before ts p c.args.tid) same h)

pub loop-queue-preserved : goal.loop-queue-preserved
loop-queue-preserved c =
    let i = c.loop-queue.queue-index in
    let q = c.queue-item.result in
    let within : i < length c.args.queues.now = omega arith in
    ap (λ (ts : List Tid). slice_set c.loop-queue.queues i ts) (c.take_out.ensures ∙ ap (without same_tid c.args.tid) (sym c.queue-item.is))
    ∙ map_over_more (without same_tid c.args.tid) c.args.queues.now c.loop-queue.queues i q within c.loop-queue.invariant c.queue-item.is
