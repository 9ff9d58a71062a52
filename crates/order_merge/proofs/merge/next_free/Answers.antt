use Rattle.std.proofs.Common.{◌+◌, ◌<◌, length, sym, ◌∙◌, subst, arith}
use Rattle.order_merge.proofs.Best.{IsBest, seen, best_earlier, best_empty, best_is_next, best_later, best_waits}
use Rattle.order_merge.proofs.merge.next_free.Goals as goal
use Rattle.order_merge.proofs.merge.next_free.Goals.{in-Some+then-is_earlier+then-is_free, in-Some+else-is_earlier, else-is_earlier-via-then-is_earlier+else-is_free, else-is_earlier-via-else-is_earlier, in_default}

pub loop-queue-preserved : goal.loop-queue-preserved
loop-queue-preserved c =
    let queues = c.args.queues.now in
    let i = c.loop-queue.queue-index in
    let q = c.queue-item.result in
    let least = c.loop-queue.least in
    let within : i < length queues = omega arith in
    let here = sym c.queue-item.is in
    elim c.match-first.branch [
      | in-Some+then-is_earlier+then-is_free w ↦
          subst (IsBest (seen queues (i + 1))) (sym w.least-is)
          (best_earlier queues i q w.in-Some.tid least within here (sym c.first.ensures ∙ w.in-Some.is)
          (sym w.is_earlier.ensures ∙ w.if-is_earlier.true) (sym w.is_free.ensures ∙ w.if-is_free.true) c.loop-queue.invariant)
      | in-Some+else-is_earlier w ↦
          subst (IsBest (seen queues (i + 1))) (sym w.least-is)
          (elim w.else-is_earlier.branch [
            | else-is_earlier-via-then-is_earlier+else-is_free w' ↦
                best_waits queues i q w.in-Some.tid least within here (sym c.first.ensures ∙ w.in-Some.is) (sym w'.is_free.ensures ∙ w'.if-is_free.false) c.loop-queue.invariant
            | else-is_earlier-via-else-is_earlier w' ↦
                best_later queues i q w.in-Some.tid least within here (sym c.first.ensures ∙ w.in-Some.is) (sym w.is_earlier.ensures ∙ w'.if-is_earlier.false) c.loop-queue.invariant
          ])
      | in_default w ↦
          subst (IsBest (seen queues (i + 1))) (sym w.least-is)
          (best_empty queues i q least within here (sym c.first.ensures ∙ w.in_default.is) c.loop-queue.invariant)
    ]

pub returns : goal.returns
returns c = best_is_next c.args.queues.now c.loop-queue.queue-index c.loop-queue.least (omega arith) c.loop-queue.invariant
