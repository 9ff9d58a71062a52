use Rattle.std.proofs.Common.{arith}
use Rattle.fed_rules.specs.declared.sums.OpenAttempt.{OpenAttempt}
use Rattle.usable_journals.proofs.Sets.{next_tid}
use Rattle.usable_journals.proofs.coord_order.open_tids.Goals as goal

pub loop-attempt-preserved : goal.loop-attempt-preserved
loop-attempt-preserved c = λ tid.
    next_tid (λ (a : OpenAttempt). a.tid) c.args.attempts.now c.loop-attempt.attempt-index c.attempt-item.result tid _ _ (omega arith) c.attempt-item.is
    (c.in_ok-insert.ensures.updates.0 tid) (c.loop-attempt.invariant tid)
