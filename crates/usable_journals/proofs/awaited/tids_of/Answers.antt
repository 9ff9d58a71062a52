use Rattle.std.proofs.Common.{arith}
use Rattle.fed_rules.specs.declared.sums.CommittedAttempt.{CommittedAttempt}
use Rattle.usable_journals.proofs.Sets.{next_tid}
use Rattle.usable_journals.proofs.awaited.tids_of.Goals as goal

pub loop-attempt-preserved : goal.loop-attempt-preserved
loop-attempt-preserved c = λ tid.
    next_tid (λ (a : CommittedAttempt). a.tid) c.args.committed.now c.loop-attempt.attempt-index c.attempt-item.result tid _ _ (omega arith) c.attempt-item.is
    (c.in_ok-insert.ensures.updates.0 tid) (c.loop-attempt.invariant tid)
