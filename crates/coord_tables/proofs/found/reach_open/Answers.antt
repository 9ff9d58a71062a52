use Rattle.std.proofs.Common.{◌∙◌}
use Rattle.fed_rules.specs.declared.sums.OpenAttempt.{OpenAttempt}
use Rattle.coord_tables.proofs.Reaches.{reached_next}
use Rattle.coord_tables.proofs.found.reach_open.Goals as goal

pub loop-attempt-preserved : goal.loop-attempt-preserved
loop-attempt-preserved c tx =
    reached_next (λ (attempt : OpenAttempt). attempt.tid) tx _ _ c.args.attempts.now c.loop-attempt.attempt-index c.attempt-item.result c.loop-attempt-test.true c.attempt-item.is (c.in_ok-reach.ensures tx)
    ∙ c.loop-attempt.invariant tx
