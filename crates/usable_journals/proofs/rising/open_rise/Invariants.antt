use Rattle.std.proofs.Common.{◌≡◌, None, drop}
use Rattle.usable_journals.specs.Rising.{rises}
use Rattle.usable_journals.proofs.rising.open_rise.Given as goal

-- the rest decides
abbrev pub invariant-loop-attempt : goal.invariant-loop-attempt
invariant-loop-attempt l = rises (λ attempt. attempt.tid) l.last (drop l.attempt-index l.attempts) ≡ rises (λ attempt. attempt.tid) None l.attempts
