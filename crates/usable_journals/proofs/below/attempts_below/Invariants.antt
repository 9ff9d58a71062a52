use Rattle.std.proofs.Common.{◌≡◌, drop}
use Rattle.mdb_base.specs.Words.{each_of}
use Rattle.usable_journals.specs.CoordTests as tests
use Rattle.usable_journals.proofs.below.attempts_below.Given as goal

-- the rest decides
abbrev pub invariant-loop-attempt : goal.invariant-loop-attempt
invariant-loop-attempt l = each_of (λ attempt. tests.are_low attempt.tickets) (drop l.attempt-index l.committed) ≡ each_of (λ attempt. tests.are_low attempt.tickets) l.committed
