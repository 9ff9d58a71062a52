use Rattle.std.proofs.Common.{◌≡◌, drop}
use Rattle.mdb_base.specs.Words.{each_of}
use Rattle.usable_journals.specs.CoordTests as tests
use Rattle.usable_journals.proofs.named_sites.committed_declared.Given as goal

-- the rest decides
abbrev pub invariant-loop-attempt : goal.invariant-loop-attempt
invariant-loop-attempt l = each_of (λ attempt. tests.are_at_declared l.protocols attempt.tickets) (drop l.attempt-index l.committed) ≡ each_of (λ attempt. tests.are_at_declared l.protocols attempt.tickets) l.committed
