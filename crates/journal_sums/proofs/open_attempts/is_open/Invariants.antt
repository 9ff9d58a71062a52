use Rattle.std.proofs.Common.{◌≡◌, drop}
use Rattle.mdb_base.specs.Names.{same_tid}
use Rattle.mdb_base.specs.Words.{some_of}
use Rattle.journal_sums.proofs.open_attempts.is_open.Given as goal

-- the first ones are other ones
abbrev pub invariant-loop-attempt : goal.invariant-loop-attempt
invariant-loop-attempt l = some_of (λ attempt. same_tid attempt.tid l.tid) (drop l.attempt-index l.attempts) ≡ some_of (λ attempt. same_tid attempt.tid l.tid) l.attempts
