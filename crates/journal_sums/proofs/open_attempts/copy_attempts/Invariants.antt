use Rattle.std.proofs.Common.{◌≡◌, take}
use Rattle.journal_sums.proofs.open_attempts.copy_attempts.Given as goal

-- the first ones are there
abbrev pub invariant-loop-attempt : goal.invariant-loop-attempt
invariant-loop-attempt l = l.copy.items ≡ take l.attempt-index l.attempt-items
