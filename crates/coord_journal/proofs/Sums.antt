-- How many bytes a Checkpoint has, and that its lists are short enough for their lengths.
use Rattle.std.proofs.Common.{◌≡◌, ◌+◌, ◌≤◌, List, [], ◌∷◌, length, arith}
use Rattle.fed_rules.specs.declared.sums.CommittedAttempt.{CommittedAttempt}
use Rattle.fed_rules.specs.declared.sums.CoordSum.{CoordSum}
use Rattle.fed_rules.specs.declared.sums.OpenAttempt.{OpenAttempt}
use Rattle.fed_rules.specs.CoordRecords.{open_size, committed_size}
use Rattle.record_fields.specs.Items.{joined}
use Rattle.record_fields.specs.Sums.{an_open_attempt, a_committed_attempt}
use Rattle.coord_journal.specs.Spelling.{checkpoint}
use Rattle.coord_journal.specs.PayloadSizes.{parts_size, open_sizes, committed_sizes}

pub checkpoint_size : (sum : CoordSum)
    → length (checkpoint.spelling sum) ≡ 4 + length (joined an_open_attempt.spelling sum.open_attempts) + length (joined a_committed_attempt.spelling sum.committed)
checkpoint_size sum = omega (arith, parts_size sum, open_sizes sum.open_attempts, committed_sizes sum.committed)

few_opened : (attempts : List OpenAttempt) → length attempts ≤ open_size attempts
few_opened [] = omega arith
few_opened (attempt ∷ more) = omega (arith, few_opened more)

few_decided : (attempts : List CommittedAttempt) → length attempts ≤ committed_size attempts
few_decided [] = omega arith
few_decided (attempt ∷ more) = omega (arith, few_decided more)

pub few_open : (sum : CoordSum) → length sum.open_attempts ≤ length (checkpoint.spelling sum)
few_open sum = omega (arith, few_opened sum.open_attempts, parts_size sum)

pub few_committed : (sum : CoordSum) → length sum.committed ≤ length (checkpoint.spelling sum)
few_committed sum = omega (arith, few_decided sum.committed, parts_size sum)
