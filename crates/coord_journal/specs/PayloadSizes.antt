-- A record's payload has as many bytes as the rules count for it.
use Rattle.std.proofs.Common.{◌≡◌, ◌+◌, List, [], ◌∷◌, length, refl, arith}
use Rattle.std.proofs.lemmas.List.{length-append}
use Rattle.fed_rules.specs.declared.records.CoordRecord.{CoordRecord}
use Rattle.fed_rules.specs.declared.records.CoordRecord.TheVariants.{Initiation, Commit, Abort, End, Checkpoint}
use Rattle.fed_rules.specs.declared.sums.CommittedAttempt.{CommittedAttempt}
use Rattle.fed_rules.specs.declared.sums.CoordSum.{CoordSum}
use Rattle.fed_rules.specs.declared.sums.OpenAttempt.{OpenAttempt}
use Rattle.fed_rules.specs.CoordRecords.{coord_payload, open_size, committed_size}
use Rattle.record_fields.specs.Items.{joined}
use Rattle.record_fields.specs.Sums.{an_open_attempt, a_committed_attempt, open_attempts, committed_attempts}
use Rattle.record_fields.proofs.ForCallers as sizes
use Rattle.coord_journal.specs.Spelling.{checkpoint, spelling}

pub open_sizes : (attempts : List OpenAttempt) → length (joined an_open_attempt.spelling attempts) ≡ open_size attempts
open_sizes [] = refl
open_sizes (attempt ∷ more) = omega (arith, length-append (an_open_attempt.spelling attempt) (joined an_open_attempt.spelling more), sizes.open_attempt_size attempt, open_sizes more)

pub committed_sizes : (attempts : List CommittedAttempt) → length (joined a_committed_attempt.spelling attempts) ≡ committed_size attempts
committed_sizes [] = refl
committed_sizes (attempt ∷ more) =
    omega (arith, length-append (a_committed_attempt.spelling attempt) (joined a_committed_attempt.spelling more), sizes.committed_attempt_size attempt, committed_sizes more)

-- the bytes of a Checkpoint behind its first one
pub parts_size : (sum : CoordSum) → length (checkpoint.spelling sum) ≡ (2 + open_size sum.open_attempts) + (2 + committed_size sum.committed)
parts_size sum =
    omega (arith, length-append (open_attempts.spelling sum.open_attempts) (committed_attempts.spelling sum.committed), open_sizes sum.open_attempts, committed_sizes sum.committed)

-- a record's payload has as many bytes as the rules count for it
pub payload_has_size : (entry : CoordRecord) → length (spelling entry) ≡ coord_payload entry
payload_has_size (Initiation tid sites) = omega (arith, sizes.participants_size sites)
payload_has_size (Commit tid sites) = omega (arith, sizes.tickets_size sites)
payload_has_size (Abort tid sites) = omega (arith, sizes.participants_size sites)
payload_has_size (End tid) = refl
payload_has_size (Checkpoint sum) = omega (arith, parts_size sum)
