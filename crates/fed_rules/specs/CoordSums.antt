-- What the records of the coordinator say together: the content of a Checkpoint.
use Rattle.std.specs.Prelude.{cond, not, ◌&&◌, List, [], ◌∷◌}
use Rattle.mdb_base.specs.declared.names.Tid.{Tid}
use Rattle.mdb_base.specs.Names.{same_tid, tid_before}
use Rattle.mdb_base.specs.Words.{inserted, some_of, those}
use Rattle.presumptions.specs.declared.Participant.{Participant}
use Rattle.fed_rules.specs.declared.records.CoordRecord.{CoordRecord}
use Rattle.fed_rules.specs.declared.records.CoordRecord.TheVariants.{Initiation, Commit, Abort, End, Checkpoint}
use Rattle.fed_rules.specs.declared.sums.CommittedAttempt.{CommittedAttempt}
use Rattle.fed_rules.specs.declared.sums.CoordSum.{CoordSum}
use Rattle.fed_rules.specs.declared.sums.OpenAttempt.{OpenAttempt}
use Rattle.fed_rules.specs.CoordRecords.{class_of, ends_at_once, ticketed}

-- an attempt is open with these participants, unless it is open already
abbrev pub also_open : Tid → List Participant → List OpenAttempt → List OpenAttempt
also_open tid participants attempts =
    cond (some_of (λ attempt. same_tid attempt.tid tid) attempts) attempts
    (inserted (λ a b. tid_before a.tid b.tid) (record { tid = tid; participants = participants }) attempts)

-- a commit leaves the attempt open, unless it is forgotten at once
abbrev pub after_commit : Tid → List OpenAttempt → List OpenAttempt
after_commit tid attempts = those (λ attempt. not (same_tid attempt.tid tid && ends_at_once (class_of attempt.participants))) attempts

-- the open attempts with the records behind: an Initiation, a Commit or an Abort opens, and an End closes, as does a commit that is forgotten at
-- once. Without an Initiation or an Abort the participants are the sites of the Commit with their protocols
abbrev pub open_with : List Participant → List OpenAttempt → List CoordRecord → List OpenAttempt
open_with protocols attempts [] = attempts
open_with protocols attempts (Initiation tid participants ∷ records) = also_open tid participants (open_with protocols attempts records)
open_with protocols attempts (Commit tid tickets ∷ records) =
    after_commit tid (also_open tid (ticketed protocols tickets) (open_with protocols attempts records))
open_with protocols attempts (Abort tid participants ∷ records) = also_open tid participants (open_with protocols attempts records)
open_with protocols attempts (End tid ∷ records) =
    those (λ attempt. not (same_tid attempt.tid tid)) (open_with protocols attempts records)
open_with protocols attempts (Checkpoint sum ∷ records) = open_with protocols attempts records

-- the committed attempts with the records behind
abbrev pub committed_with : List CommittedAttempt → List CoordRecord → List CommittedAttempt
committed_with committed [] = committed
committed_with committed (Commit tid tickets ∷ records) =
    inserted (λ a b. tid_before a.tid b.tid) (record { tid = tid; tickets = tickets }) (committed_with committed records)
committed_with committed (newest ∷ records) = committed_with committed records

-- what a Checkpoint with this content and the records behind it say together
abbrev pub coord_sum_with : List Participant → CoordSum → List CoordRecord → CoordSum
coord_sum_with protocols sum newer =
    record { open_attempts = open_with protocols sum.open_attempts newer; committed = committed_with sum.committed newer }

abbrev pub no_attempts : CoordSum
no_attempts = record { open_attempts = []; committed = [] }

-- what the records of the coordinator say together, at these protocols of the sites
abbrev pub coord_sum : List Participant → List CoordRecord → CoordSum
coord_sum protocols records = coord_sum_with protocols no_attempts records

-- what a journal says, in which a Checkpoint stands for all before it
abbrev pub coord_journal_sum : List Participant → List CoordRecord → CoordSum
coord_journal_sum protocols [] = no_attempts
coord_journal_sum protocols (Checkpoint sum ∷ records) = sum
coord_journal_sum protocols (newest ∷ records) = coord_sum_with protocols (coord_journal_sum protocols records) (newest ∷ [])
