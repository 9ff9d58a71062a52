-- What a restart of the coordinator reads from the journal that stands on its disk.
use Rattle.std.specs.Prelude.{◌≡◌, ◌↔◌, Bool, true, cond, not, Option, List}
use Rattle.mdb_base.specs.declared.names.SiteTicket.{SiteTicket}
use Rattle.mdb_base.specs.declared.names.Tid.{Tid}
use Rattle.mdb_base.specs.Names.{same_tid}
use Rattle.mdb_base.specs.Words.{Among, first_where, map_some, some_of}
use Rattle.presumptions.specs.declared.Decision.{Decision}
use Rattle.presumptions.specs.declared.Decision.TheVariants as Decided
use Rattle.presumptions.specs.declared.Participant.{Participant}
use Rattle.fed_rules.specs.declared.records.CoordRecord.{CoordRecord}
use Rattle.fed_rules.specs.declared.sums.CoordSum.{CoordSum}
use Rattle.fed_rules.specs.declared.sums.OpenAttempt.{OpenAttempt}
use Rattle.fed_rules.specs.CoordPast.{CoordPast, journal, records}
use Rattle.fed_rules.specs.CoordRecords.{commits, is_kept, is_nobody, named, outcome, required_of}
use Rattle.fed_rules.specs.CoordSums.{coord_journal_sum, coord_sum}

-- the journal on the coordinator's disk says what all its records say, those that were trimmed included
abbrev pub CoordJournalSaysAll : List Participant → CoordPast → Type 0
CoordJournalSaysAll protocols past = coord_journal_sum protocols (journal past) ≡ coord_sum protocols (records past)

abbrev pub open_in : List OpenAttempt → Tid → Option (List Participant)
open_in attempts tid = map_some (λ (attempt : OpenAttempt). attempt.participants) (first_where (λ (attempt : OpenAttempt). same_tid attempt.tid tid) attempts)

-- the participants of an attempt that a Sum has open
abbrev pub open_of : CoordSum → Tid → Option (List Participant)
open_of sum tid = open_in sum.open_attempts tid

-- the outcome of an attempt by a Sum: commit exactly where it is among the committed ones
abbrev pub outcome_of : CoordSum → Tid → Decision
outcome_of sum tid = cond (some_of (λ attempt. same_tid attempt.tid tid) sum.committed) Decided.Commit Decided.Abort

-- whether an attempt is known after a restart by a Sum: it is open, and an acknowledgement of its outcome is required
abbrev pub keeps : CoordSum → Tid → Bool
keeps sum tid = not (is_nobody (required_of (outcome_of sum tid) (open_of sum tid)))

-- the Sum tells what the records say: each attempt's outcome, which attempts are known after a restart, with which participants, and the
-- committed ones with their tickets
pub record TellsRecords (protocols : List Participant) (sum : CoordSum) (records : List CoordRecord) : Type 0 where
  pub outcomes : (tid : Tid) → outcome_of sum tid ≡ outcome records tid
  pub kept : (tid : Tid) → keeps sum tid ≡ is_kept protocols records tid
  pub participants : (tid : Tid) → is_kept protocols records tid ≡ true → open_of sum tid ≡ named protocols records tid
  pub tickets : (tid : Tid) (tickets : List SiteTicket)
      → Among (λ attempt. (attempt.tid ≡ tid) × (attempt.tickets ≡ tickets)) sum.committed ↔ Among (λ commit. (commit.tid ≡ tid) × (commit.tickets ≡ tickets)) (commits records)

-- a restart reads from the journal that stands on the disk what all records say
abbrev pub JournalTellsRestart : List Participant → CoordPast → Type 0
JournalTellsRestart protocols past = TellsRecords protocols (coord_journal_sum protocols (journal past)) (records past)
