-- What the records of the coordinator say, the newest first: who was initiated, committed, aborted and ended, and what is required.
-- A Checkpoint among them says nothing new, and every word here passes over it.
-- Initiation, decision and end records, and answers by the inquirer's presumption, are of Al-Houmaily and Chrysanthis (1999); which record an
-- attempt of which class has, which is forced and which acknowledgement is required is this project's profile.
use Rattle.std.specs.Prelude.{ℕ, ◌+◌, ◌*◌, Bool, true, false, cond, not, ◌&&◌, Option, Some, None, List, [], ◌∷◌, length}
use Rattle.mdb_base.specs.declared.names.SiteId.{SiteId}
use Rattle.mdb_base.specs.declared.names.SiteTicket.{SiteTicket}
use Rattle.mdb_base.specs.declared.names.Tid.{Tid}
use Rattle.mdb_base.specs.declared.names.Tx.{Tx}
use Rattle.mdb_base.specs.Names.{same_site, same_tid, same_tx}
use Rattle.mdb_base.specs.Words.{some_of, each_of, those, or_else}
use Rattle.presumptions.specs.declared.Decision.{Decision}
use Rattle.presumptions.specs.declared.Decision.TheVariants as Decided
use Rattle.presumptions.specs.declared.Participant.{Participant}
use Rattle.presumptions.specs.declared.Protocol.{Protocol}
use Rattle.presumptions.specs.declared.Protocol.TheVariants as By
use Rattle.presumptions.specs.Table.{acks}
use Rattle.order_laws.specs.Tickets.{Ticketed}
use Rattle.fed_rules.specs.declared.records.CoordRecord.{CoordRecord}
use Rattle.fed_rules.specs.declared.records.CoordRecord.TheVariants.{Initiation, Commit, Abort, End, Checkpoint}
use Rattle.fed_rules.specs.declared.sums.CommittedAttempt.{CommittedAttempt}
use Rattle.fed_rules.specs.declared.sums.OpenAttempt.{OpenAttempt}
use Rattle.fed_rules.specs.Attempts.{with_attempt}
use Rattle.fed_rules.specs.Disk.{framed}

-- the class of an attempt: uniform where all its participants have one protocol, and else mixed
pub data Class : Type 0 where
  Uniform : Protocol → Class
  Mixed : Class

abbrev pub same_protocol : Protocol → Protocol → Bool
same_protocol By.Nothing By.Nothing = true
same_protocol By.Abort By.Abort = true
same_protocol By.Commit By.Commit = true
same_protocol one other = false

-- whether all these participants have this protocol
abbrev pub all_follow : Protocol → List Participant → Bool
all_follow protocol participants = each_of (λ participant. same_protocol participant.protocol protocol) participants

abbrev pub class_of : List Participant → Class
class_of [] = Mixed
class_of (participant ∷ participants) = cond (all_follow participant.protocol participants) (Uniform participant.protocol) Mixed

-- whether an Initiation is forced before the first Prepare: presumed commit alone, and mixed participants
abbrev pub has_initiation : Class → Bool
has_initiation (Uniform By.Nothing) = false
has_initiation (Uniform By.Abort) = false
has_initiation (Uniform By.Commit) = true
has_initiation Mixed = true

-- whether the abort of an attempt of which a Prepare was sent is recorded: presumed nothing alone
abbrev pub has_abort : Class → Bool
has_abort (Uniform By.Nothing) = true
has_abort (Uniform By.Abort) = false
has_abort (Uniform By.Commit) = false
has_abort Mixed = false

-- whether a commit is forgotten at once, without an End: presumed commit alone
abbrev pub ends_at_once : Class → Bool
ends_at_once (Uniform By.Nothing) = false
ends_at_once (Uniform By.Abort) = false
ends_at_once (Uniform By.Commit) = true
ends_at_once Mixed = false

-- the bytes of the attempts in a Checkpoint
abbrev pub open_size : List OpenAttempt → ℕ
open_size [] = 0
open_size (attempt ∷ more) = 6 + 2 * length attempt.participants + open_size more

abbrev pub committed_size : List CommittedAttempt → ℕ
committed_size [] = 0
committed_size (attempt ∷ more) = 6 + 9 * length attempt.tickets + committed_size more

-- the bytes of a record's payload
abbrev pub coord_payload : CoordRecord → ℕ
coord_payload (Initiation tid participants) = 7 + 2 * length participants
coord_payload (Commit tid tickets) = 7 + 9 * length tickets
coord_payload (Abort tid participants) = 7 + 2 * length participants
coord_payload (End tid) = 6
coord_payload (Checkpoint sum) = 5 + open_size sum.open_attempts + committed_size sum.committed

-- the bytes of a record's frame
abbrev pub coord_frame : CoordRecord → ℕ
coord_frame kept = framed (coord_payload kept)

-- whether one of these tickets is of the site
abbrev pub has_ticket : List SiteTicket → SiteId → Bool
has_ticket tickets site = some_of (λ ticket. same_site ticket.site site) tickets

-- the sites of these tickets with their protocols
abbrev pub ticketed : List Participant → List SiteTicket → List Participant
ticketed protocols tickets = those (λ participant. has_ticket tickets participant.site) protocols

-- the participants that the kept records of the attempt name, where there are any: those of its Initiation, or else of its Abort, or else the
-- sites of its Commit with their protocols
abbrev pub named : List Participant → List CoordRecord → Tid → Option (List Participant)
named protocols [] tid = None
named protocols (Initiation begun participants ∷ records) tid =
    cond (same_tid begun tid) (Some participants) (named protocols records tid)
named protocols (Commit decided tickets ∷ records) tid =
    cond (same_tid decided tid) (Some (or_else (named protocols records tid) (ticketed protocols tickets))) (named protocols records tid)
named protocols (Abort decided participants ∷ records) tid =
    cond (same_tid decided tid) (Some (or_else (named protocols records tid) participants)) (named protocols records tid)
named protocols (End ended ∷ records) tid = named protocols records tid
named protocols (Checkpoint sum ∷ records) tid = named protocols records tid

-- whether a Commit of the attempt is kept
abbrev pub has_commit : List CoordRecord → Tid → Bool
has_commit [] tid = false
has_commit (Commit decided tickets ∷ records) tid = cond (same_tid decided tid) true (has_commit records tid)
has_commit (newest ∷ records) tid = has_commit records tid

-- whether an End of the attempt is kept
abbrev pub has_end : List CoordRecord → Tid → Bool
has_end [] tid = false
has_end (End ended ∷ records) tid = cond (same_tid ended tid) true (has_end records tid)
has_end (newest ∷ records) tid = has_end records tid

-- the outcome of an attempt is commit exactly where a Commit of it is kept
abbrev pub outcome : List CoordRecord → Tid → Decision
outcome records tid = cond (has_commit records tid) Decided.Commit Decided.Abort

-- the committed attempt of a transaction
abbrev pub committed_of : List CoordRecord → Tx → Option Tid
committed_of [] tx = None
committed_of (Commit tid tickets ∷ records) tx = cond (same_tx tid.tx tx) (Some tid) (committed_of records tx)
committed_of (newest ∷ records) tx = committed_of records tx

-- the committed attempts with their tickets, the last one first
abbrev pub commits : List CoordRecord → List Ticketed
commits [] = []
commits (Commit tid tickets ∷ records) = record { tid = tid; tickets = tickets } ∷ commits records
commits (newest ∷ records) = commits records

-- the attempts that have a record, each once, the last one first
abbrev pub recorded : List CoordRecord → List Tid
recorded [] = []
recorded (Initiation tid participants ∷ records) = with_attempt tid (recorded records)
recorded (Commit tid tickets ∷ records) = with_attempt tid (recorded records)
recorded (Abort tid participants ∷ records) = with_attempt tid (recorded records)
recorded (End tid ∷ records) = with_attempt tid (recorded records)
recorded (Checkpoint sum ∷ records) = recorded records

-- the participants whose acknowledgement of a decision is required: those whose protocol acknowledges it
abbrev pub acking : Decision → List Participant → List Participant
acking decision participants = those (λ participant. acks participant.protocol decision) participants

-- the participants whose acknowledgement is required: none where the attempt has no record
abbrev pub required_of : Decision → Option (List Participant) → List Participant
required_of decision None = []
required_of decision (Some participants) = acking decision participants

abbrev pub required : List Participant → List CoordRecord → Tid → Decision → List Participant
required protocols records tid decision = required_of decision (named protocols records tid)

abbrev pub is_nobody : List Participant → Bool
is_nobody [] = true
is_nobody (participant ∷ participants) = false

-- after a restart those are known that have an Initiation, a Commit or an Abort, no End and something required
abbrev pub is_kept : List Participant → List CoordRecord → Tid → Bool
is_kept protocols records tid = not (has_end records tid) && not (is_nobody (required protocols records tid (outcome records tid)))
