-- What holds of the past of every coordinator: facts that a core may rest on.
use Rattle.std.specs.Prelude.{◌≡◌, ◌↔◌, ◌<◌, true, false, Some, List}
use Rattle.mdb_base.specs.declared.names.Tid.{Tid}
use Rattle.mdb_base.specs.Words.{Each}
use Rattle.order_laws.specs.Chains.{In, Distinct}
use Rattle.order_laws.specs.Tickets.{OneEach, HasNoCycle}
use Rattle.presumptions.specs.declared.Decision.{Decision}
use Rattle.presumptions.specs.declared.Participant.{Participant}
use Rattle.fed_rules.specs.Coord.{missing}
use Rattle.fed_rules.specs.CoordPast.{CoordPast, records, Undecided, Decided, standing, is_known, begun_tids, attempts_of, participants, has_sent, is_prepare_of, is_take_of}
use Rattle.fed_rules.specs.CoordRecords.{named, has_commit, has_end, commits, recorded, outcome, is_nobody}

-- no attempt begins twice
abbrev pub BeginOnce : List Participant → CoordPast → Type 0
BeginOnce protocols past = Distinct (begun_tids past)

-- the attempts of a transaction are numbered from 0 on: one was begun exactly where its number is less than how many were
abbrev pub BeginInOrder : List Participant → CoordPast → Type 0
BeginInOrder protocols past = (tid : Tid) → In tid (begun_tids past) ↔ (tid.attempt < attempts_of past tid.tx)

-- an attempt that the coordinator knows was begun
abbrev pub KnownAreBegun : List Participant → CoordPast → Type 0
KnownAreBegun protocols past = (tid : Tid) → is_known (standing protocols past tid) ≡ true → In tid (begun_tids past)

-- neither a Take nor a Prepare was sent of an attempt that wasn't begun
abbrev pub UnbegunAreUnsent : List Participant → CoordPast → Type 0
UnbegunAreUnsent protocols past =
    (tid : Tid) → (In tid (begun_tids past) → ⊥) → (has_sent (is_take_of tid) past ≡ false) × (has_sent (is_prepare_of tid) past ≡ false)

-- an undecided attempt has no Commit and no End record
abbrev pub UndecidedAreUnmarked : List Participant → CoordPast → Type 0
UndecidedAreUnmarked protocols past =
    (tid : Tid) → standing protocols past tid ≡ Undecided → (has_commit (records past) tid ≡ false) × (has_end (records past) tid ≡ false)

-- a decision that is known is the outcome that the records give
abbrev pub DecisionsAreOutcomes : List Participant → CoordPast → Type 0
DecisionsAreOutcomes protocols past =
    (tid : Tid) (decision : Decision) → standing protocols past tid ≡ Decided decision → decision ≡ outcome (records past) tid

-- it is known only while a required acknowledgement is missing
abbrev pub DecidedAreAwaited : List Participant → CoordPast → Type 0
DecidedAreAwaited protocols past =
    (tid : Tid) (decision : Decision) → standing protocols past tid ≡ Decided decision
    → is_nobody (missing protocols past tid decision) ≡ false

-- the records of an attempt name the participants of its program
abbrev pub RecordsNameParticipants : List Participant → CoordPast → Type 0
RecordsNameParticipants protocols past =
    (tid : Tid) (members : List Participant) → named protocols (records past) tid ≡ Some members
    → members ≡ participants protocols past tid

-- the attempts that have a record differ, and each was begun
abbrev pub RecordedAreBegun : List Participant → CoordPast → Type 0
RecordedAreBegun protocols past =
    Distinct (recorded (records past)) × Each (λ tid. In tid (begun_tids past)) (recorded (records past))

-- participants are sites of the table of protocols
abbrev pub ParticipantsAreDeclared : List Participant → CoordPast → Type 0
ParticipantsAreDeclared protocols past = (tid : Tid) → Each (λ member. In member protocols) (participants protocols past tid)

-- no attempt has two Commit records
abbrev pub CommitOnce : List Participant → CoordPast → Type 0
CommitOnce protocols past = OneEach (commits (records past))

-- the tickets of the committed attempts close no cycle
abbrev pub CommitsCloseNoCycle : List Participant → CoordPast → Type 0
CommitsCloseNoCycle protocols past = HasNoCycle (commits (records past))
