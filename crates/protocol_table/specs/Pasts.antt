-- The table and the coordinator's past: what they say alike, and what a line makes of an attempt.
use Rattle.std.specs.Prelude.{ℕ, ◌≡◌, Bool, true, false, cond, not, ◌||◌, Option, Some, None, List, ◌∷◌, map}
use Rattle.mdb_base.specs.declared.names.SiteId.{SiteId}
use Rattle.mdb_base.specs.declared.names.Tid.{Tid}
use Rattle.mdb_base.specs.Words.{found}
use Rattle.presumptions.specs.declared.Decision.{Decision}
use Rattle.presumptions.specs.declared.Participant.{Participant}
use Rattle.presumptions.specs.declared.Protocol.{Protocol}
use Rattle.fed_rules.specs.declared.events.CoordEvent.TheVariants as Ev
use Rattle.fed_rules.specs.declared.messages.FromSite.TheVariants as From
use Rattle.fed_rules.specs.Happenings.{stops, comes_up}
use Rattle.fed_rules.specs.CoordRecords.{class_of, has_abort, is_nobody, named, required as required_past}
use Rattle.fed_rules.specs.CoordPast.{CoordHappening, CoordPast, Standing, begins, counts, decides, is_about, participants, records, vote_at}
use Rattle.fed_rules.specs.Coord.{all_voted as all_voted_past, forgets_at_once as forgets_past, is_member, lacks_initiation as lacks_initiation_past, missing as missing_past, vote_tickets}
use Rattle.protocol_table.specs.declared.known.Known.{Known}
use Rattle.protocol_table.specs.declared.known.Restored.{Restored}
use Rattle.protocol_table.specs.Agreement.{IsDecidedAs, IsKnownAs, IsNamedAs, IsUndecidedAs, member_ticket, told}
use Rattle.protocol_table.specs.Attempts.{all_voted, decision_of, has_abort_record, lacks_initiation, missing, participant_of, required, restored, submitted}
use Rattle.protocol_table.specs.Ends.{acked, ack_counts, decide, forgets_at_once, initiate, is_missing, said, voted}

-- ---- what they say alike

-- an inquiry is answered as the attempt stands
abbrev pub AnswersAgree : Type 0
AnswersAgree = (protocols : List Participant) (past : CoordPast) (tid : Tid) (standing : Standing) (known : Option Known) (inquirer : Protocol)
    → IsKnownAs protocols past tid standing known → said inquirer known ≡ told inquirer standing

-- the votes of an undecided attempt
pub record VotesAgreeAt (past : CoordPast) (tid : Tid) (members : List Participant) (known : Known) : Type 0 where
  pub all : all_voted known.members ≡ all_voted_past past tid members
  pub tickets : found member_ticket known.members ≡ vote_tickets past tid members

abbrev pub VotesAgree : Type 0
VotesAgree = (protocols : List Participant) (past : CoordPast) (tid : Tid) (known : Known) → IsUndecidedAs protocols past tid known
    → VotesAgreeAt past tid (participants protocols past tid) known

-- which records an undecided attempt has before its first Prepare and on abort
pub record ClassAgreesAt (protocols : List Participant) (past : CoordPast) (tid : Tid) (known : Known) : Type 0 where
  pub initiation : lacks_initiation known ≡ lacks_initiation_past protocols past tid
  pub abort : has_abort_record known ≡ has_abort (class_of (participants protocols past tid))

abbrev pub ClassesAgree : Type 0
ClassesAgree = (protocols : List Participant) (past : CoordPast) (tid : Tid) (known : Known) → IsUndecidedAs protocols past tid known
    → ClassAgreesAt protocols past tid known

-- an undecided attempt of which nothing is required is forgotten by its decision, with the records of that line
abbrev pub DecisionsAgree : Type 0
DecisionsAgree = (protocols : List Participant) (past : CoordPast) (tid : Tid) (known : Known) → IsNamedAs protocols past tid known
    → (decision : Decision) → forgets_at_once decision known ≡ forgets_past protocols (records past) tid decision

-- what is required of a decided attempt, and what of it is missing
pub record AcksAgreeAt (protocols : List Participant) (past : CoordPast) (tid : Tid) (decision : Decision) (known : Known) : Type 0 where
  pub required : required decision known ≡ required_past protocols (records past) tid decision
  pub missing : map participant_of (missing decision known) ≡ missing_past protocols past tid decision
  pub counts : (site : SiteId) → ack_counts site known ≡ is_member site (missing_past protocols past tid decision)
  pub left : is_missing known ≡ not (is_nobody (missing_past protocols past tid decision))

abbrev pub AcksAgree : Type 0
AcksAgree = (protocols : List Participant) (past : CoordPast) (tid : Tid) (decision : Decision) (known : Known) → IsDecidedAs protocols past tid decision known
    → AcksAgreeAt protocols past tid decision known

-- ---- what a line makes of an attempt

-- the line neither stops the coordinator nor starts it
pub record GoesOn (x : CoordHappening) : Type 0 where
  pub stays : (stops x.answer || comes_up x.answer) ≡ false

-- the records name the attempt's participants as before
abbrev pub NamesAsBefore : List Participant → CoordPast → CoordHappening → Tid → Type 0
NamesAsBefore protocols past x tid = named protocols (records (x ∷ past)) tid ≡ named protocols (records past) tid

-- a line that begins an attempt of which there is no record
abbrev pub BeginsGo : Type 0
BeginsGo = (protocols : List Participant) (past : CoordPast) (tid : Tid) (x : CoordHappening) → begins tid x.answer ≡ true
    → named protocols (records (x ∷ past)) tid ≡ None
    → IsUndecidedAs protocols (x ∷ past) tid (submitted tid (participants protocols (x ∷ past) tid))

-- a line that counts a yes vote
abbrev pub VotesGo : Type 0
VotesGo = (protocols : List Participant) (past : CoordPast) (tid : Tid) (known : Known) → IsUndecidedAs protocols past tid known
    → (site : SiteId) (ticket : ℕ) (x : CoordHappening) → x.event ≡ Ev.Take site (From.Vote tid (Some ticket)) → begins tid x.answer ≡ false → counts x.answer ≡ true
    → NamesAsBefore protocols past x tid → IsUndecidedAs protocols (x ∷ past) tid (voted site ticket known)

-- the program and the votes of an attempt are as before
pub record VotesAsBefore (past : CoordPast) (x : CoordHappening) (tid : Tid) : Type 0 where
  pub participants : (protocols : List Participant) → participants protocols (x ∷ past) tid ≡ participants protocols past tid
  pub votes : (site : SiteId) → vote_at (x ∷ past) tid site ≡ vote_at past tid site

-- a line that leaves program, votes and the named participants
abbrev pub UndecidedStay : Type 0
UndecidedStay = (protocols : List Participant) (past : CoordPast) (tid : Tid) (known : Known) → IsUndecidedAs protocols past tid known
    → (x : CoordHappening) → VotesAsBefore past x tid → NamesAsBefore protocols past x tid → IsUndecidedAs protocols (x ∷ past) tid known

-- a line that writes the first record of an attempt, which names its participants
abbrev pub RecordsGo : Type 0
RecordsGo = (protocols : List Participant) (past : CoordPast) (tid : Tid) (known : Known) → IsUndecidedAs protocols past tid known
    → (x : CoordHappening) → VotesAsBefore past x tid → named protocols (records (x ∷ past)) tid ≡ Some (participants protocols past tid)
    → IsUndecidedAs protocols (x ∷ past) tid (initiate known)

-- a line that decides an attempt: no acknowledgement counts yet. Its record may be the first one
abbrev pub DecisionsGo : Type 0
DecisionsGo = (protocols : List Participant) (past : CoordPast) (tid : Tid) (known : Known) → IsUndecidedAs protocols past tid known
    → (decision : Decision) (first : Bool) (x : CoordHappening) → is_about tid x.event ≡ true → decides x.answer ≡ true
    → IsNamedAs protocols (x ∷ past) tid (cond first (initiate known) known)
    → IsDecidedAs protocols (x ∷ past) tid decision (decide decision (cond first (initiate known) known))

-- a line that counts an acknowledgement
abbrev pub AcksGo : Type 0
AcksGo = (protocols : List Participant) (past : CoordPast) (tid : Tid) (decision : Decision) (known : Known) → IsDecidedAs protocols past tid decision known
    → (site : SiteId) (x : CoordHappening) → x.event ≡ Ev.Take site (From.Ack tid) → GoesOn x → decides x.answer ≡ false → counts x.answer ≡ true
    → NamesAsBefore protocols past x tid → IsDecidedAs protocols (x ∷ past) tid decision (acked site known)

-- a restart: no acknowledgement counts yet
abbrev pub RestartsGo : Type 0
RestartsGo = (protocols : List Participant) (past : CoordPast) (x : CoordHappening) (kept : Restored) → (stops x.answer || comes_up x.answer) ≡ true
    → named protocols (records (x ∷ past)) kept.tid ≡ Some kept.participants
    → IsDecidedAs protocols (x ∷ past) kept.tid (decision_of kept.committed) (restored kept)
