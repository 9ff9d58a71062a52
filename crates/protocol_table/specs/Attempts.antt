-- The coordinator's known attempts in order of submission: their members, and what of them is required.
-- Initiation, decision and end records with mixed participants are of Al-Houmaily and Chrysanthis (1999).
use Rattle.std.specs.Prelude.{ℕ, Bool, true, false, cond, not, ◌&&◌, is_some, is_none, Option, Some, None, List, map}
use Rattle.std.specs.List.{IsDistinct}
use Rattle.mdb_base.specs.declared.names.SiteId.{SiteId}
use Rattle.mdb_base.specs.declared.names.Tid.{Tid}
use Rattle.mdb_base.specs.Names.{same_site, same_tid}
use Rattle.mdb_base.specs.Words.{each_of, first_where, those}
use Rattle.presumptions.specs.declared.Decision.{Decision}
use Rattle.presumptions.specs.declared.Decision.TheVariants as Decided
use Rattle.presumptions.specs.declared.Participant.{Participant}
use Rattle.presumptions.specs.Table.{acks}
use Rattle.presumptions.specs.declared.Protocol.{Protocol}
use Rattle.fed_rules.specs.CoordRecords.{Class, class_of, has_abort, has_initiation, required_of}
use Rattle.fed_rules.specs.CoordRecords.Class.{Uniform, Mixed}
use Rattle.protocol_table.specs.declared.members.Member.{Member}
use Rattle.protocol_table.specs.declared.known.Known.{Known}
use Rattle.protocol_table.specs.declared.known.Restored.{Restored}

-- a participant before its vote and its acknowledgement
abbrev pub member_of : Participant → Member
member_of participant = record { site = participant.site; protocol = participant.protocol; vote = None; acked = false }

-- the participant that a member is
abbrev pub participant_of : Member → Participant
participant_of member = record { site = member.site; protocol = member.protocol }

-- an attempt as it is submitted
abbrev pub submitted : Tid → List Participant → Known
submitted tid participants = record { tid = tid; initiated = false; members = map member_of participants; decision = None }

abbrev pub decision_of : Bool → Decision
decision_of committed = cond committed Decided.Commit Decided.Abort

-- an attempt as a restart knows it: with a record and decided, without votes and acknowledgements
abbrev pub restored : Restored → Known
restored kept = record {
  tid = kept.tid;
  initiated = true;
  members = map member_of kept.participants;
  decision = Some (decision_of kept.committed);
}

-- whether a known attempt is the one of this name
abbrev pub is_of : Tid → Known → Bool
is_of tid known = same_tid tid known.tid

-- the known attempt of this name
abbrev pub known_of : Tid → List Known → Option Known
known_of tid table = first_where (is_of tid) table

abbrev pub IsMissing : Option Decision → Type 0
IsMissing None = Unit {0}
IsMissing (Some decision) = ⊥

abbrev pub LacksDecision : Option Known → Type 0
LacksDecision None = ⊥
LacksDecision (Some known) = IsMissing known.decision

-- the attempt of this name is known and undecided
abbrev pub IsUndecided : Tid → List Known → Type 0
IsUndecided tid table = LacksDecision (known_of tid table)

-- the table with another state of the attempt of this name
abbrev pub changed : Tid → (Known → Known) → List Known → List Known
changed tid change table = map (λ known. cond (is_of tid known) (change known) known) table

-- the table without the attempt of this name
abbrev pub without : Tid → List Known → List Known
without tid table = those (λ known. not (is_of tid known)) table

-- no two of these attempts have one name
abbrev pub AreApart : List Tid → Type 0
AreApart tids = IsDistinct same_tid tids

-- whether the site is a member that didn't vote
abbrev pub lacks_vote : SiteId → Member → Bool
lacks_vote site member = same_site member.site site && is_none member.vote

-- a member with this vote, where it is this site
abbrev pub with_vote : SiteId → ℕ → Member → Member
with_vote site ticket member = cond (same_site member.site site) (record member { vote = Some ticket }) member

-- a member that acknowledged, where it is this site
abbrev pub with_ack : SiteId → Member → Member
with_ack site member = cond (same_site member.site site) (record member { acked = true }) member

abbrev pub has_voted : Member → Bool
has_voted member = is_some member.vote

-- whether each member voted
abbrev pub all_voted : List Member → Bool
all_voted members = each_of has_voted members

-- whether a member's protocol acknowledges the decision
abbrev pub member_acks : Decision → Member → Bool
member_acks decision member = acks member.protocol decision

-- the participants that the attempt's records name, where it has any
abbrev pub named : Known → Option (List Participant)
named known = cond known.initiated (Some (map participant_of known.members)) None

-- the participants whose acknowledgement of the decision is required: none without a record, on commit those of presumed nothing and
-- presumed abort, on abort those of presumed nothing and presumed commit
abbrev pub required : Decision → Known → List Participant
required decision known = required_of decision (named known)

-- whether a member's acknowledgement of the decision is required and missing
abbrev pub lacks_ack : Decision → Bool → Member → Bool
lacks_ack decision initiated member = initiated && (acks member.protocol decision && not member.acked)

-- the members whose required acknowledgement is missing
abbrev pub missing : Decision → Known → List Member
missing decision known = those (lacks_ack decision known.initiated) known.members

-- the protocol of a uniform class
abbrev pub uniform_of : Class → Option Protocol
uniform_of (Uniform protocol) = Some protocol
uniform_of Mixed = None

-- the class of an attempt, by its members
abbrev pub class_in : Known → Class
class_in known = class_of (map participant_of known.members)

-- whether its Initiation has to stand on the disk before its first Prepare is sent, and it has no record yet
abbrev pub lacks_initiation : Known → Bool
lacks_initiation known = not known.initiated && has_initiation (class_in known)

-- whether its abort is recorded once a Prepare was sent
abbrev pub has_abort_record : Known → Bool
has_abort_record known = has_abort (class_in known)
