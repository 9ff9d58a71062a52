-- When an attempt of the table is what the coordinator's past says of it.
use Rattle.std.specs.Prelude.{◌≡◌, false, Option, Some, None, List, map}
use Rattle.mdb_base.specs.declared.names.SiteTicket.{SiteTicket}
use Rattle.mdb_base.specs.declared.names.Tid.{Tid}
use Rattle.mdb_base.specs.Words.{Each}
use Rattle.presumptions.specs.declared.Decision.{Decision}
use Rattle.presumptions.specs.declared.Participant.{Participant}
use Rattle.presumptions.specs.declared.Protocol.{Protocol}
use Rattle.presumptions.specs.Table.{presumed}
use Rattle.fed_rules.specs.CoordRecords.{named}
use Rattle.fed_rules.specs.CoordPast.{CoordPast, Standing, participants, records, has_acked, vote_at}
use Rattle.fed_rules.specs.CoordPast.Standing.{Undecided, Decided, Gone}
use Rattle.fed_rules.specs.Coord.{vote_ticket}
use Rattle.protocol_table.specs.declared.members.Member.{Member}
use Rattle.protocol_table.specs.declared.known.Known.{Known}
use Rattle.protocol_table.specs.declared.ends.Said.{Said}
use Rattle.protocol_table.specs.declared.ends.Said.TheVariants as Say
use Rattle.protocol_table.specs.Attempts.{named as named_in}

-- a participant of an undecided attempt, with its yes vote where one counted
abbrev pub voter : CoordPast → Tid → Participant → Member
voter past tid participant = record {
  site = participant.site;
  protocol = participant.protocol;
  vote = vote_at past tid participant.site;
  acked = false;
}

-- the attempt has the participants that the records name, where they name any
abbrev pub IsNamedAs : List Participant → CoordPast → Tid → Known → Type 0
IsNamedAs protocols past tid known = named_in known ≡ named protocols (records past) tid

-- an undecided attempt: its participants with their votes
pub record IsUndecidedAs (protocols : List Participant) (past : CoordPast) (tid : Tid) (known : Known) : Type 0 where
  pub name : known.tid ≡ tid
  pub undecided : known.decision ≡ None
  pub members : known.members ≡ map (voter past tid) (participants protocols past tid)
  pub named : IsNamedAs protocols past tid known

-- a decided attempt: whose acknowledgements counted
pub record IsDecidedAs (protocols : List Participant) (past : CoordPast) (tid : Tid) (decision : Decision) (known : Known) : Type 0 where
  pub name : known.tid ≡ tid
  pub decided : known.decision ≡ Some decision
  pub acks : Each (λ member. member.acked ≡ has_acked past tid member.site) known.members
  pub named : IsNamedAs protocols past tid known

-- the attempt is listed exactly where it is known, as it is known
abbrev pub IsKnownAs : List Participant → CoordPast → Tid → Standing → Option Known → Type 0
IsKnownAs protocols past tid Undecided (Some known) = IsUndecidedAs protocols past tid known
IsKnownAs protocols past tid (Decided decision) (Some known) = IsDecidedAs protocols past tid decision known
IsKnownAs protocols past tid Gone None = Unit {0}
IsKnownAs protocols past tid standing known = ⊥

-- what an inquiry is answered: nothing while undecided, the decision while known, and else the inquirer's presumption
abbrev pub told : Protocol → Standing → Said
told inquirer Undecided = Say.Undecided
told inquirer (Decided decision) = Say.Known decision
told inquirer Gone = Say.Presumed (presumed inquirer)

-- the ticket of a member's yes vote
abbrev pub member_ticket : Member → Option SiteTicket
member_ticket member = vote_ticket member.site member.vote
