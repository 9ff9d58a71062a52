-- What the calls of the coordinator's table answer of a known attempt, and what they make of it.
use Rattle.std.specs.Prelude.{ℕ, Bool, true, cond, ◌&&◌, is_none, Option, Some, None, List, map}
use Rattle.mdb_base.specs.declared.names.SiteId.{SiteId}
use Rattle.mdb_base.specs.declared.names.Tid.{Tid}
use Rattle.mdb_base.specs.Names.{same_site}
use Rattle.mdb_base.specs.Words.{holds_of, some_of}
use Rattle.presumptions.specs.declared.Decision.{Decision}
use Rattle.presumptions.specs.declared.Protocol.{Protocol}
use Rattle.presumptions.specs.Table.{presumed}
use Rattle.fed_rules.specs.CoordRecords.{is_nobody}
use Rattle.protocol_table.specs.declared.members.Member.{Member}
use Rattle.protocol_table.specs.declared.known.Known.{Known}
use Rattle.protocol_table.specs.declared.ends.VoteEnd.{VoteEnd}
use Rattle.protocol_table.specs.declared.ends.VoteEnd.TheVariants as Vote
use Rattle.protocol_table.specs.declared.ends.AckEnd.{AckEnd}
use Rattle.protocol_table.specs.declared.ends.AckEnd.TheVariants as Ack
use Rattle.protocol_table.specs.declared.ends.Said.{Said}
use Rattle.protocol_table.specs.declared.ends.Said.TheVariants as Say
use Rattle.protocol_table.specs.Attempts.{changed, without, lacks_vote, with_vote, with_ack, all_voted, required, lacks_ack}

abbrev pub initiate : Known → Known
initiate known = record known { initiated = true }

-- a vote counts where the attempt is undecided and the site is a member of which no vote counted
abbrev pub vote_counts : SiteId → Known → Bool
vote_counts site known = is_none known.decision && some_of (lacks_vote site) known.members

-- the attempt with the site's vote
abbrev pub voted : SiteId → ℕ → Known → Known
voted site ticket known = record known { members = map (with_vote site ticket) known.members }

abbrev pub after_vote : SiteId → ℕ → Known → Known
after_vote site ticket known = cond (vote_counts site known) (voted site ticket known) known

-- a vote that counts is the last one where each member voted then
abbrev pub vote_end : SiteId → ℕ → Known → VoteEnd
vote_end site ticket known =
    cond (vote_counts site known) (cond (all_voted (voted site ticket known).members) Vote.All Vote.More) Vote.Ignored

abbrev pub decide : Decision → Known → Known
decide decision known = record known { decision = Some decision }

-- a decision of which nothing is required is forgotten at once
abbrev pub forgets_at_once : Decision → Known → Bool
forgets_at_once decision known = is_nobody (required decision known)

-- whether a member is this site, and its acknowledgement of the decision is required and missing
abbrev pub lacks_ack_of : SiteId → Decision → Bool → Member → Bool
lacks_ack_of site decision initiated member = same_site member.site site && lacks_ack decision initiated member

-- an acknowledgement counts where the attempt is decided, the site's acknowledgement is required and none of that site counted
abbrev pub ack_counts : SiteId → Known → Bool
ack_counts site known =
    holds_of (λ decision. some_of (lacks_ack_of site decision known.initiated) known.members) known.decision

-- the attempt with the site's acknowledgement
abbrev pub acked : SiteId → Known → Known
acked site known = record known { members = map (with_ack site) known.members }

abbrev pub after_ack_of : SiteId → Known → Known
after_ack_of site known = cond (ack_counts site known) (acked site known) known

-- whether a required acknowledgement is missing
abbrev pub is_missing : Known → Bool
is_missing known = holds_of (λ decision. some_of (lacks_ack decision known.initiated) known.members) known.decision

-- an acknowledgement that counts forgets the attempt where no required one is missing then
abbrev pub ack_end : SiteId → Known → AckEnd
ack_end site known =
    cond (ack_counts site known) (cond (is_missing (acked site known)) Ack.Acked Ack.Forgets) Ack.Ignored

-- the table after an acknowledgement: the last required one takes the attempt out
abbrev pub after_ack : AckEnd → Tid → SiteId → List Known → List Known
after_ack Ack.Forgets tid site table = without tid table
after_ack end tid site table = changed tid (after_ack_of site) table

abbrev pub said_of : Option Decision → Said
said_of None = Say.Undecided
said_of (Some decision) = Say.Known decision

-- an inquiry about an attempt that isn't known is answered by the inquirer's presumption
abbrev pub said : Protocol → Option Known → Said
said inquirer None = Say.Presumed (presumed inquirer)
said inquirer (Some known) = said_of known.decision
