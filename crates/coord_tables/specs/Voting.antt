-- Votes of sites.
use Rattle.std.specs.Prelude.{ℕ, ◌≡◌, Bool, true, cond, Option, Some, None, List, ◌∷◌}
use Rattle.mdb_base.specs.declared.names.SiteId.{SiteId}
use Rattle.mdb_base.specs.declared.names.SiteTicket.{SiteTicket}
use Rattle.mdb_base.specs.declared.names.Tid.{Tid}
use Rattle.mdb_base.specs.Words.{or_else}
use Rattle.order_laws.specs.Tickets.{OneEach}
use Rattle.presumptions.specs.declared.Participant.{Participant}
use Rattle.fed_rules.specs.declared.answers.Answer.TheVariants as Say
use Rattle.fed_rules.specs.declared.events.CoordEvent.{CoordEvent}
use Rattle.fed_rules.specs.declared.events.CoordEvent.TheVariants as Ev
use Rattle.fed_rules.specs.declared.messages.FromSite.TheVariants as From
use Rattle.fed_rules.specs.Happenings.{quiet}
use Rattle.fed_rules.specs.Coord.{all_voted, vote_counts, vote_tickets}
use Rattle.fed_rules.specs.CoordPast.{CoordPast, participants, records}
use Rattle.fed_rules.specs.CoordRecords.{commits}
use Rattle.global_exec.specs.Pasts.{IsAmong}
use Rattle.protocol_table.specs.declared.members.Member.{Member}
use Rattle.protocol_table.specs.Attempts.{has_voted, with_vote}
use Rattle.ticket_graph.specs.declared.verdict.Verdict.{Verdict}
use Rattle.ticket_graph.specs.declared.verdict.Verdict.TheVariants.{Added, Cycle}
use Rattle.coord_tables.specs.Terms.{Terms}

-- the event that the vote comes
abbrev pub vote_event : SiteId → Tid → Option ℕ → CoordEvent
vote_event site tid vote = Ev.Take site (From.Vote tid vote)

-- the past once the yes vote counts
abbrev pub voted_past : CoordPast → SiteId → Tid → ℕ → CoordPast
voted_past past site tid ticket = quiet (vote_event site tid (Some ticket)) Say.Voted ∷ past

-- whether a member voted, once this vote of the site counts
abbrev pub votes_with : SiteId → ℕ → Member → Bool
votes_with site ticket member = has_voted (with_vote site ticket member)

-- the ticket of its yes vote then, or 0 where it didn't vote
abbrev pub ticket_with : SiteId → ℕ → Member → SiteTicket
ticket_with site ticket member = record { site = member.site; ticket = or_else (with_vote site ticket member).vote 0 }

-- the site is declared, and its vote counts
pub record CountsVote (site : SiteId) (tid : Tid) (terms : Terms) (past : CoordPast) : Type 0 where
  pub among : IsAmong site terms.protocols
  pub counts : vote_counts past site tid ≡ true

-- the tickets of all votes by rising site, where this yes vote is the last one
abbrev pub last_tickets : List Participant → CoordPast → SiteId → Tid → ℕ → Option (List SiteTicket)
last_tickets protocols past site tid ticket =
    cond (all_voted (voted_past past site tid ticket) tid (participants protocols past tid))
    (Some (vote_tickets (voted_past past site tid ticket) tid (participants protocols past tid))) None

-- the attempt with these tickets isn't among the committed ones, each of which has one Commit
abbrev pub IsFresh : Tid → List SiteTicket → Terms → CoordPast → Type 0
IsFresh tid tickets terms past = OneEach (record { tid = tid; tickets = tickets } ∷ commits (records past))

-- it stays as it was where a cycle is named
abbrev pub IsKeptAt : {A : Type 0} → Verdict → A → A → Type 0
IsKeptAt Added old new = Unit {0}
IsKeptAt (Cycle edges) old new = new ≡ old

-- the yes vote is the last one, and these are the tickets of all
pub record IsLastVote (site : SiteId) (tid : Tid) (ticket : ℕ) (tickets : List SiteTicket) (terms : Terms) (past : CoordPast) : Type 0 where
  pub counted : CountsVote site tid terms past
  pub last : last_tickets terms.protocols past site tid ticket ≡ Some tickets
