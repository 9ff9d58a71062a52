-- The attempt of which a vote comes, as the world knows it.
use Rattle.std.specs.Prelude.{ℕ, ◌≡◌, false, Option, Some, None, List}
use Rattle.mdb_base.specs.declared.names.SiteId.{SiteId}
use Rattle.mdb_base.specs.declared.names.Tid.{Tid}
use Rattle.mdb_base.specs.Words.{item_at}
use Rattle.presumptions.specs.declared.Participant.{Participant}
use Rattle.fed_rules.specs.declared.commands.Command.{Command}
use Rattle.fed_rules.specs.declared.commands.Command.TheVariants as Cmd
use Rattle.fed_rules.specs.declared.messages.FromSite.{FromSite}
use Rattle.fed_rules.specs.declared.messages.FromSite.TheVariants as From
use Rattle.fed_rules.specs.declared.scenario.Scenario.{Scenario}
use Rattle.fed_rules.specs.CoordPast.{CoordPast, Undecided, standing}
use Rattle.fed_rules.specs.Happenings.{is_down}
use Rattle.fed_rules.specs.Scenarios.{protocols}
use Rattle.fed_rules.specs.Story.{Story, coord_past, sent_from}
use Rattle.protocol_table.specs.declared.known.Known.{Known}
use Rattle.protocol_table.specs.Agreement.{IsUndecidedAs}
use Rattle.audit_lines.specs.declared.votes.Candidate.{Candidate}
use Rattle.audit_lines.specs.Votes.{tickets_with}

-- the attempt is known so, and these are the tickets of its votes with this one
pub record IsCandidate (protocols : List Participant) (past : CoordPast) (site : SiteId) (of : Tid) (vote : Option ℕ) (candidate : Candidate) : Type 0 where
  pub known : Known
  pub is : IsUndecidedAs protocols past of known
  pub tid : candidate.tid ≡ known.tid
  pub tickets : candidate.tickets.items ≡ tickets_with site vote known.members

-- a vote: the attempt, and the ticket where it is a yes
abbrev pub vote_of : Option FromSite → Option (Tid × Option ℕ)
vote_of None = None
vote_of (Some (From.Vote tid vote)) = Some (tid, vote)
vote_of (Some message) = None

-- an undecided attempt is found
abbrev pub IsFoundCandidate : List Participant → CoordPast → SiteId → Tid → Option ℕ → Option Candidate → Type 0
IsFoundCandidate protocols past site tid vote None = ⊥
IsFoundCandidate protocols past site tid vote (Some candidate) = IsCandidate protocols past site tid vote candidate

-- so it is with an undecided attempt of a coordinator that is up
abbrev pub IsCandidateAt : List Participant → CoordPast → SiteId → Tid → Option ℕ → Option Candidate → Type 0
IsCandidateAt protocols past site tid vote found = is_down past ≡ false → standing protocols past tid ≡ Undecided → IsFoundCandidate protocols past site tid vote found

-- and with that of the vote which the command has the coordinator take
abbrev pub IsCandidateOf : Scenario → Story → Command → Option Candidate → Type 0
IsCandidateOf scenario story command found =
    (site : SiteId) (place : ℕ) (tid : Tid) (vote : Option ℕ) → command ≡ Cmd.Take site place → item_at (sent_from site story) place ≡ Some (From.Vote tid vote)
    → IsCandidateAt (protocols scenario) (coord_past story) site tid vote found
