-- What is told of the edges of a printed line.
use Rattle.std.proofs.Common.{◌≡◌, ℕ, Bool, true, false, not, Option, Some, None, List, [], refl, sym, ap, ap₂, subst, ◌∙◌}
use Rattle.mdb_base.specs.declared.names.SiteId.{SiteId}
use Rattle.mdb_base.specs.declared.names.Tid.{Tid}
use Rattle.mdb_base.specs.declared.replies.Edge.{Edge}
use Rattle.mdb_base.specs.Words.{item_at}
use Rattle.mdb_base.proofs.ForCallers.{some_parts}
use Rattle.fed_rules.specs.declared.answers.Answer.{Answer}
use Rattle.fed_rules.specs.declared.answers.Answer.TheVariants as Say
use Rattle.fed_rules.specs.declared.answers.Cause.TheVariants as For
use Rattle.fed_rules.specs.declared.commands.Command.{Command}
use Rattle.fed_rules.specs.declared.commands.Command.TheVariants as Cmd
use Rattle.fed_rules.specs.declared.messages.FromSite.{FromSite}
use Rattle.fed_rules.specs.declared.messages.FromSite.TheVariants as From
use Rattle.fed_rules.specs.declared.scenario.Scenario.{Scenario}
use Rattle.fed_rules.specs.CoordPast.{journal}
use Rattle.fed_rules.specs.Scenarios.{policy, protocols}
use Rattle.fed_rules.specs.Story.{Story, coord_past, happens, sent_from}
use Rattle.coord_laws.specs.CoordRestarts.{CoordJournalSaysAll}
use Rattle.audit_rules.specs.Faults.{edges_of, may_name, names_cycle}
use Rattle.audit_lines.specs.declared.votes.Candidate.{Candidate}
use Rattle.audit_lines.specs.Compared.{TellsWrong}
use Rattle.audit_lines.specs.Edges.{goes_round}
use Rattle.audit_lines.proofs.ForCallers.{TellsOf, may_is, names_up, names_yes, stands_open, taken, tells_wrong}
use Rattle.run_audit.specs.Candidates.{IsFoundCandidate, IsCandidateAt, IsCandidateOf, vote_of}

-- an answer that names no cycle has no edges
pub unnamed_edges : (a : Answer) → names_cycle a ≡ false → edges_of a ≡ []
unnamed_edges (Say.Decides decision (Some (For.Cycle edges)) forgets) e = cc
unnamed_edges a e = refl

site_in : SiteId → Command → SiteId
site_in other (Cmd.Take site place) = site
site_in other command = other

place_in : Command → ℕ
place_in (Cmd.Take site place) = place
place_in command = 0

module _ (scenario : Scenario) (story : Story) (command : Command) where
  -- what was found of a vote
  abbrev pub IsFoundBy : SiteId → Option (Tid × Option ℕ) → Option Candidate → Type 0
  IsFoundBy site None found = Unit {0}
  IsFoundBy site (Some vote) found = IsCandidateAt (protocols scenario) (coord_past story) site vote.0 vote.1 found

  by_vote : (site : SiteId) (o : Option (Tid × Option ℕ)) (found : Option Candidate) (tid : Tid) (vote : Option ℕ) → o ≡ Some (tid, vote) → IsFoundBy site o found
      → IsCandidateAt (protocols scenario) (coord_past story) site tid vote found
  by_vote site None found tid vote e f = cc
  by_vote site (Some pair) found tid vote e f =
      let one : Tid × Option ℕ = (tid, vote) in
      let same : pair ≡ one = some_parts e in
      subst (λ (q : Tid × Option ℕ). IsCandidateAt (protocols scenario) (coord_past story) site q.0 q.1 found) same f

  -- it is the one of the command
  pub candidate_by : (site : SiteId) (place : ℕ) (o : Option (Tid × Option ℕ)) (found : Option Candidate) → command ≡ Cmd.Take site place → o ≡ vote_of (item_at (sent_from site story) place) → IsFoundBy site o found
      → IsCandidateOf scenario story command found
  unfolding site_in place_in
  candidate_by site place o found is told f = λ site' place' tid vote e there.
      let both = sym is ∙ e in
      let sites : site ≡ site' = ap (site_in site) both in
      let places : place ≡ place' = ap place_in both in
      let here : o ≡ Some (tid, vote) = told ∙ (ap₂ (λ (s : SiteId) (p : ℕ). vote_of (item_at (sent_from s story) p)) sites places ∙ ap vote_of there) in
      subst (λ (s : SiteId). IsCandidateAt (protocols scenario) (coord_past story) s tid vote found) sites (by_vote site o found tid vote here f)

  module _ (edges : List Edge) (wrong : Bool) (found : Option Candidate) (of_command : IsCandidateOf scenario story command found) (says : CoordJournalSaysAll (protocols scenario) (coord_past story))
      (told : (candidate : Candidate) → found ≡ Some candidate → wrong ≡ not (goes_round candidate.tid candidate.tickets.items (journal (coord_past story)) edges)) where
    by_found : (site : SiteId) (tid : Tid) (ticket : ℕ) (o : Option Candidate) → found ≡ o → IsFoundCandidate (protocols scenario) (coord_past story) site tid (Some ticket) o
        → names_cycle (taken (protocols scenario) (policy scenario) (coord_past story) site (From.Vote tid (Some ticket))).answer ≡ true
        → wrong ≡ not (may_name (protocols scenario) (coord_past story) (taken (protocols scenario) (policy scenario) (coord_past story) site (From.Vote tid (Some ticket))) tid edges)
    by_found site tid ticket None is v names = absurd v
    by_found site tid ticket (Some candidate) is v names =
        told candidate is ∙ ap not (may_is (protocols scenario) (policy scenario) (coord_past story) site tid ticket names v.known v.is says candidate.tid candidate.tickets.items v.tid v.tickets edges)

    of_message : (site : SiteId) (place : ℕ) (message : FromSite) → command ≡ Cmd.Take site place → item_at (sent_from site story) place ≡ Some message → TellsOf scenario story edges wrong site message
    of_message site place (From.Vote tid (Some ticket)) e there = λ names.
        by_found site tid ticket found refl
        (of_command site place tid (Some ticket) e there (names_up (protocols scenario) (policy scenario) (coord_past story) site (From.Vote tid (Some ticket)) names)
        (stands_open (protocols scenario) (policy scenario) (coord_past story) site tid ticket names)) names
    of_message site place (From.Vote tid None) e there = λ names. let no = names_yes (protocols scenario) (policy scenario) (coord_past story) site (From.Vote tid None) (λ y. y) in cc
    of_message site place (From.Did tid epoch n reply) e there = λ names. let no = names_yes (protocols scenario) (policy scenario) (coord_past story) site (From.Did tid epoch n reply) (λ y. y) in cc
    of_message site place (From.Ack tid) e there = λ names. let no = names_yes (protocols scenario) (policy scenario) (coord_past story) site (From.Ack tid) (λ y. y) in cc
    of_message site place (From.Inquiry tid) e there = λ names. let no = names_yes (protocols scenario) (policy scenario) (coord_past story) site (From.Inquiry tid) (λ y. y) in cc

    -- it is told whether its edges are wrong
    pub wrong_told : TellsWrong (protocols scenario) story (happens scenario story command) edges wrong
    wrong_told = tells_wrong scenario story edges wrong command of_message

  -- no edges are no cycle
  pub none_told : TellsWrong (protocols scenario) story (happens scenario story command) [] true
  none_told = tells_wrong scenario story [] true command (λ site place message e there. λ names. refl)
