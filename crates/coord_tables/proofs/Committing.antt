-- The last yes vote of an attempt, which decides it: abort where it closes a cycle, and else commit.
use Rattle.std.proofs.Common.{◌≡◌, ℕ, Bool, true, false, cond, Option, Some, None, List, [], ◌∷◌, map, refl, sym, ap, ap₂, subst, ◌∙◌}
use Rattle.std.proofs.lemmas.Bool.{cond-true, cond-false, false≢true}
use Rattle.mdb_base.specs.declared.names.SiteId.{SiteId}
use Rattle.mdb_base.specs.declared.names.SiteTicket.{SiteTicket}
use Rattle.mdb_base.specs.declared.names.Tid.{Tid}
use Rattle.mdb_base.specs.declared.names.Tx.{Tx}
use Rattle.mdb_base.specs.declared.replies.Edge.{Edge}
use Rattle.mdb_base.specs.Names.{same_tx}
use Rattle.mdb_base.specs.Words.{found, given, map_some, or_else}
use Rattle.mdb_base.proofs.ForCallers.{same_tid-refl}
use Rattle.order_laws.specs.Chains.{In}
use Rattle.order_laws.specs.Search.{cycle_through}
use Rattle.order_laws.specs.Tickets.{IsCycle, OneEach, Ticketed, edge_between}
use Rattle.order_laws.proofs.ForCallers.{cycle_none}
use Rattle.presumptions.specs.declared.Decision.{Decision}
use Rattle.presumptions.specs.declared.Decision.TheVariants as Decided
use Rattle.presumptions.specs.declared.Participant.{Participant}
use Rattle.fed_rules.specs.declared.answers.Answer.{Answer}
use Rattle.fed_rules.specs.declared.answers.Answer.TheVariants as Say
use Rattle.fed_rules.specs.declared.answers.Cause.TheVariants as For
use Rattle.fed_rules.specs.declared.events.CoordEvent.{CoordEvent}
use Rattle.fed_rules.specs.declared.records.CoordRecord.TheVariants as Rec
use Rattle.fed_rules.specs.Disk.{Append, Sync}
use Rattle.fed_rules.specs.Coord.{aborts, all_voted, commits_it, decide_to, forgets_at_once, last_vote, vote_ticket, vote_tickets}
use Rattle.fed_rules.specs.CoordRecords.{commits, named, ticketed}
use Rattle.fed_rules.specs.CoordPast.{CoordHappening, CoordPast, Undecided, begins, counts, is_open, known_decision, or_steps, or_vote, participants, participants_of, program, program_in, records, standing, standing_of, vote_at, vote_in}
use Rattle.fed_rules.specs.Right.{IsRefusal, SameButCycle}
use Rattle.coord_laws.proofs.ForCallers.{commits_once, committed_tid, records_name, tickets_name, undecided_unmarked}
use Rattle.global_exec.specs.Firsts.{taken_out}
use Rattle.global_exec.specs.Live as live
use Rattle.global_exec.specs.Live.{Live}
use Rattle.protocol_table.specs.declared.known.Known.{Known}
use Rattle.protocol_table.specs.Agreement.{IsKnownAs}
use Rattle.protocol_table.specs.Attempts.{IsMissing, IsUndecided, LacksDecision, changed, known_of, without}
use Rattle.protocol_table.specs.Ends as ends
use Rattle.ticket_graph.specs.Graph.{AreHeld, StandsFor, tids_of}
use Rattle.coord_tables.specs.declared.tables.Tables.{Tables}
use Rattle.coord_tables.specs.Trees.{committed_in}
use Rattle.coord_tables.specs.Deciding.{IsAborting, recorded}
use Rattle.coord_tables.specs.Stages.{is_of, stage_tickets}
use Rattle.coord_tables.specs.Tables.{IsServing}
use Rattle.coord_tables.specs.Terms.{Terms, IsSound, answer_of}
use Rattle.coord_tables.specs.Voting.{IsLastVote, vote_event, voted_past}
use Rattle.coord_tables.proofs.Again.{prepares_none, takes_none}
use Rattle.coord_tables.proofs.Decided.{IsDeciding, decided_serving, forgets_is}
use Rattle.coord_tables.proofs.Initiations.{known_none, known_open, known_some}
use Rattle.coord_tables.proofs.Voting.{last_parts, vote_last, vote_open}

-- the line of a commit
abbrev pub commit_line : List Participant → CoordPast → CoordEvent → Tid → List SiteTicket → CoordHappening
commit_line protocols past event tid tickets = record {
  event = event;
  answer = Say.Decides Decided.Commit None (forgets_at_once protocols (Rec.Commit tid tickets ∷ records past) tid Decided.Commit);
  sends = decide_to tid Decided.Commit (participants protocols past tid);
  calls = Append (Rec.Commit tid tickets) ∷ Sync ∷ [];
  lines = [];
}

pub commits_are : (protocols : List Participant) (past : CoordPast) (event : CoordEvent) (tid : Tid) (tickets : List SiteTicket) → commits_it protocols past event tid tickets ≡ commit_line protocols past event tid tickets
unfolding commits_it
commits_are protocols past event tid tickets = refl

pub last_commits : (protocols : List Participant) (past : CoordPast) (event : CoordEvent) (tid : Tid) (tickets : List SiteTicket) → cycle_through edge_between (record { tid = tid; tickets = tickets }) (commits (records past)) ≡ None
    → last_vote protocols past event tid tickets ≡ commits_it protocols past event tid tickets
unfolding last_vote given
last_commits protocols past event tid tickets e = ap (λ o. given o (λ edges. aborts protocols past event tid (For.Cycle edges)) (commits_it protocols past event tid tickets)) e

last_aborts : (protocols : List Participant) (past : CoordPast) (event : CoordEvent) (tid : Tid) (tickets : List SiteTicket) (edges : List Edge) → cycle_through edge_between (record { tid = tid; tickets = tickets }) (commits (records past)) ≡ Some edges
    → last_vote protocols past event tid tickets ≡ aborts protocols past event tid (For.Cycle edges)
unfolding last_vote given
last_aborts protocols past event tid tickets edges e = ap (λ o. given o (λ es. aborts protocols past event tid (For.Cycle es)) (commits_it protocols past event tid tickets)) e

-- the tickets of the votes behind a line with this answer and event
abbrev tickets_by : List Participant → CoordPast → Tid → Answer → CoordEvent → List SiteTicket
tickets_by protocols past tid a e =
    found (λ (p : Participant). vote_ticket p.site (cond (begins tid a) None (cond (counts a) (or_vote (vote_in tid p.site e) (vote_at past tid p.site)) (vote_at past tid p.site))))
    (participants_of protocols (cond (begins tid a) (or_steps (program_in tid e) []) (program past tid)))

module _ (terms : Terms) (past : CoordPast) (site : SiteId) (tid : Tid) (ticket : ℕ) (tickets : List SiteTicket) (sound : IsSound terms past) (l : IsLastVote site tid ticket tickets terms past) where
  abbrev event : CoordEvent
  event = vote_event site tid (Some ticket)

  abbrev attempt : Ticketed
  attempt = record { tid = tid; tickets = tickets }

  parts : (all_voted (voted_past past site tid ticket) tid (participants terms.protocols past tid) ≡ true) × (vote_tickets (voted_past past site tid ticket) tid (participants terms.protocols past tid) ≡ tickets)
  parts = last_parts terms.protocols past site tid ticket tickets l.last

  pub last_open : is_open past tid ≡ true
  last_open = vote_open past site tid l.counted.counts

  -- the line is that of the last vote
  pub last_line : answer_of terms past event ≡ last_vote terms.protocols past event tid tickets
  last_line = vote_last terms past site tid ticket tickets l.counted.counts l.last

  -- ---- the graph

  undecided_is : standing terms.protocols past tid ≡ Undecided
  undecided_is = ap (λ b. standing_of b (known_decision terms.protocols past tid)) last_open

  uncommitted : In tid (tids_of (commits (records past))) → ⊥
  uncommitted i = false≢true (sym (undecided_unmarked terms.protocols terms.policy past sound.made tid undecided_is).0 ∙ committed_tid (records past) tid i)

  pub one_each : OneEach (attempt ∷ commits (records past))
  one_each = (uncommitted, commits_once terms.protocols terms.policy past sound.made)

  -- ---- a cycle

  votes_by : (y : CoordHappening) (forgets : Bool) (others : List Edge) → y.event ≡ event → y.answer ≡ Say.Decides Decided.Abort (Some (For.Cycle others)) forgets
      → vote_tickets (y ∷ past) tid (participants terms.protocols (y ∷ past) tid) ≡ tickets
  votes_by y forgets others heard said = ap₂ (tickets_by terms.protocols past tid) said heard ∙ parts.1

  pub cycle_aborting : (edges : List Edge) → IsCycle (attempt ∷ commits (records past)) tid edges → IsAborting terms past event tid (For.Cycle edges)
  cycle_aborting edges c = by_way (cycle_through edge_between attempt (commits (records past))) refl where
    by_way : (o : Option (List Edge)) → cycle_through edge_between attempt (commits (records past)) ≡ o → IsAborting terms past event tid (For.Cycle edges)
    by_way None e = absurd (cycle_none attempt (commits (records past)) one_each e edges c)
    by_way (Some others) e = record {
      usual = tt;
      numbered = tt;
      undecided = last_open;
      cause = For.Cycle others;
      line = last_line ∙ last_aborts terms.protocols past event tid tickets others e;
      about = λ t. refl;
      prints = λ y forgets heard said.
          let refusal : IsRefusal terms.protocols past y tid edges = subst (λ (ks : List SiteTicket). IsCycle (record { tid = tid; tickets = ks } ∷ commits (records past)) tid edges) (sym (votes_by y forgets others heard said)) c in
          subst (λ (a : Answer). SameButCycle (IsRefusal terms.protocols past y tid) (Say.Decides Decided.Abort (Some (For.Cycle edges)) forgets) a) (sym said) (refl, refl, refusal);
    }

  -- ---- no cycle

  abbrev pub committed : CoordHappening
  committed = commit_line terms.protocols past (vote_event site tid (Some ticket)) tid tickets

  abbrev forgets : Bool
  forgets = forgets_at_once terms.protocols (Rec.Commit tid tickets ∷ records past) tid Decided.Commit

  named_behind : (o : Option (List Participant)) → named terms.protocols (records past) tid ≡ o → Some (or_else o (ticketed terms.protocols tickets)) ≡ Some (participants terms.protocols past tid)
  named_behind None e = ap (λ (ps : List Participant). Some ps)
      (ap (ticketed terms.protocols) (sym parts.1) ∙ tickets_name terms.protocols past (voted_past past site tid ticket) tid parts.0)
  named_behind (Some ms) e = ap (λ (ps : List Participant). Some ps) (records_name terms.protocols terms.policy past sound.made tid ms e)

  deciding : IsDeciding terms past committed tid Decided.Commit forgets true
  deciding = record {
    cause = None;
    answer = refl;
    about = λ t. refl;
    undecided = last_open;
    takes = λ t. takes_none t tid Decided.Commit (participants terms.protocols past tid);
    prepares = λ t. prepares_none t tid Decided.Commit (participants terms.protocols past tid);
    named_own = cond-true _ _ _ (same_tid-refl tid) ∙ named_behind (named terms.protocols (records past) tid) refl;
    named_others = λ t e. cond-false _ _ _ e;
    at_once = refl;
  }

  -- what the table answers
  pub commit_forgets : (tables : Tables) (result : Bool) → IsServing tables terms past → result ≡ or_else (map_some (ends.forgets_at_once Decided.Commit) (known_of tid (recorded true tid tables.known))) false → result ≡ forgets
  commit_forgets tables result s r = by_known (known_of tid tables.known) refl where
    by_known : (o : Option Known) → known_of tid tables.known ≡ o → result ≡ forgets
    by_known None e = absurd (known_none tables terms past tid s last_open e)
    by_known (Some known) e = r ∙ forgets_is terms past committed tid Decided.Commit forgets true deciding known tables.known (known_some tables terms past tid known s last_open e) e

  -- the tables follow
  pub commit_serving : (tables now : Tables) (result : Bool) → result ≡ forgets
      → now.known ≡ cond result (without tid (recorded true tid tables.known)) (changed tid (ends.decide Decided.Commit) (recorded true tid tables.known))
      → now.exec ≡ taken_out (live.is_of tid) tables.exec → live.AreApart (map (λ (l : Live). l.tid) tables.exec) → now.stages.listed ≡ taken_out (is_of tid) tables.stages.listed
      → ((tx : Tx) → committed_in now.committed.listed tx ≡ cond (same_tx tid.tx tx) (Some tid) (committed_in tables.committed.listed tx)) → StandsFor (attempt ∷ commits (records past)) now.graph → AreHeld (map stage_tickets now.stages.listed) now.graph → IsServing tables terms past → IsServing now terms (committed ∷ past)
  commit_serving tables now result r known exec apart stages more graph pruned s =
      decided_serving terms past committed tid Decided.Commit forgets true deciding tables now sound
      (known ∙ ap (λ (a : Bool). cond a (without tid (recorded true tid tables.known)) (changed tid (ends.decide Decided.Commit) (recorded true tid tables.known))) r)
      exec apart stages
      (λ tx. more tx ∙ ap (λ o. cond (same_tx tid.tx tx) (Some tid) o) (s.committed tx))
      graph pruned s

-- the tables once an undecided attempt was decided
pub record HasDecided (tid : Tid) (decision : Decision) (first gone : Bool) (old now : Tables) : Type 0 where
  pub forgets : gone ≡ or_else (map_some (ends.forgets_at_once decision) (known_of tid (recorded first tid old.known))) false
  pub known : now.known ≡ cond gone (without tid (recorded first tid old.known)) (changed tid (ends.decide decision) (recorded first tid old.known))
  pub exec : now.exec ≡ taken_out (live.is_of tid) old.exec
  pub apart : live.AreApart (map (λ (l : Live). l.tid) old.exec)
  pub stages : now.stages.listed ≡ taken_out (is_of tid) old.stages.listed
  pub committed : now.committed ≡ old.committed
  pub graph : now.graph ≡ old.graph

-- an undecided attempt is known without a decision
pub lacks_decision : (tables : Tables) (terms : Terms) (past : CoordPast) (tid : Tid) → IsServing tables terms past → is_open past tid ≡ true → IsUndecided tid tables.known
lacks_decision tables terms past tid s u = by_known (known_of tid tables.known) (known_open tables terms past tid s u) where
  by_known : (o : Option Known) → IsKnownAs terms.protocols past tid Undecided o → LacksDecision o
  by_known None k = absurd k
  by_known (Some known) k = subst IsMissing (sym k.undecided) tt
