-- The line of a commit, before its disk calls, and the core before the decision.
use Rattle.std.proofs.Common.{◌≡◌, ℕ, Bool, true, false, cond, Option, Some, None, List, [], ◌∷◌, map, refl, sym, ap, subst, ◌∙◌}
use Rattle.mdb_base.specs.declared.names.SiteId.{SiteId}
use Rattle.mdb_base.specs.declared.names.SiteTicket.{SiteTicket}
use Rattle.mdb_base.specs.declared.names.Tid.{Tid}
use Rattle.mdb_base.specs.declared.names.Tx.{Tx}
use Rattle.mdb_base.specs.declared.replies.Edge.{Edge}
use Rattle.mdb_base.specs.Names.{same_tx}
use Rattle.mdb_base.specs.Words.{map_some, or_else}
use Rattle.order_laws.specs.Search.{cycle_through}
use Rattle.order_laws.specs.Tickets.{IsCycle, Ticketed, edge_between}
use Rattle.order_laws.proofs.ForCallers.{cycle_found}
use Rattle.presumptions.specs.declared.Decision.TheVariants as Decided
use Rattle.fed_rules.specs.declared.answers.Answer.{Answer}
use Rattle.fed_rules.specs.declared.answers.Answer.TheVariants as Say
use Rattle.fed_rules.specs.declared.events.CoordEvent.{CoordEvent}
use Rattle.fed_rules.specs.declared.events.CoordStep.{CoordStep}
use Rattle.fed_rules.specs.declared.records.CoordRecord.TheVariants as Rec
use Rattle.fed_rules.specs.Disk.{Append, Sync}
use Rattle.fed_rules.specs.Happenings.{is_down}
use Rattle.fed_rules.specs.Coord.{commits_it, decide_to, last_vote}
use Rattle.fed_rules.specs.CoordRecords.{commits}
use Rattle.fed_rules.specs.CoordPast.{CoordHappening, CoordPast, is_open, participants, records, standing}
use Rattle.fed_rules.specs.CoordPast as Past
use Rattle.fed_rules.specs.Policies.{Policy}
use Rattle.fed_rules.specs.Right.{MayPrint}
use Rattle.journal_disk.specs.Disk.{Seen}
use Rattle.global_exec.specs.Firsts.{taken_out}
use Rattle.global_exec.specs.Live as live
use Rattle.global_exec.specs.Live.{Live}
use Rattle.protocol_table.specs.declared.known.Known.{Known}
use Rattle.protocol_table.specs.Agreement.{IsKnownAs}
use Rattle.protocol_table.specs.Attempts.{changed, known_of, without}
use Rattle.protocol_table.specs.Ends as ends
use Rattle.ticket_graph.specs.Graph.{AreHeld, Graph, StandsFor}
use Rattle.coord_core.specs.declared.coord.CoordCore.{CoordCore}
use Rattle.coord_tables.specs.declared.tables.Tables.{Tables}
use Rattle.coord_tables.specs.declared.stages.Stage.{Stage}
use Rattle.coord_tables.specs.Attempts.{IsLiveAs, Listing}
use Rattle.coord_tables.specs.Trees.{committed_in, noted}
use Rattle.coord_tables.specs.Deciding.{recorded}
use Rattle.coord_core.specs.Pending.{IsPending}
use Rattle.coord_tables.specs.Stages.{AreStagesOf, is_of, stage_tickets}
use Rattle.coord_core.specs.Found.{was_found}
use Rattle.coord_core.specs.Stands.{Stands, TablesStand}
use Rattle.coord_core.specs.Store.{Keeps}
use Rattle.coord_tables.specs.Tables.{IsServing}
use Rattle.coord_tables.specs.Terms.{Terms, IsSound}
use Rattle.coord_tables.specs.Voting.{IsLastVote, vote_event}
use Rattle.coord_tables.specs.Waiting.{waiting}
use Rattle.coord_tables.proofs.ForCallers.{attempts_same, commit_forgets, commit_serving, commits_are, committed, last_commits, last_line, range_same}
use Rattle.actor_store.specs.declared.store.Standing.{Standing as StoreStanding}
use Rattle.actor_store.specs.declared.store.Standing.TheVariants.{Up, Down, Failing}

module _ (terms : Terms) (past : CoordPast) (site : SiteId) (tid : Tid) (ticket : ℕ) (tickets : List SiteTicket) (sound : IsSound terms past) (l : IsLastVote site tid ticket tickets terms past) where
  abbrev event : CoordEvent
  event = vote_event site tid (Some ticket)

  abbrev attempt : Ticketed
  attempt = record { tid = tid; tickets = tickets }

  abbrev x : CoordHappening
  x = committed terms past site tid ticket tickets sound l

  -- the disk calls are to be made
  pub commit_pending : {P : Type 0} (test : P → Policy) (tells : Bool) (step : CoordStep) (old new : CoordCore P) (before after : Seen) (result : Bool) (written : List SiteTicket) → written ≡ tickets
      → Stands test tells old before terms past → IsServing old.tables terms past → is_down past ≡ false
      → ((edges : List Edge) → IsCycle (attempt ∷ commits (records past)) tid edges → ⊥)
      → result ≡ or_else (map_some (ends.forgets_at_once Decided.Commit) (known_of tid (recorded true tid old.tables.known))) false
      → new.tables.known ≡ cond result (without tid (recorded true tid old.tables.known)) (changed tid (ends.decide Decided.Commit) (recorded true tid old.tables.known))
      → new.tables.exec ≡ taken_out (live.is_of tid) old.tables.exec → live.AreApart (map (λ (l : Live). l.tid) old.tables.exec) → new.tables.stages.listed ≡ taken_out (is_of tid) old.tables.stages.listed
      → ((tx : Tx) → committed_in new.tables.committed.listed tx ≡ cond (same_tx tid.tx tx) (Some tid) (committed_in old.tables.committed.listed tx)) → StandsFor (attempt ∷ commits (records past)) new.tables.graph → AreHeld (map stage_tickets new.tables.stages.listed) new.tables.graph
      → step.answer ≡ Say.Decides Decided.Commit None result → step.sends ≡ decide_to tid Decided.Commit (participants terms.protocols past tid)
      → Keeps (was_found past) tells after new.store (Past.disk past) (Past.trip past) → new.protocols ≡ old.protocols → new.policy ≡ old.policy → new.begun ≡ old.begun
      → IsPending test tells (Append (Rec.Commit tid written) ∷ Sync ∷ []) step new after terms past event x
  commit_pending test tells step old new before after result written same k s up none r known exec apart stages more graph pruned said sends stored sites policy begun =
      let is = commit_forgets terms past site tid ticket tickets sound l old.tables result s r in
      record {
        answered = record {
          usual = tt;
          line = last_line terms past site tid ticket tickets sound l ∙ by_way (cycle_through edge_between attempt (commits (records past))) refl ∙ commits_are terms.protocols past event tid tickets;
          heard = refl;
          numbered = tt;
          goes = refl;
          stays = refl;
          answer = subst (λ (a : Answer). MayPrint terms.protocols past x event a) (sym (said ∙ ap (λ (b : Bool). Say.Decides Decided.Commit None b) is)) refl;
          sends = sends;
        };
        ready = record {
          stored = stored;
          up = up;
          protocols = sites ∙ k.holds.protocols;
          policy = ap test policy ∙ k.holds.policy;
          sound = k.holds.sound;
          in_range = range_same past x refl k.holds.sound.in_range;
          serving = commit_serving terms past site tid ticket tickets sound l old.tables new.tables result is known exec apart stages more graph pruned s;
          begun = λ tx. ap (λ n. noted n.listed tx) begun ∙ k.holds.begun tx ∙ sym (attempts_same past x refl tx);
        };
        none_begun = refl;
        makes = ap (λ (ks : List SiteTicket). Append (Rec.Commit tid ks) ∷ Sync ∷ []) (sym same);
      }
    where
      by_way : (o : Option (List Edge)) → cycle_through edge_between attempt (commits (records past)) ≡ o → last_vote terms.protocols past event tid tickets ≡ commits_it terms.protocols past event tid tickets
      by_way None e = last_commits terms.protocols past event tid tickets e
      by_way (Some edges) e = absurd (none edges (cycle_found attempt (commits (records past)) edges e))

-- ---- the core before the decision

-- a core that is the same stands for the same
pub stands_as : {P : Type 0} (test : P → Policy) (tells : Bool) (old new : CoordCore P) (seen : Seen) (terms : Terms) (past : CoordPast) → new ≡ old → Stands test tells old seen terms past → Stands test tells new seen terms past
stands_as {P} test tells old new seen terms past same k = subst (λ (core : CoordCore P). Stands test tells core seen terms past) (sym same) k

-- nothing but the graph may differ, and it doesn't
pub core_same : {P : Type 0} (old new : CoordCore P) → new ≡ record old { tables = record old.tables { graph = new.tables.graph } } → new.tables.graph ≡ old.tables.graph → new ≡ old
core_same old new others graph = others ∙ ap (λ (h : Graph). record old { tables = record old.tables { graph = h } }) graph

-- with other room for committed attempts a core stands for what it stood for
pub stands_regrown : {P : Type 0} (test : P → Policy) (tells : Bool) (old : CoordCore P) (tables : Tables) (seen : Seen) (terms : Terms) (past : CoordPast)
    → tables.known ≡ old.tables.known → tables.exec ≡ old.tables.exec → tables.stages ≡ old.tables.stages → ((tx : Tx) → committed_in tables.committed.listed tx ≡ committed_in old.tables.committed.listed tx)
    → tables.graph ≡ old.tables.graph
    → Stands test tells old seen terms past → Stands test tells (record old { tables = tables }) seen terms past
stands_regrown test tells old tables seen terms past known exec stages listed graph k = record {
  holds = record {
    protocols = k.holds.protocols;
    policy = k.holds.policy;
    sound = k.holds.sound;
    records = k.holds.records;
    trip = k.holds.trip;
    armed = k.holds.armed;
    standing = k.holds.standing;
    tables = by_standing old.store.standing k.holds.tables;
    begun = k.holds.begun;
  };
  stored = k.stored;
} where
  by_standing : (up : StoreStanding) → TablesStand old.tables up terms past → TablesStand tables up terms past
  by_standing Up s = record {
    known = λ t. subst (λ (ks : List Known). IsKnownAs terms.protocols past t (standing terms.protocols past t) (known_of t ks)) (sym known) (s.known t);
    live = λ t. subst (λ (ls : List Live). IsLiveAs terms.protocols past t (is_open past t) (live.live_of t ls)) (sym exec) (s.live t);
    stages = subst (λ (ss : Listing Stage). AreStagesOf terms.protocols past ss.listed) (sym stages) s.stages;
    committed = λ tx. listed tx ∙ s.committed tx;
    graph = subst (λ (g : Graph). StandsFor (commits (records past)) g) (sym graph) s.graph;
    pruned = subst (λ (g : Graph). AreHeld (waiting past) g) (sym graph) s.pruned;
  }
  by_standing Down s = tt
  by_standing Failing s = tt
