-- The step of a new attempt.
use Rattle.std.proofs.Common.{◌≡◌, ◌+◌, Bool, cond, not, List, [], ◌∷◌, map, refl, sym, ap, subst, ◌∙◌}
use Rattle.mdb_base.specs.declared.acts.Step.{Step}
use Rattle.mdb_base.specs.declared.names.Tid.{Tid}
use Rattle.mdb_base.specs.declared.names.Tx.{Tx}
use Rattle.mdb_base.specs.Names.{same_tx}
use Rattle.presumptions.specs.declared.Participant.{Participant}
use Rattle.fed_rules.specs.declared.answers.Answer.TheVariants as Say
use Rattle.fed_rules.specs.declared.events.CoordEvent.TheVariants as Ev
use Rattle.fed_rules.specs.declared.events.CoordStep.{CoordStep}
use Rattle.fed_rules.specs.declared.messages.Due.{Due}
use Rattle.fed_rules.specs.Coord.{all_outstanding, send_due}
use Rattle.fed_rules.specs.CoordRecords.{commits}
use Rattle.fed_rules.specs.CoordPast.{CoordPast, is_open, participants_of, records, standing}
use Rattle.fed_rules.specs.CoordPast as Past
use Rattle.fed_rules.specs.Policies.{Policy}
use Rattle.journal_disk.specs.Disk.{Seen}
use Rattle.actor_store.specs.declared.store.Standing.TheVariants.{Up, Down, Failing}
use Rattle.global_exec.specs.declared.policy.SiteSet.{SiteSet}
use Rattle.global_exec.specs.Live as live
use Rattle.global_exec.specs.Live.{Live, all_due, live_of}
use Rattle.global_exec.proofs.ForCallers.{all_due-outstanding}
use Rattle.protocol_table.specs.declared.known.Known.{Known}
use Rattle.protocol_table.specs.Agreement.{IsKnownAs}
use Rattle.protocol_table.specs.Attempts.{known_of}
use Rattle.ticket_graph.specs.Graph.{AreHeld, Graph, StandsFor}
use Rattle.coord_core.specs.declared.coord.CoordCore.{CoordCore}
use Rattle.coord_tables.specs.declared.stages.Stage.{Stage}
use Rattle.coord_tables.specs.Attempts.{IsLiveAs}
use Rattle.coord_tables.specs.Trees.{committed_in, noted}
use Rattle.frame_journal.specs.Journal.{records as records_of}
use Rattle.actor_store.specs.declared.store.Standing.{Standing as StoreStanding}
use Rattle.actor_store.specs.Store.{IsArmed, is_up, trip_of_rules}
use Rattle.mdb_base.specs.Words.{map_some}
use Rattle.coord_tables.specs.Beginning.{CanBegin, ListTheSame}
use Rattle.coord_tables.specs.Stages.{AreStagesOf}
use Rattle.coord_core.specs.Found.{was_found}
use Rattle.coord_core.specs.Stands.{Stands, Steps, TablesStand}
use Rattle.coord_core.specs.Store.{Keeps, Store}
use Rattle.coord_tables.specs.Terms.{Terms, answer_of, line_of}
use Rattle.coord_core.proofs.Endings.{ready_quiet}
use Rattle.coord_core.proofs.Still.{serves, up_is}
use Rattle.coord_tables.specs.Waiting.{waiting}
use Rattle.coord_tables.proofs.ForCallers.{HasBegun, HasVisited, begun_line, begun_live, begun_serving, go_begins, no_prepares, no_takes, noted_next}

pub begun_steps : {P : Type 0} (test : P → Policy) (tells : Bool) (step : CoordStep) (old new : CoordCore P) (seen : Seen) (terms : Terms) (past : CoordPast) (tid : Tid) (steps : List Step) (set : SiteSet) (members : List Participant)
    → Stands test tells old seen terms past → old.store.standing ≡ Up → CanBegin tid steps terms past → HasVisited steps set → members ≡ participants_of old.protocols steps
    → HasBegun old.tables new.tables tid steps set members → new.protocols ≡ old.protocols → new.policy ≡ old.policy → new.store ≡ old.store
    → ((tx : Tx) → noted new.begun.listed tx ≡ cond (same_tx tid.tx tx) (tid.attempt + 1) (noted old.begun.listed tx))
    → step.answer ≡ Say.Begun tid → step.sends ≡ map (send_due tid) (all_due (live.submitted tid steps)) → Steps test tells 0 seen step new seen terms past (line_of terms past (Ev.Go tid steps))
begun_steps test tells step old new seen terms past tid steps set members k up can has are h sites policy store begun said sends =
    let dues = all_due (live.submitted tid steps) in
    let y = begun_line tid steps (map (send_due tid) dues) in
    let sound = k.holds.sound in
    let s = serves test tells old terms past k.holds up in
    let outstanding : dues ≡ all_outstanding terms.protocols (begun_line tid steps [] ∷ past) tid =
    all_due-outstanding terms.protocols (begun_line tid steps [] ∷ past) tid (live.submitted tid steps) (begun_live past tid steps [] terms set sound can.can.sites has) in
    let line : answer_of terms past (Ev.Go tid steps) ≡ y =
    go_begins terms past tid steps can.uncommitted can.idle ∙ ap (λ (ds : List Due). begun_line tid steps (map (send_due tid) ds)) (sym outstanding) in
    ready_quiet test tells step new seen terms past (Ev.Go tid steps) y
    (record {
      usual = tt;
      line = line;
      heard = refl;
      numbered = can.can.next;
      goes = refl;
      stays = refl;
      answer = said;
      sends = sends;
    })
    (record {
      stored = subst (λ (st : Store). Keeps (was_found past) tells seen st (Past.disk past) (Past.trip past)) (sym store) k.stored;
      up = up_is test tells old terms past k.holds up;
      protocols = sites ∙ k.holds.protocols;
      policy = ap test policy ∙ k.holds.policy;
      sound = sound;
      in_range = (can.can.in_range, sound.in_range);
      serving = begun_serving terms past tid steps sound can.can dues old.tables new.tables set members (no_takes tid steps) (no_prepares tid steps) has
          (are ∙ ap (λ (ps : List Participant). participants_of ps steps) k.holds.protocols) h.known h.exec h.stages h.committed h.graph s;
      begun = λ tx. begun tx ∙ ap (λ n. cond (same_tx tid.tx tx) (tid.attempt + 1) n) (k.holds.begun tx) ∙ noted_next past tid tx can.can.next;
    })
    refl (ap (λ (st : Store). st.standing) store ∙ up)

-- a core that lists the same stands for the same
pub stands_listed : {P : Type 0} (test : P → Policy) (tells : Bool) (old new : CoordCore P) (seen : Seen) (terms : Terms) (past : CoordPast) → new.protocols ≡ old.protocols → new.policy ≡ old.policy → new.store ≡ old.store
    → ListTheSame old.tables new.tables → ((tx : Tx) → noted new.begun.listed tx ≡ noted old.begun.listed tx) → Stands test tells old seen terms past → Stands test tells new seen terms past
stands_listed test tells old new seen terms past sites policy store same begun k = record {
  holds = record {
    protocols = sites ∙ k.holds.protocols;
    policy = ap test policy ∙ k.holds.policy;
    sound = k.holds.sound;
    records = ap (λ (st : Store). records_of st.journal) store ∙ k.holds.records;
    trip = ap (λ (st : Store). map_some trip_of_rules st.trip) store ∙ k.holds.trip;
    armed = subst (λ (st : Store). IsArmed st.trip) (sym store) k.holds.armed;
    standing = k.holds.standing ∙ sym (ap (λ (st : Store). not (is_up st.standing)) store);
    tables = subst (λ (st : Store). TablesStand new.tables st.standing terms past) (sym store) (by_standing old.store.standing k.holds.tables);
    begun = λ tx. begun tx ∙ k.holds.begun tx;
  };
  stored = subst (λ (st : Store). Keeps (was_found past) tells seen st (Past.disk past) (Past.trip past)) (sym store) k.stored;
} where
  by_standing : (up : StoreStanding) → TablesStand old.tables up terms past → TablesStand new.tables up terms past
  by_standing Up s = record {
    known = λ t. subst (λ (ks : List Known). IsKnownAs terms.protocols past t (standing terms.protocols past t) (known_of t ks)) (sym same.known) (s.known t);
    live = λ t. subst (λ (ls : List Live). IsLiveAs terms.protocols past t (is_open past t) (live.live_of t ls)) (sym same.exec) (s.live t);
    stages = subst (λ (ss : List Stage). AreStagesOf terms.protocols past ss) (sym same.stages) s.stages;
    committed = λ tx. ap (λ cs. committed_in cs.listed tx) same.committed ∙ s.committed tx;
    graph = subst (λ (g : Graph). StandsFor (commits (records past)) g) (sym same.graph) s.graph;
    pruned = subst (λ (g : Graph). AreHeld (waiting past) g) (sym same.graph) s.pruned;
  }
  by_standing Down s = tt
  by_standing Failing s = tt
