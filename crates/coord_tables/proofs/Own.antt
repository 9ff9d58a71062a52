-- What the tables stand for after a line that is about one attempt.
use Rattle.std.proofs.Common.{◌≡◌, ℕ, Bool, true, false, cond, ◌||◌, Option, Some, None, List, [], ◌∷◌, map, refl, sym, ap, ap₂, subst, ◌∙◌}
use Rattle.std.specs.Prelude.{reverse}
use Rattle.mdb_base.specs.declared.names.Tid.{Tid}
use Rattle.mdb_base.specs.declared.names.Tx.{Tx}
use Rattle.mdb_base.specs.Names.{same_tid}
use Rattle.mdb_base.specs.Words.{Each, found, some_of, with_some}
use Rattle.mdb_base.proofs.ForCallers.{each_map, or_swapped, same_tid-equal, same_tid-sym}
use Rattle.presumptions.specs.declared.Participant.{Participant}
use Rattle.fed_rules.specs.CoordRecords.{committed_of, commits}
use Rattle.fed_rules.specs.CoordPast.{CoordHappening, CoordPast, begun_by, counted, has_sent, is_open, is_prepare_of, is_take_of, program, records, standing}
use Rattle.global_exec.specs.Live.{Live, live_of}
use Rattle.protocol_table.specs.declared.known.Known.{Known}
use Rattle.protocol_table.specs.Agreement.{IsKnownAs}
use Rattle.protocol_table.specs.Attempts.{known_of}
use Rattle.ticket_graph.specs.Graph.{AreHeld, StandsFor}
use Rattle.coord_tables.specs.Trees.{committed_in}
use Rattle.coord_tables.specs.declared.stages.Stage.{Stage}
use Rattle.coord_tables.specs.declared.tables.Tables.{Tables}
use Rattle.coord_tables.specs.Attempts.{IsLiveAs}
use Rattle.coord_tables.specs.declared.replies.Taken.{Taken}
use Rattle.coord_tables.specs.Sending.{reply_in, stages_taken}
use Rattle.coord_tables.specs.Stages.{AreStagesOf, HasSitesOf, HasTicketsOf, IsStageOf, after_reply, after_sending, is_of, noting}
use Rattle.coord_tables.specs.Tables.{IsServing}
use Rattle.coord_tables.specs.Terms.{Terms}
use Rattle.coord_tables.specs.Waiting.{ticket_in, waiting}
use Rattle.coord_tables.proofs.Lines.{IsAsBefore, known_stays, live_stays, sites_stay}
use Rattle.coord_tables.proofs.Serving.{open_same}
use Rattle.coord_tables.proofs.Waiting.{noted_more, noted_stays}

-- what holds of an attempt and of each other one holds of all
pub by_tid : (P : Tid → Type 0) (tid : Tid) → P tid → ((t : Tid) → same_tid tid t ≡ false → P t) → (t : Tid) → P t
by_tid P tid own others t = inner (same_tid tid t) refl where
  inner : (b : Bool) → same_tid tid t ≡ b → P t
  inner true e = subst P (same_tid-equal tid t e) own
  inner false e = others t e

-- the tables follow a line about one attempt
pub record Follows (tables now : Tables) (terms : Terms) (past : CoordPast) (x : CoordHappening) (tid : Tid) : Type 0 where
  pub others : (t : Tid) → same_tid tid t ≡ false → IsAsBefore terms.protocols past x t
  pub known_others : (t : Tid) → same_tid tid t ≡ false → known_of t now.known ≡ known_of t tables.known
  pub live_others : (t : Tid) → same_tid tid t ≡ false → live_of t now.exec ≡ live_of t tables.exec
  pub known_own : IsKnownAs terms.protocols (x ∷ past) tid (standing terms.protocols (x ∷ past) tid) (known_of tid now.known)
  pub live_own : IsLiveAs terms.protocols (x ∷ past) tid (is_open (x ∷ past) tid) (live_of tid now.exec)
  pub stages : AreStagesOf terms.protocols (x ∷ past) now.stages.listed
  pub committed : (tx : Tx) → committed_in now.committed.listed tx ≡ committed_of (records (x ∷ past)) tx
  pub graph : StandsFor (commits (records (x ∷ past))) now.graph
  pub pruned : AreHeld (waiting (x ∷ past)) now.graph

pub serving_own : (tables now : Tables) (terms : Terms) (past : CoordPast) (x : CoordHappening) (tid : Tid) → Follows tables now terms past x tid → IsServing tables terms past → IsServing now terms (x ∷ past)
serving_own tables now terms past x tid f s = record {
  known = by_tid (λ t. IsKnownAs terms.protocols (x ∷ past) t (standing terms.protocols (x ∷ past) t) (known_of t now.known)) tid f.known_own (λ t e.
      subst (λ (o : Option Known). IsKnownAs terms.protocols (x ∷ past) t (standing terms.protocols (x ∷ past) t) o) (sym (f.known_others t e))
      (known_stays terms.protocols past x t (f.others t e) (known_of t tables.known) (s.known t)));
  live = by_tid (λ t. IsLiveAs terms.protocols (x ∷ past) t (is_open (x ∷ past) t) (live_of t now.exec)) tid f.live_own (λ t e.
      subst (λ (o : Option Live). IsLiveAs terms.protocols (x ∷ past) t (is_open (x ∷ past) t) o) (sym (f.live_others t e))
      (live_stays terms.protocols past x t (f.others t e) (live_of t tables.exec) (s.live t)));
  stages = f.stages;
  committed = f.committed;
  graph = f.graph;
  pruned = f.pruned;
}

-- what a line takes and sends of an attempt
pub record Sends (past : CoordPast) (x : CoordHappening) (tid : Tid) (taken : Option Taken) (some_take some_prepare : Bool) : Type 0 where
  pub program : program (x ∷ past) tid ≡ program past tid
  pub counted : counted (x ∷ past) tid ≡ with_some (reply_in taken) (counted past tid)
  pub takes : some_of (is_take_of tid) x.sends ≡ some_take
  pub prepares : some_of (is_prepare_of tid) x.sends ≡ some_prepare

-- the stage has the tickets of the one past, and is what the other says else
record IsTakenOf (protocols : List Participant) (past now : CoordPast) (stage : Stage) : Type 0 where
  pub sites : HasSitesOf protocols past stage.tid stage.sites
  pub takes : stage.takes ≡ has_sent (is_take_of stage.tid) past
  pub prepares : stage.prepares ≡ has_sent (is_prepare_of stage.tid) past
  pub tickets : HasTicketsOf now stage.tid stage.tickets

-- the stages once the reply of one attempt was taken
module _ (protocols : List Participant) (past : CoordPast) (x : CoordHappening) (tid : Tid) (others : (t : Tid) → same_tid tid t ≡ false → IsAsBefore protocols past x t) where
  names_taken : (taken : Option Taken) (stages : List Stage) → map (λ (stage : Stage). stage.tid) (stages_taken tid taken stages) ≡ map (λ (stage : Stage). stage.tid) stages
  names_taken None stages = refl
  names_taken (Some taken) [] = refl
  names_taken (Some taken) (stage ∷ stages) = ap₂ (λ (t : Tid) ts. t ∷ ts) (one_name (is_of tid stage)) (names_taken (Some taken) stages) where
    one_name : (b : Bool) → (cond b (record stage { tickets = noting taken.site taken.reply stage.tickets }) stage).tid ≡ stage.tid
    one_name true = refl
    one_name false = refl

  taken_with : (stage : Stage) (tickets : List (Option ℕ)) → HasTicketsOf (x ∷ past) stage.tid tickets → IsStageOf protocols past stage → IsTakenOf protocols past (x ∷ past) (record stage { tickets = tickets })
  taken_with stage tickets h s = record { sites = s.sites; takes = s.takes; prepares = s.prepares; tickets = h }

  one_elsewhere : (stage : Stage) → is_of tid stage ≡ false → IsStageOf protocols past stage → HasTicketsOf (x ∷ past) stage.tid stage.tickets
  one_elsewhere stage e s = noted_stays past (x ∷ past) stage.tid stage.tickets (ap (found ticket_in) (others stage.tid (same_tid-sym tid stage.tid ∙ e)).same.counted) s.tickets

  one_taken : (taken : Taken) → counted (x ∷ past) tid ≡ record { site = taken.site; epoch = taken.epoch; reply = taken.reply } ∷ counted past tid
      → (stage : Stage) → IsStageOf protocols past stage → IsTakenOf protocols past (x ∷ past) (after_reply tid taken.site taken.reply stage)
  one_taken taken more stage s = by_test (is_of tid stage) refl where
    by_test : (b : Bool) → is_of tid stage ≡ b → IsTakenOf protocols past (x ∷ past) (cond b (record stage { tickets = noting taken.site taken.reply stage.tickets }) stage)
    by_test true e =
        let here : counted (x ∷ past) stage.tid ≡ record { site = taken.site; epoch = taken.epoch; reply = taken.reply } ∷ counted past stage.tid =
        subst (λ (t : Tid). counted (x ∷ past) t ≡ record { site = taken.site; epoch = taken.epoch; reply = taken.reply } ∷ counted past t) (sym (same_tid-equal stage.tid tid e)) more in
        taken_with stage (noting taken.site taken.reply stage.tickets) (noted_more past (x ∷ past) stage.tid stage.tickets taken.site taken.epoch taken.reply here s.tickets) s
    by_test false e = taken_with stage stage.tickets (one_elsewhere stage e s) s

  none_taken : counted (x ∷ past) tid ≡ counted past tid → (stage : Stage) → IsStageOf protocols past stage → IsTakenOf protocols past (x ∷ past) stage
  none_taken same stage s = by_test (is_of tid stage) refl where
    by_test : (b : Bool) → is_of tid stage ≡ b → IsTakenOf protocols past (x ∷ past) stage
    by_test true e =
        let here = subst (λ (t : Tid). counted (x ∷ past) t ≡ counted past t) (sym (same_tid-equal stage.tid tid e)) same in
        taken_with stage stage.tickets (noted_stays past (x ∷ past) stage.tid stage.tickets (ap (found ticket_in) here) s.tickets) s
    by_test false e = taken_with stage stage.tickets (one_elsewhere stage e s) s

  all_taken : (taken : Option Taken) → counted (x ∷ past) tid ≡ with_some (reply_in taken) (counted past tid) → (stages : List Stage) → Each (IsStageOf protocols past) stages
      → Each (IsTakenOf protocols past (x ∷ past)) (stages_taken tid taken stages)
  all_taken None c stages h = each_map (IsStageOf protocols past) (IsTakenOf protocols past (x ∷ past)) (none_taken c) stages h
  all_taken (Some taken) c [] h = tt
  all_taken (Some taken) c (stage ∷ stages) h = (one_taken taken c stage h.0, all_taken (Some taken) c stages h.1)

-- the stages once these were sent of one attempt, where the same attempts are undecided
module _ (protocols : List Participant) (past : CoordPast) (x : CoordHappening) (tid : Tid) (taken : Option Taken) (takes prepares : Bool) (stages : List Stage) (none : begun_by x.answer ≡ None)
    (same : (t : Tid) → is_open (x ∷ past) t ≡ is_open past t) (others : (t : Tid) → same_tid tid t ≡ false → IsAsBefore protocols past x t) (own : Sends past x tid taken takes prepares) where
  one_sent : (stage : Stage) → IsTakenOf protocols past (x ∷ past) stage → IsStageOf protocols (x ∷ past) (after_sending tid takes prepares stage)
  one_sent stage s = by_test (is_of tid stage) refl where
    here : stage.tid ≡ tid → IsStageOf protocols (x ∷ past) (record stage { takes = stage.takes || takes; prepares = stage.prepares || prepares })
    here is =
        let own_here : Sends past x stage.tid taken takes prepares = subst (λ (t : Tid). Sends past x t taken takes prepares) (sym is) own in
        record {
          sites = sites_stay protocols past x stage.tid stage.sites own_here.program s.sites;
          takes =
              or_swapped stage.takes takes
              ∙ ap₂ (λ a b. a || b) (sym own_here.takes) s.takes;
          prepares =
              or_swapped stage.prepares prepares
              ∙ ap₂ (λ a b. a || b) (sym own_here.prepares) s.prepares;
          tickets = s.tickets;
        }

    by_test : (b : Bool) → is_of tid stage ≡ b → IsStageOf protocols (x ∷ past) (cond b (record stage { takes = stage.takes || takes; prepares = stage.prepares || prepares }) stage)
    by_test true e = here (same_tid-equal stage.tid tid e)
    by_test false e =
        let b = others stage.tid (same_tid-sym tid stage.tid ∙ e) in
        record {
          sites = sites_stay protocols past x stage.tid stage.sites b.same.program s.sites;
          takes = s.takes ∙ sym b.takes;
          prepares = s.prepares ∙ sym b.prepares;
          tickets = s.tickets;
        }

  pub stages_sent : AreStagesOf protocols past stages → AreStagesOf protocols (x ∷ past) (map (after_sending tid takes prepares) (stages_taken tid taken stages))
  stages_sent s = record {
    order = names (stages_taken tid taken stages) ∙ names_taken protocols past x tid others taken stages ∙ s.order ∙ ap reverse (sym (open_same past x none same));
    each = all (stages_taken tid taken stages) (all_taken protocols past x tid others taken own.counted stages s.each);
  } where
    one_name : (stage : Stage) (b : Bool) → (cond b (record stage { takes = stage.takes || takes; prepares = stage.prepares || prepares }) stage).tid ≡ stage.tid
    one_name stage true = refl
    one_name stage false = refl

    names : (xs : List Stage) → map (λ (stage : Stage). stage.tid) (map (after_sending tid takes prepares) xs) ≡ map (λ (stage : Stage). stage.tid) xs
    names [] = refl
    names (stage ∷ xs) = ap₂ (λ (t : Tid) ts. t ∷ ts) (one_name stage (is_of tid stage)) (names xs)

    all : (xs : List Stage) → Each (IsTakenOf protocols past (x ∷ past)) xs → Each (IsStageOf protocols (x ∷ past)) (map (after_sending tid takes prepares) xs)
    all [] h = tt
    all (stage ∷ xs) h = (one_sent stage h.0, all xs h.1)
