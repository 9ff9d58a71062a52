-- What the tables stand for after a line that says nothing new, and what a past more is made of.
use Rattle.std.proofs.Common.{◌≡◌, Bool, cond, None, List, [], ◌∷◌, inr, refl, sym, ap, ap₂, subst, ◌∙◌}
use Rattle.std.specs.Prelude.{reverse}
use Rattle.mdb_base.specs.declared.names.Tid.{Tid}
use Rattle.mdb_base.specs.declared.names.Tx.{Tx}
use Rattle.mdb_base.specs.Names.{same_tx}
use Rattle.mdb_base.specs.Words.{Each, how_many, those, with_some}
use Rattle.mdb_base.proofs.ForCallers.{each_map}
use Rattle.presumptions.specs.declared.Participant.{Participant}
use Rattle.field_bytes.specs.Fields.{IsTid}
use Rattle.fed_rules.specs.declared.events.CoordEvent.{CoordEvent}
use Rattle.fed_rules.specs.CoordRecords.{committed_of, commits}
use Rattle.fed_rules.specs.CoordPast.{CoordHappening, CoordPast, attempts_of, begun_by, begun_tids, is_open}
use Rattle.coord_laws.specs.Pasts.{IsNextLine, IsNumbered}
use Rattle.global_exec.specs.Live.{live_of}
use Rattle.protocol_table.specs.Attempts.{known_of}
use Rattle.ticket_graph.specs.Graph.{StandsFor}
use Rattle.coord_tables.specs.declared.stages.Stage.{Stage}
use Rattle.coord_tables.specs.declared.tables.Tables.{Tables}
use Rattle.coord_tables.specs.Attempts.{open_tids}
use Rattle.coord_tables.specs.Stages.{AreStagesOf, IsStageOf}
use Rattle.coord_tables.specs.Tables.{IsServing}
use Rattle.coord_tables.specs.Terms.{Terms, IsSound, line_of}
use Rattle.coord_tables.proofs.Lines.{IsCalm, IsSentAs, calm, calm_records, known_stays, live_stays, sent_as, stage_stays}
use Rattle.coord_tables.proofs.OneActive.{alone_more}
use Rattle.coord_tables.proofs.Waiting.{held_still}

pub those_same : {A : Type 0} (f g : A → Bool) → ((x : A) → f x ≡ g x) → (xs : List A) → those f xs ≡ those g xs
those_same f g same [] = refl
those_same f g same (x ∷ xs) = ap₂ (λ b ys. cond b (x ∷ ys) ys) (same x) (those_same f g same xs)

-- where nothing begins and nothing is decided, the same attempts are undecided
pub open_same : (past : CoordPast) (x : CoordHappening) → begun_by x.answer ≡ None → ((t : Tid) → is_open (x ∷ past) t ≡ is_open past t) → open_tids (x ∷ past) ≡ open_tids past
open_same past x none same =
    ap (λ o. those (is_open (x ∷ past)) (with_some o (begun_tids past))) none
    ∙ those_same (is_open (x ∷ past)) (is_open past) same (begun_tids past)

pub attempts_same : (past : CoordPast) (x : CoordHappening) → begun_by x.answer ≡ None → (tx : Tx) → attempts_of (x ∷ past) tx ≡ attempts_of past tx
attempts_same past x none tx = ap (λ o. how_many (λ (tid : Tid). same_tx tid.tx tx) (with_some o (begun_tids past))) none

pub range_same : (past : CoordPast) (x : CoordHappening) → begun_by x.answer ≡ None → Each IsTid (begun_tids past) → Each IsTid (begun_tids (x ∷ past))
range_same past x none h = subst (λ o. Each IsTid (with_some o (begun_tids past))) (sym none) h

-- the stages stay where the same attempts are undecided, and nothing was sent
pub stages_stay : (protocols : List Participant) (past : CoordPast) (x : CoordHappening) (stages : List Stage) → begun_by x.answer ≡ None → ((t : Tid) → is_open (x ∷ past) t ≡ is_open past t) → ((t : Tid) → IsSentAs past x t)
    → AreStagesOf protocols past stages → AreStagesOf protocols (x ∷ past) stages
stages_stay protocols past x stages none same b s = record {
  order = s.order ∙ ap reverse (sym (open_same past x none same));
  each = each_map (IsStageOf protocols past) (IsStageOf protocols (x ∷ past)) (λ stage k. stage_stays protocols past x stage (b stage.tid) k) stages s.each;
}

-- a line that says nothing new leaves the tables right
pub serving_calm : (tables : Tables) (terms : Terms) (past : CoordPast) (x : CoordHappening) → IsCalm x → IsServing tables terms past → IsServing tables terms (x ∷ past)
serving_calm tables terms past x c s = record {
  known = λ t. known_stays terms.protocols past x t (calm terms.protocols past x t c) (known_of t tables.known) (s.known t);
  live = λ t. live_stays terms.protocols past x t (calm terms.protocols past x t c) (live_of t tables.exec) (s.live t);
  stages = stages_stay terms.protocols past x tables.stages.listed c.begun (λ t. (calm terms.protocols past x t c).undecided) (λ t. sent_as terms.protocols past x t (calm terms.protocols past x t c)) s.stages;
  committed = λ tx. s.committed tx ∙ ap (λ rs. committed_of rs tx) (sym (calm_records past x c.calls));
  graph = subst (λ rs. StandsFor (commits rs) tables.graph) (sym (calm_records past x c.calls)) s.graph;
  pruned = held_still past x tables.graph c.begun (λ t. (calm terms.protocols past x t c).undecided) s.pruned;
}

-- a past with one more line that the rules make
pub sound_more : (terms : Terms) (past : CoordPast) (event : CoordEvent) (x : CoordHappening) → IsSound terms past → line_of terms past event ≡ x → IsNumbered past event → Each IsTid (begun_tids (x ∷ past)) → IsSound terms (x ∷ past)
sound_more terms past event x s is numbered range =
    let next : IsNextLine terms.protocols terms.policy past x = record { event = event; is = sym is; numbered = numbered } in
    record {
      rising = s.rising;
      declared = s.declared;
      made = inr (next, s.made);
      alone = alone_more terms.protocols terms.policy past x s.made next s.alone;
      in_range = range;
    }
