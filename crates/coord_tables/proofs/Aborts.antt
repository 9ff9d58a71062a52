-- A line that decides an attempt abort.
use Rattle.std.proofs.Common.{◌≡◌, Bool, true, false, cond, ◌&&◌, is_some, option_to_list, Option, Some, None, List, [], ◌∷◌, ◌++◌, map, refl, sym, ap, ap₂, subst, ◌∙◌}
use Rattle.std.proofs.lemmas.Bool.{cond-true, cond-false}
use Rattle.mdb_base.specs.declared.names.Tid.{Tid}
use Rattle.mdb_base.specs.declared.names.Tx.{Tx}
use Rattle.mdb_base.specs.Names.{same_tid}
use Rattle.mdb_base.specs.Words.{map_some, or_else}
use Rattle.mdb_base.proofs.ForCallers.{same_tid-refl}
use Rattle.presumptions.specs.declared.Decision.TheVariants as Decided
use Rattle.presumptions.specs.declared.Participant.{Participant}
use Rattle.fed_rules.specs.declared.answers.Answer.TheVariants as Say
use Rattle.fed_rules.specs.declared.answers.Cause.{Cause}
use Rattle.fed_rules.specs.declared.events.CoordEvent.{CoordEvent}
use Rattle.fed_rules.specs.declared.records.CoordRecord.{CoordRecord}
use Rattle.fed_rules.specs.declared.records.CoordRecord.TheVariants as Rec
use Rattle.fed_rules.specs.Coord.{abort_records, aborts, decide_to, forced, forgets_at_once}
use Rattle.fed_rules.specs.CoordRecords.{class_of, committed_of, commits, has_abort, named}
use Rattle.fed_rules.specs.CoordPast.{CoordHappening, CoordPast, has_sent, is_prepare_of, participants, records}
use Rattle.coord_laws.proofs.ForCallers.{records_name}
use Rattle.global_exec.specs.Firsts.{taken_out}
use Rattle.global_exec.specs.Live as live
use Rattle.global_exec.specs.Live.{Live}
use Rattle.protocol_table.specs.declared.known.Known.{Known}
use Rattle.protocol_table.specs.Attempts.{changed, known_of, without}
use Rattle.protocol_table.specs.Ends as ends
use Rattle.ticket_graph.specs.Graph.{AreHeld, StandsFor}
use Rattle.coord_tables.specs.declared.tables.Tables.{Tables}
use Rattle.coord_tables.specs.Trees.{committed_in}
use Rattle.coord_tables.specs.Deciding.{IsAborting, abort_of, recorded}
use Rattle.coord_tables.specs.Stages.{is_of, stage_tickets}
use Rattle.coord_tables.specs.Tables.{IsServing}
use Rattle.coord_tables.specs.Terms.{Terms, IsSound}
use Rattle.coord_tables.proofs.Again.{prepares_none, takes_none}
use Rattle.coord_tables.proofs.Decided.{IsDeciding, decided_serving, forgets_is}
use Rattle.coord_tables.proofs.Initiations.{known_none, known_some}

-- whether the abort is recorded
abbrev pub is_recorded : List Participant → CoordPast → Tid → Bool
is_recorded protocols past tid = has_abort (class_of (participants protocols past tid)) && has_sent (is_prepare_of tid) past

-- the line, with these records
abbrev pub abort_line : List Participant → CoordPast → CoordEvent → Tid → Cause → List CoordRecord → CoordHappening
abort_line protocols past event tid cause kept = record {
  event = event;
  answer = Say.Decides Decided.Abort (Some cause) (forgets_at_once protocols (kept ++ records past) tid Decided.Abort);
  sends = decide_to tid Decided.Abort (participants protocols past tid);
  calls = forced kept;
  lines = [];
}

pub aborts_are : (protocols : List Participant) (past : CoordPast) (event : CoordEvent) (tid : Tid) (cause : Cause) → aborts protocols past event tid cause ≡ abort_line protocols past event tid cause (abort_records protocols past tid)
unfolding aborts
aborts_are protocols past event tid cause = refl

pub listed : (r : CoordRecord) (b : Bool) → cond b (r ∷ []) [] ≡ option_to_list (cond b (Some r) None)
listed r true = refl
listed r false = refl

module _ (terms : Terms) (past : CoordPast) (event : CoordEvent) (tid : Tid) (printed : Cause) (i : IsAborting terms past event tid printed) (sound : IsSound terms past) where
  abbrev entry : Option CoordRecord
  entry = abort_of terms.protocols past tid

  abbrev pub aborted : CoordHappening
  aborted = abort_line terms.protocols past event tid i.cause (option_to_list (abort_of terms.protocols past tid))

  abbrev forgets : Bool
  forgets = forgets_at_once terms.protocols (option_to_list (abort_of terms.protocols past tid) ++ records past) tid Decided.Abort

  records_by : (b : Bool) → let ks = option_to_list (cond b (Some (Rec.Abort tid (participants terms.protocols past tid))) None) in records (abort_line terms.protocols past event tid i.cause ks ∷ past) ≡ ks ++ records past
  records_by true = refl
  records_by false = refl

  records_are : records (aborted ∷ past) ≡ option_to_list entry ++ records past
  records_are = records_by (is_recorded terms.protocols past tid)

  named_behind : (o : Option (List Participant)) → named terms.protocols (records past) tid ≡ o → Some (or_else o (participants terms.protocols past tid)) ≡ Some (participants terms.protocols past tid)
  named_behind None e = refl
  named_behind (Some ms) e = ap (λ (ps : List Participant). Some ps) (records_name terms.protocols terms.policy past sound.made tid ms e)

  own_by : (b : Bool) → named terms.protocols (option_to_list (cond b (Some (Rec.Abort tid (participants terms.protocols past tid))) None) ++ records past) tid ≡ cond b (Some (participants terms.protocols past tid)) (named terms.protocols (records past) tid)
  own_by true = cond-true _ _ _ (same_tid-refl tid) ∙ named_behind (named terms.protocols (records past) tid) refl
  own_by false = refl

  others_by : (t : Tid) → same_tid tid t ≡ false → (b : Bool) → named terms.protocols (option_to_list (cond b (Some (Rec.Abort tid (participants terms.protocols past tid))) None) ++ records past) t ≡ named terms.protocols (records past) t
  others_by t e true = cond-false _ _ _ e
  others_by t e false = refl

  pub deciding : IsDeciding terms past aborted tid Decided.Abort forgets (is_recorded terms.protocols past tid)
  deciding = record {
    cause = Some i.cause;
    answer = refl;
    about = i.about;
    undecided = i.undecided;
    takes = λ t. takes_none t tid Decided.Abort (participants terms.protocols past tid);
    prepares = λ t. prepares_none t tid Decided.Abort (participants terms.protocols past tid);
    named_own = ap (λ rs. named terms.protocols rs tid) records_are ∙ own_by (is_recorded terms.protocols past tid);
    named_others = λ t e. ap (λ rs. named terms.protocols rs t) records_are ∙ others_by t e (is_recorded terms.protocols past tid);
    at_once = ap (λ rs. forgets_at_once terms.protocols rs tid Decided.Abort) (sym records_are);
  }

  committed_by : (tx : Tx) (b : Bool) → committed_of (option_to_list (cond b (Some (Rec.Abort tid (participants terms.protocols past tid))) None) ++ records past) tx ≡ committed_of (records past) tx
  committed_by tx true = refl
  committed_by tx false = refl

  commits_by : (b : Bool) → commits (option_to_list (cond b (Some (Rec.Abort tid (participants terms.protocols past tid))) None) ++ records past) ≡ commits (records past)
  commits_by true = refl
  commits_by false = refl

  some_is : (b : Bool) → is_some (cond b (Some (Rec.Abort tid (participants terms.protocols past tid))) None) ≡ b
  some_is true = refl
  some_is false = refl

  -- what the table answers
  pub table_forgets : (tables : Tables) (written : Option CoordRecord) (first result : Bool) → IsServing tables terms past → written ≡ abort_of terms.protocols past tid → first ≡ is_some written
      → result ≡ or_else (map_some (ends.forgets_at_once Decided.Abort) (known_of tid (recorded first tid tables.known))) false → (result ≡ forgets) × (first ≡ is_recorded terms.protocols past tid)
  table_forgets tables written first result s w f r =
      let is : first ≡ is_recorded terms.protocols past tid = f ∙ ap is_some w ∙ some_is (is_recorded terms.protocols past tid) in
      (by_known (known_of tid tables.known) refl is, is)
    where
      by_known : (o : Option Known) → known_of tid tables.known ≡ o → first ≡ is_recorded terms.protocols past tid → result ≡ forgets
      by_known None e is = absurd (known_none tables terms past tid s i.undecided e)
      by_known (Some known) e is =
          r ∙ ap (λ b. or_else (map_some (ends.forgets_at_once Decided.Abort) (known_of tid (recorded b tid tables.known))) false) is
          ∙ forgets_is terms past aborted tid Decided.Abort forgets (is_recorded terms.protocols past tid) deciding known tables.known (known_some tables terms past tid known s i.undecided e) e

  -- the tables follow
  pub abort_serving : (tables now : Tables) (first result : Bool) → result ≡ forgets → first ≡ is_recorded terms.protocols past tid
      → now.known ≡ cond result (without tid (recorded first tid tables.known)) (changed tid (ends.decide Decided.Abort) (recorded first tid tables.known))
      → now.exec ≡ taken_out (live.is_of tid) tables.exec → live.AreApart (map (λ (l : Live). l.tid) tables.exec) → now.stages.listed ≡ taken_out (is_of tid) tables.stages.listed
      → now.committed ≡ tables.committed → StandsFor (commits (records past)) now.graph → AreHeld (map stage_tickets now.stages.listed) now.graph → IsServing tables terms past → IsServing now terms (aborted ∷ past)
  abort_serving tables now first result r f known exec apart stages committed graph pruned s =
      decided_serving terms past aborted tid Decided.Abort forgets (is_recorded terms.protocols past tid) deciding tables now sound
      (known ∙ ap₂ (λ (a b : Bool). cond a (without tid (recorded b tid tables.known)) (changed tid (ends.decide Decided.Abort) (recorded b tid tables.known))) r f)
      exec apart stages
      (λ tx. ap (λ cs. committed_in cs.listed tx) committed ∙ s.committed tx ∙ sym (ap (λ rs. committed_of rs tx) records_are ∙ committed_by tx (is_recorded terms.protocols past tid)))
      (subst (λ cs. StandsFor cs now.graph) (sym (ap commits records_are ∙ commits_by (is_recorded terms.protocols past tid))) graph) pruned s
