-- What the tables stand for after a line that decides an attempt.
use Rattle.std.proofs.Common.{◌≡◌, Bool, true, false, cond, not, ◌&&◌, ◌||◌, Option, Some, None, List, [], ◌∷◌, ◌++◌, inl, inr, map, refl, sym, ap, ap₂, subst, ◌∙◌}
use Rattle.std.specs.Prelude.{reverse}
use Rattle.std.proofs.lemmas.Bool.{cond-true, cond-false}
use Rattle.std.proofs.lemmas.List.{append-nil}
use Rattle.mdb_base.specs.declared.names.Tid.{Tid}
use Rattle.mdb_base.specs.declared.names.Tx.{Tx}
use Rattle.mdb_base.specs.Names.{same_tid}
use Rattle.mdb_base.specs.Words.{Each, map_some, or_else, some_of, those, with_some}
use Rattle.mdb_base.proofs.ForCallers.{reverse_more, same_tid-equal, same_tid-refl, same_tid-sym, those_append}
use Rattle.order_laws.specs.Chains.{In, Distinct}
use Rattle.presumptions.specs.declared.Decision.{Decision}
use Rattle.presumptions.specs.declared.Participant.{Participant}
use Rattle.fed_rules.specs.declared.answers.Answer.{Answer}
use Rattle.fed_rules.specs.declared.answers.Answer.TheVariants as Say
use Rattle.fed_rules.specs.declared.answers.Cause.{Cause}
use Rattle.fed_rules.specs.Happenings.{comes_up, stops}
use Rattle.fed_rules.specs.Coord.{forgets_at_once as forgets_past}
use Rattle.fed_rules.specs.CoordRecords.{committed_of, commits, is_nobody, named, required_of}
use Rattle.fed_rules.specs.CoordPast.{CoordHappening, CoordPast, Standing, Undecided, Decided, Gone, begins, begun_by, begun_tids, decides, is_about, is_open, is_prepare_of, is_take_of, known_decision, opened, participants, records, standing, standing_of}
use Rattle.fed_rules.specs.CoordPast as Past
use Rattle.coord_laws.proofs.ForCallers.{begin_once}
use Rattle.order_laws.proofs.ForCallers.{distinct_reverse, distinct_those}
use Rattle.global_exec.specs.Firsts.{taken_out}
use Rattle.global_exec.specs.Live as live
use Rattle.global_exec.specs.Live.{Live, live_of}
use Rattle.protocol_table.specs.declared.known.Known.{Known}
use Rattle.protocol_table.specs.Agreement.{IsKnownAs, IsNamedAs, IsUndecidedAs}
use Rattle.protocol_table.specs.Attempts.{IsUndecided, LacksDecision, changed, known_of, without}
use Rattle.protocol_table.specs.Ends.{decide, forgets_at_once, initiate}
use Rattle.protocol_table.proofs.ForCallers.{decisions_go}
use Rattle.ticket_graph.specs.Graph.{AreHeld, StandsFor}
use Rattle.coord_tables.specs.Trees.{committed_in}
use Rattle.coord_tables.specs.declared.stages.Stage.{Stage}
use Rattle.coord_tables.specs.declared.tables.Tables.{Tables}
use Rattle.coord_tables.specs.Attempts.{IsLiveAs, open_tids}
use Rattle.coord_tables.specs.Deciding.{recorded}
use Rattle.coord_tables.specs.Stages.{AreStagesOf, IsStageOf, is_of, stage_tickets}
use Rattle.coord_tables.specs.Tables.{IsServing}
use Rattle.coord_tables.specs.Terms.{Terms, IsSound}
use Rattle.coord_tables.proofs.Initiations.{known_open, members_are}
use Rattle.coord_tables.proofs.Lines.{IsAsBefore, elsewhere, sent_as, stage_stays}
use Rattle.coord_tables.proofs.Own.{serving_own}
use Rattle.coord_tables.proofs.Serving.{those_same}
use Rattle.coord_tables.proofs.Waiting.{held_stages}
use Rattle.coord_tables.proofs.Tabled.{known_changed, known_without, other_changed, other_without}

-- ---- lists

those_reverse : {A : Type 0} (test : A → Bool) (xs : List A) → those test (reverse xs) ≡ reverse (those test xs)
those_reverse test [] = refl
those_reverse test (x ∷ xs) =
    ap (those test) (reverse_more x xs) ∙ those_append test (reverse xs) (x ∷ []) ∙ ap (λ ys. ys ++ those test (x ∷ [])) (those_reverse test xs) ∙ by_test (test x)
  where
    by_test : (b : Bool) → reverse (those test xs) ++ cond b (x ∷ []) [] ≡ reverse (cond b (x ∷ those test xs) (those test xs))
    by_test true = sym (reverse_more x (those test xs))
    by_test false = append-nil (reverse (those test xs))

those_those : {A : Type 0} (one other : A → Bool) (xs : List A) → those one (those other xs) ≡ those (λ x. one x && other x) xs
those_those one other [] = refl
those_those one other (x ∷ xs) = by_test (other x) (those_those one other xs) where
  and_true : (b : Bool) → (b && true) ≡ b
  and_true true = refl
  and_true false = refl

  and_false : (b : Bool) → (b && false) ≡ false
  and_false true = refl
  and_false false = refl

  by_test : (b : Bool) → those one (those other xs) ≡ those (λ y. one y && other y) xs
      → those one (cond b (x ∷ those other xs) (those other xs)) ≡ cond (one x && b) (x ∷ those (λ y. one y && other y) xs) (those (λ y. one y && other y) xs)
  by_test true rest = ap (λ ys. cond (one x) (x ∷ ys) ys) rest ∙ ap (λ c. cond c (x ∷ those (λ y. one y && other y) xs) (those (λ y. one y && other y) xs)) (sym (and_true (one x)))
  by_test false rest = rest ∙ ap (λ c. cond c (x ∷ those (λ y. one y && other y) xs) (those (λ y. one y && other y) xs)) (sym (and_false (one x)))

-- all but one attempt of a list without repetition
others_stay : (tid : Tid) (ts : List Tid) → (In tid ts → ⊥) → those (λ t. not (same_tid t tid)) ts ≡ ts
others_stay tid [] d = refl
others_stay tid (t ∷ ts) d = by_test (same_tid t tid) refl (others_stay tid ts (λ i. d (inr i))) where
  by_test : (b : Bool) → same_tid t tid ≡ b → those (λ u. not (same_tid u tid)) ts ≡ ts → cond (not b) (t ∷ those (λ u. not (same_tid u tid)) ts) (those (λ u. not (same_tid u tid)) ts) ≡ t ∷ ts
  by_test true e rest = absurd (d (inl (same_tid-equal t tid e)))
  by_test false e rest = ap (λ us. t ∷ us) rest

one_out : (tid : Tid) (stages : List Stage) → Distinct (map (λ (s : Stage). s.tid) stages) → map (λ (s : Stage). s.tid) (taken_out (is_of tid) stages) ≡ those (λ t. not (same_tid t tid)) (map (λ (s : Stage). s.tid) stages)
one_out tid [] d = refl
one_out tid (s ∷ ss) d = by_test (same_tid s.tid tid) refl (one_out tid ss d.1) where
  by_test : (b : Bool) → same_tid s.tid tid ≡ b → map (λ (u : Stage). u.tid) (taken_out (is_of tid) ss) ≡ those (λ t. not (same_tid t tid)) (map (λ (u : Stage). u.tid) ss)
      → map (λ (u : Stage). u.tid) (cond b ss (s ∷ taken_out (is_of tid) ss)) ≡ cond (not b) (s.tid ∷ those (λ t. not (same_tid t tid)) (map (λ (u : Stage). u.tid) ss)) (those (λ t. not (same_tid t tid)) (map (λ (u : Stage). u.tid) ss))
  by_test true e rest = sym (others_stay tid (map (λ (u : Stage). u.tid) ss) (λ i. d.0 (subst (λ (t : Tid). In t (map (λ (u : Stage). u.tid) ss)) (sym (same_tid-equal s.tid tid e)) i)))
  by_test false e rest = ap (λ ts. s.tid ∷ ts) rest

each_out : {A : Type 0} (P : A → Type 0) (test : A → Bool) (xs : List A) → Each P xs → Each P (taken_out test xs)
each_out P test [] h = tt
each_out P test (x ∷ xs) h = by_test (test x) (each_out P test xs h.1) where
  by_test : (b : Bool) → Each P (taken_out test xs) → Each P (cond b xs (x ∷ taken_out test xs))
  by_test true rest = h.1
  by_test false rest = (h.0, rest)

-- ---- what is carried out

none_first : (tid : Tid) (xs : List Live) → Each (λ (t : Tid). same_tid tid t ≡ false) (map (λ (l : Live). l.tid) xs) → live_of tid xs ≡ None
none_first tid [] h = refl
none_first tid (x ∷ xs) h = cond-false _ _ _ (same_tid-sym x.tid tid ∙ h.0) ∙ none_first tid xs h.1

live_gone : (tid : Tid) (xs : List Live) → live.AreApart (map (λ (l : Live). l.tid) xs) → live_of tid (taken_out (live.is_of tid) xs) ≡ None
live_gone tid [] a = refl
live_gone tid (x ∷ xs) a = by_test (live.is_of tid x) refl (live_gone tid xs a.1) where
  by_test : (b : Bool) → live.is_of tid x ≡ b → live_of tid (taken_out (live.is_of tid) xs) ≡ None → live_of tid (cond b xs (x ∷ taken_out (live.is_of tid) xs)) ≡ None
  by_test true e rest = none_first tid xs (subst (λ (t : Tid). Each (λ (o : Tid). same_tid t o ≡ false) (map (λ (l : Live). l.tid) xs)) (same_tid-equal x.tid tid e) a.0)
  by_test false e rest = cond-false _ _ _ e ∙ rest

live_others : (tid t : Tid) (xs : List Live) → same_tid tid t ≡ false → live_of t (taken_out (live.is_of tid) xs) ≡ live_of t xs
live_others tid t [] e = refl
live_others tid t (x ∷ xs) e = by_test (live.is_of tid x) refl (live_others tid t xs e) where
  by_test : (b : Bool) → live.is_of tid x ≡ b → live_of t (taken_out (live.is_of tid) xs) ≡ live_of t xs → live_of t (cond b xs (x ∷ taken_out (live.is_of tid) xs)) ≡ live_of t (x ∷ xs)
  by_test true f rest = sym (cond-false _ _ _ (ap (λ u. same_tid u t) (same_tid-equal x.tid tid f) ∙ e))
  by_test false f rest = ap (λ o. cond (live.is_of t x) (Some x) o) rest

-- the first record leaves the attempt undecided
pub undecided_recorded : (tid : Tid) (ks : List Known) (first : Bool) → IsUndecided tid ks → IsUndecided tid (recorded first tid ks)
undecided_recorded tid ks false u = u
undecided_recorded tid ks true u = subst LacksDecision (sym (known_changed tid initiate (λ k. refl) ks)) (by_known (known_of tid ks) u) where
  by_known : (o : Option Known) → LacksDecision o → LacksDecision (map_some initiate o)
  by_known None d = d
  by_known (Some known) d = d

-- ---- the line

pub record IsDeciding (terms : Terms) (past : CoordPast) (x : CoordHappening) (tid : Tid) (decision : Decision) (forgets first : Bool) : Type 0 where
  pub cause : Option Cause
  pub answer : x.answer ≡ Say.Decides decision cause forgets
  pub about : (t : Tid) → is_about t x.event ≡ same_tid tid t
  pub undecided : is_open past tid ≡ true
  pub takes : (t : Tid) → some_of (is_take_of t) x.sends ≡ false
  pub prepares : (t : Tid) → some_of (is_prepare_of t) x.sends ≡ false
  pub named_own : named terms.protocols (records (x ∷ past)) tid ≡ cond first (Some (participants terms.protocols past tid)) (named terms.protocols (records past) tid)
  pub named_others : (t : Tid) → same_tid tid t ≡ false → named terms.protocols (records (x ∷ past)) t ≡ named terms.protocols (records past) t
  pub at_once : forgets ≡ forgets_past terms.protocols (records (x ∷ past)) tid decision

module _ (terms : Terms) (past : CoordPast) (x : CoordHappening) (tid : Tid) (decision : Decision) (forgets first : Bool) (i : IsDeciding terms past x tid decision forgets first) where
  goes : (stops x.answer || comes_up x.answer) ≡ false
  goes = ap (λ (a : Answer). stops a || comes_up a) i.answer

  pub none_begun : begun_by x.answer ≡ None
  none_begun = ap begun_by i.answer

  others : (t : Tid) → same_tid tid t ≡ false → IsAsBefore terms.protocols past x t
  others t e = elsewhere terms.protocols past x t (record {
    goes = goes;
    about = i.about t ∙ e;
    begins = ap (begins t) i.answer;
    named = i.named_others t e;
    takes = i.takes t;
    prepares = i.prepares t;
  })

  about_own : is_about tid x.event ≡ true
  about_own = i.about tid ∙ same_tid-refl tid

  now_closed : is_open (x ∷ past) tid ≡ false
  now_closed = cond-false _ _ _ goes ∙ cond-true _ _ _ about_own ∙ ap (λ (a : Answer). opened a (is_open past tid)) i.answer

  decision_is : known_decision terms.protocols (x ∷ past) tid ≡ cond forgets None (Some decision)
  decision_is = cond-false _ _ _ goes ∙ cond-true _ _ _ about_own ∙ ap (λ (a : Answer). Past.decided a (known_decision terms.protocols past tid)) i.answer

  standing_is : standing terms.protocols (x ∷ past) tid ≡ cond forgets Gone (Decided decision)
  standing_is = ap₂ (λ o d. standing_of o d) now_closed decision_is ∙ by_test forgets where
    by_test : (f : Bool) → standing_of false (cond f None (Some decision)) ≡ cond f Gone (Decided decision)
    by_test true = refl
    by_test false = refl

  -- the table before the decision, with the record
  found : (known : Known) (ks : List Known) → known_of tid ks ≡ Some known → (f : Bool) → known_of tid (recorded f tid ks) ≡ Some (cond f (initiate known) known)
  found known ks e true = known_changed tid initiate (λ k. refl) ks ∙ ap (map_some initiate) e
  found known ks e false = e

  others_found : (t : Tid) (ks : List Known) → same_tid tid t ≡ false → (f : Bool) → known_of t (recorded f tid ks) ≡ known_of t ks
  others_found t ks e true = other_changed tid t initiate e (λ k. refl) ks
  others_found t ks e false = refl

  names_are : (known : Known) → IsUndecidedAs terms.protocols past tid known → (f : Bool) → f ≡ first → IsNamedAs terms.protocols (x ∷ past) tid (cond f (initiate known) known)
  names_are known k true e = ap (λ (ps : List Participant). Some ps) (members_are terms past tid known k) ∙ sym (i.named_own ∙ ap (λ f. cond f (Some (participants terms.protocols past tid)) (named terms.protocols (records past) tid)) (sym e))
  names_are known k false e = k.named ∙ sym (i.named_own ∙ ap (λ f. cond f (Some (participants terms.protocols past tid)) (named terms.protocols (records past) tid)) (sym e))

  -- what the table answers is what the rules say
  pub forgets_is : (known : Known) (ks : List Known) → IsUndecidedAs terms.protocols past tid known → known_of tid ks ≡ Some known → or_else (map_some (forgets_at_once decision) (known_of tid (recorded first tid ks))) false ≡ forgets
  forgets_is known ks k e =
      ap (λ o. or_else (map_some (forgets_at_once decision) o) false) (found known ks e first)
      ∙ ap (λ o. is_nobody (required_of decision o)) (names_are known k first refl) ∙ sym i.at_once

  known_own : (known : Known) (ks : List Known) → IsUndecidedAs terms.protocols past tid known → known_of tid ks ≡ Some known → (f : Bool)
      → IsKnownAs terms.protocols (x ∷ past) tid (cond f Gone (Decided decision)) (known_of tid (cond f (without tid (recorded first tid ks)) (changed tid (decide decision) (recorded first tid ks))))
  known_own known ks k e true = subst (λ (o : Option Known). IsKnownAs terms.protocols (x ∷ past) tid Gone o) (sym (known_without tid (recorded first tid ks))) tt
  known_own known ks k e false =
      subst (λ (o : Option Known). IsKnownAs terms.protocols (x ∷ past) tid (Decided decision) o)
      (sym (known_changed tid (decide decision) (λ q. refl) (recorded first tid ks) ∙ ap (map_some (decide decision)) (found known ks e first)))
      (decisions_go terms.protocols past tid known k decision first x about_own (ap decides i.answer) (names_are known k first refl))

  known_others : (ks : List Known) (t : Tid) → same_tid tid t ≡ false → (f : Bool) → known_of t (cond f (without tid (recorded first tid ks)) (changed tid (decide decision) (recorded first tid ks))) ≡ known_of t ks
  known_others ks t e true = other_without tid t e (recorded first tid ks) ∙ others_found t ks e first
  known_others ks t e false = other_changed tid t (decide decision) e (λ k. refl) (recorded first tid ks) ∙ others_found t ks e first

  open_now : (t : Tid) → is_open (x ∷ past) t ≡ (not (same_tid t tid) && is_open past t)
  open_now t = by_test (same_tid tid t) refl where
    by_test : (b : Bool) → same_tid tid t ≡ b → is_open (x ∷ past) t ≡ (not (same_tid t tid) && is_open past t)
    by_test true e =
        subst (λ (u : Tid). is_open (x ∷ past) u ≡ (not (same_tid u tid) && is_open past u)) (same_tid-equal tid t e)
        (now_closed ∙ sym (ap (λ b. not b && is_open past tid) (same_tid-refl tid)))
    by_test false e = (others t e).undecided ∙ sym (ap (λ b. not b && is_open past t) (same_tid-sym t tid ∙ e))

  stages_end : (stages : List Stage) → IsSound terms past → AreStagesOf terms.protocols past stages → AreStagesOf terms.protocols (x ∷ past) (taken_out (is_of tid) stages)
  stages_end stages sound s =
      let once : Distinct (map (λ (u : Stage). u.tid) stages) = subst Distinct (sym s.order) (distinct_reverse (open_tids past) (distinct_those (is_open past) (begun_tids past) (begin_once terms.protocols terms.policy past sound.made))) in
      record {
        order =
            one_out tid stages once
            ∙ ap (those (λ t. not (same_tid t tid))) s.order
            ∙ those_reverse (λ t. not (same_tid t tid)) (open_tids past)
            ∙ ap reverse (those_those (λ t. not (same_tid t tid)) (is_open past) (begun_tids past) ∙ sym (those_same (is_open (x ∷ past)) (λ t. not (same_tid t tid) && is_open past t) open_now (begun_tids past))
            ∙ ap (λ o. those (is_open (x ∷ past)) (with_some o (begun_tids past))) (sym none_begun));
        each = left stages (s.each) once;
      }
    where
      stay : (st : Stage) → same_tid tid st.tid ≡ false → IsStageOf terms.protocols past st → IsStageOf terms.protocols (x ∷ past) st
      stay st e k = stage_stays terms.protocols past x st (sent_as terms.protocols past x st.tid (others st.tid e)) k

      all_stay : (ss : List Stage) → (In tid (map (λ (u : Stage). u.tid) ss) → ⊥) → Each (IsStageOf terms.protocols past) ss → Each (IsStageOf terms.protocols (x ∷ past)) ss
      all_stay [] d h = tt
      all_stay (st ∷ ss) d h = (stay st (apart (same_tid tid st.tid) refl) h.0, all_stay ss (λ j. d (inr j)) h.1) where
        apart : (b : Bool) → same_tid tid st.tid ≡ b → b ≡ false
        apart false e = refl
        apart true e = absurd (d (inl (sym (same_tid-equal tid st.tid e))))

      left : (ss : List Stage) → Each (IsStageOf terms.protocols past) ss → Distinct (map (λ (u : Stage). u.tid) ss) → Each (IsStageOf terms.protocols (x ∷ past)) (taken_out (is_of tid) ss)
      left [] h d = tt
      left (st ∷ ss) h d = by_test (is_of tid st) refl (left ss h.1 d.1) where
        by_test : (b : Bool) → is_of tid st ≡ b → Each (IsStageOf terms.protocols (x ∷ past)) (taken_out (is_of tid) ss) → Each (IsStageOf terms.protocols (x ∷ past)) (cond b ss (st ∷ taken_out (is_of tid) ss))
        by_test true e rest = all_stay ss (λ j. d.0 (subst (λ (t : Tid). In t (map (λ (u : Stage). u.tid) ss)) (sym (same_tid-equal st.tid tid e)) j)) h.1
        by_test false e rest = (stay st (same_tid-sym tid st.tid ∙ e) h.0, rest)

  -- the tables follow
  pub decided_serving : (tables now : Tables) → IsSound terms past → now.known ≡ cond forgets (without tid (recorded first tid tables.known)) (changed tid (decide decision) (recorded first tid tables.known))
      → now.exec ≡ taken_out (live.is_of tid) tables.exec → live.AreApart (map (λ (l : Live). l.tid) tables.exec) → now.stages.listed ≡ taken_out (is_of tid) tables.stages.listed
      → ((tx : Tx) → committed_in now.committed.listed tx ≡ committed_of (records (x ∷ past)) tx) → StandsFor (commits (records (x ∷ past))) now.graph → AreHeld (map stage_tickets now.stages.listed) now.graph
      → IsServing tables terms past → IsServing now terms (x ∷ past)
  decided_serving tables now sound known exec apart stages committed graph pruned s = by_known (known_of tid tables.known) refl (known_open tables terms past tid s i.undecided) where
    now_stages : AreStagesOf terms.protocols (x ∷ past) now.stages.listed
    now_stages = subst (λ (ss : List Stage). AreStagesOf terms.protocols (x ∷ past) ss) (sym stages) (stages_end tables.stages.listed sound s.stages)

    by_known : (o : Option Known) → known_of tid tables.known ≡ o → IsKnownAs terms.protocols past tid Undecided o → IsServing now terms (x ∷ past)
    by_known None e k = absurd k
    by_known (Some own) e k = serving_own tables now terms past x tid (record {
      others = others;
      known_others = λ t d. ap (known_of t) known ∙ known_others tables.known t d forgets;
      live_others = λ t d. ap (live_of t) exec ∙ live_others tid t tables.exec d;
      known_own = subst (λ (st : Standing). IsKnownAs terms.protocols (x ∷ past) tid st (known_of tid now.known)) (sym standing_is)
          (subst (λ (ks : List Known). IsKnownAs terms.protocols (x ∷ past) tid (cond forgets Gone (Decided decision)) (known_of tid ks)) (sym known) (known_own own tables.known k e forgets));
      live_own = subst (λ b. IsLiveAs terms.protocols (x ∷ past) tid b (live_of tid now.exec)) (sym now_closed)
          (subst (λ (o : Option Live). IsLiveAs terms.protocols (x ∷ past) tid false o) (sym (ap (live_of tid) exec ∙ live_gone tid tables.exec apart)) tt);
      stages = now_stages;
      committed = committed;
      graph = graph;
      pruned = held_stages terms.protocols (x ∷ past) now.stages.listed now.graph now_stages pruned;
    }) s
