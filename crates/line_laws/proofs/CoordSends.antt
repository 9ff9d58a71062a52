-- The lines of the coordinator that send what is outstanding.
use Rattle.std.proofs.Common.{◌≡◌, ◌⊎◌, ◌&&◌, Bool, true, false, cond, not, is_some, Option, Some, None, List, [], ◌∷◌, map, inl, inr, refl, sym, ◌∙◌, ap, subst}
use Rattle.std.proofs.lemmas.Bool.{and_parts}
use Rattle.mdb_base.specs.declared.names.Tid.{Tid}
use Rattle.mdb_base.specs.Names.{same_tid}
use Rattle.mdb_base.specs.Words.{some_of, those, when}
use Rattle.order_laws.specs.Chains.{In}
use Rattle.order_laws.proofs.ForCallers.{among_is, each_at, each_of_false, found_there, some_of_is, those_in}
use Rattle.presumptions.specs.declared.Decision.{Decision}
use Rattle.presumptions.specs.declared.Participant.{Participant}
use Rattle.presumptions.specs.Table.{acks}
use Rattle.fed_rules.specs.declared.answers.Answer.{Answer}
use Rattle.fed_rules.specs.declared.answers.Answer.TheVariants as Say
use Rattle.fed_rules.specs.declared.commands.Command.{Command}
use Rattle.fed_rules.specs.declared.commands.Command.TheVariants as Cmd
use Rattle.fed_rules.specs.declared.events.CoordEvent.{CoordEvent}
use Rattle.fed_rules.specs.declared.events.CoordEvent.TheVariants as Ev
use Rattle.fed_rules.specs.declared.messages.Due.{Due}
use Rattle.fed_rules.specs.declared.messages.Due.TheVariants as Due_is
use Rattle.fed_rules.specs.declared.records.CoordRecord.TheVariants as Rec
use Rattle.fed_rules.specs.Coord.{again_while, all_outstanding, decide_to, defers_all, defers_some, fits, held_back, is_prepare, is_take, lacks_initiation, let_through, may_take, missing, send_due, sends_all, sends_dues}
use Rattle.fed_rules.specs.CoordPast.{CoordHappening, CoordPast, Decided, Gone, Standing, Undecided, begins, has_acked, is_open, known_decision, outstanding, participants, records, standing, standing_of, vote_at}
use Rattle.fed_rules.specs.CoordRecords.{is_nobody, named, required_of}
use Rattle.fed_rules.specs.Disk.{Append, Sync}
use Rattle.fed_rules.specs.Policies.{Policy}
use Rattle.fed_rules.proofs.ForCallers.{due_number}
use Rattle.coord_laws.proofs.ForCallers.{IsOwed, all_owed}
use Rattle.line_text.specs.Fits.{answer_fits, coordinator_sends, is_only}
use Rattle.line_laws.proofs.Outstanding.{Ready, out_somewhere}
use Rattle.line_laws.proofs.Sorted.{Sorted, number_of, those_sorted}
use Rattle.line_laws.proofs.CoordLines.{CoordGood, decides_sorted, dues_sorted, members_sorted, out_sorted, same_either}

module _ (protocols : List Participant) (past : CoordPast) (ready : (g : Tid) → is_open past g ≡ true → Ready protocols past g) (sorted : Sorted number_of protocols) where
  -- ---- operations and Prepares

  -- the answer of a line that sends what is due
  abbrev pub IsSend : Answer → Type 0
  IsSend answer = (answer ≡ Say.Only) ⊎ (answer ≡ Say.Defers)

  pub some_held : (held : List Due) → IsSend (defers_some held)
  some_held [] = inl refl
  some_held (d ∷ held) = inr refl

  all_held : (held sent : List Due) → IsSend (defers_all held sent)
  all_held held [] = some_held held
  all_held held (d ∷ sent) = inl refl

  -- where nothing is held back all is sent
  held_none : (test : Due → Bool) (dues : List Due) → those test dues ≡ [] → those (λ d. not (test d)) dues ≡ dues
  held_none test [] e = refl
  held_none test (d ∷ dues) e = by_test (test d) refl e (held_none test dues)
    where
      by_test : (b : Bool) → test d ≡ b → cond b (d ∷ those test dues) (those test dues) ≡ [] → (those test dues ≡ [] → those (λ x. not (test x)) dues ≡ dues) → cond (not b) (d ∷ those (λ x. not (test x)) dues) (those (λ x. not (test x)) dues) ≡ d ∷ dues
      by_test true q e rest = cc
      by_test false q e rest = ap (λ ds. d ∷ ds) (rest e)

  only_held : (held : List Due) → is_only (defers_some held) ≡ true → held ≡ []
  only_held [] e = refl
  only_held (d ∷ held) e = cc

  mapped_none : (t : Tid) (dues : List Due) → map (send_due t) dues ≡ [] → dues ≡ []
  mapped_none t [] e = refl
  mapped_none t (d ∷ dues) e = cc

  silent_only : (a : Answer) → (is_only a ≡ true → ⊥) → is_only a ≡ false
  silent_only a n = by_test (is_only a) refl
    where
      by_test : (b : Bool) → is_only a ≡ b → is_only a ≡ false
      by_test true q = absurd (n q)
      by_test false q = q

  none_in : (due : Due) (dues : List Due) → In due dues → dues ≡ [] → ⊥
  none_in due dues i e = subst (In due) e i

  -- an answer of what is sent alone sends something
  pub take_some : (policy : Policy) (t : Tid) (dues : List Due) → (due : Due) × In due dues → let_through protocols policy past t dues ≡ [] → is_only (defers_some (held_back protocols policy past t dues)) ≡ false
  take_some policy t dues (due, i) none =
      silent_only _ (λ e. none_in due dues i (sym (held_none (λ d. is_take d && not (may_take protocols policy past t)) dues (only_held (held_back protocols policy past t dues) e)) ∙ none))

  again_some : (policy : Policy) (t : Tid) (dues : List Due) → (due : Due) × In due dues → let_through protocols policy past t dues ≡ []
      → is_only (defers_all (held_back protocols policy past t dues) (let_through protocols policy past t dues)) ≡ false
  again_some policy t dues there none =
      ap (λ sent. is_only (defers_all (held_back protocols policy past t dues) sent)) none ∙ take_some policy t dues there none

  -- the two lines that send what is due
  abbrev sent_line : CoordEvent → Tid → Answer → List Due → CoordHappening
  sent_line event t answer dues = record { event = event; answer = answer; sends = map (send_due t) dues; calls = []; lines = [] }

  pub dues_good : (command : Command) (event : CoordEvent) (t : Tid) (answer : Answer) (dues : List Due) → IsSend answer → Sorted due_number dues
      → ((a : Answer) → IsSend a → answer_fits command a ≡ true) → (dues ≡ [] → is_only answer ≡ false) → (dues ≡ []) ⊎ (coordinator_sends command answer ≡ true)
      → ((some_of is_prepare dues && lacks_initiation protocols past t) ≡ true → (answer_fits command Say.Initiates ≡ true) × (coordinator_sends command Say.Initiates ≡ true))
      → ((some_of is_prepare dues && lacks_initiation protocols past t) ≡ false → (g : Tid) → is_open (sent_line event t answer dues ∷ past) g ≡ true → Ready protocols (sent_line event t answer dues ∷ past) g)
      → ((some_of is_prepare dues && lacks_initiation protocols past t) ≡ true → (x : CoordHappening) → x.event ≡ event → x.answer ≡ Say.Initiates → records (x ∷ past) ≡ Rec.Initiation t (participants protocols past t) ∷ records past
      → (g : Tid) → is_open (x ∷ past) g ≡ true → Ready protocols (x ∷ past) g)
      → CoordGood protocols past ready sorted command (sends_dues protocols past event t answer dues)
  unfolding sends_dues when
  dues_good command event t answer dues is h fits some can begins next first = by_test (some_of is_prepare dues && lacks_initiation protocols past t) refl
    where
      by_test : (b : Bool) → (some_of is_prepare dues && lacks_initiation protocols past t) ≡ b → CoordGood protocols past ready sorted command (when b
          (record { event = event; answer = Say.Initiates; sends = map (send_due t) dues; calls = Append (Rec.Initiation t (participants protocols past t)) ∷ Sync ∷ []; lines = [] })
          (record { event = event; answer = answer; sends = map (send_due t) dues; calls = []; lines = [] }))
      by_test true q = record {
        answer = (begins q).0;
        some = λ n. refl;
        rises = dues_sorted protocols past ready sorted t dues h;
        can = inr (begins q).1;
        next = first q (record { event = event; answer = Say.Initiates; sends = map (send_due t) dues; calls = Append (Rec.Initiation t (participants protocols past t)) ∷ Sync ∷ []; lines = [] }) refl refl refl;
      }
      by_test false q = record {
        answer = fits answer is;
        some = λ n. some (mapped_none t dues n);
        rises = dues_sorted protocols past ready sorted t dues h;
        can = elim can [ inl none ↦ inl (ap (map (send_due t)) none) | inr sending ↦ inr sending ];
        next = next q;
      }

  -- ---- `again`

  -- of an undecided attempt something is outstanding
  out_there : (t : Tid) → Ready protocols past t → (due : Due) × In due (all_outstanding protocols past t)
  out_there t r =
      let (m, i, none) = among_is (λ (m : Participant). is_some (vote_at past t m.site) ≡ false) (participants protocols past t) (each_of_false (λ (m : Participant). is_some (vote_at past t m.site)) (participants protocols past t) r.missing) in
      let (other, due, j, out) = out_somewhere protocols past t m r.sited i none in
      (due, found_there (λ (p : Participant). outstanding past t p.site) other due (participants protocols past t) j out)

  -- and no Prepare before its Initiation
  prepared_due : (t : Tid) → Ready protocols past t → (due : Due) → IsOwed past t due → is_prepare due ≡ true → lacks_initiation protocols past t ≡ false
  prepared_due t r (Due_is.Prepare site k m) o e = r.recorded site o.1
  prepared_due t r (Due_is.Work site k m act) o e = cc
  prepared_due t r (Due_is.Take site k m) o e = cc

  initiated : (policy : Policy) (t : Tid) → Ready protocols past t → (some_of is_prepare (let_through protocols policy past t (all_outstanding protocols past t)) && lacks_initiation protocols past t) ≡ true → ⊥
  initiated policy t r e =
      let (some, lacks) = and_parts (some_of is_prepare (let_through protocols policy past t (all_outstanding protocols past t))) (lacks_initiation protocols past t) e in
      let (due, i, prepare) = some_of_is is_prepare (let_through protocols policy past t (all_outstanding protocols past t)) some in
      let j = (those_in (λ d. not (is_take d && not (may_take protocols policy past t))) due (all_outstanding protocols past t) i).0 in
      let kept = prepared_due t r due (each_at (IsOwed past t) due (all_outstanding protocols past t) (all_owed protocols past t) j) prepare in
      cc

  sent_again : (t : Tid) (answer : Answer) (dues : List Due) → IsSend answer → (g : Tid) → is_open (sent_line (Ev.Again t) t answer dues ∷ past) g ≡ true → Ready protocols (sent_line (Ev.Again t) t answer dues ∷ past) g
  sent_again t answer dues (inl e) g o =
      subst (λ (a : Answer). is_open (record { event = Ev.Again t; answer = a; sends = map (send_due t) dues; calls = []; lines = [] } ∷ past) g ≡ true → Ready protocols (record { event = Ev.Again t; answer = a; sends = map (send_due t) dues; calls = []; lines = [] } ∷ past) g) (sym e)
      (λ p. ready g (same_either (same_tid t g) (is_open past g) p)) o
  sent_again t answer dues (inr e) g o =
      subst (λ (a : Answer). is_open (record { event = Ev.Again t; answer = a; sends = map (send_due t) dues; calls = []; lines = [] } ∷ past) g ≡ true → Ready protocols (record { event = Ev.Again t; answer = a; sends = map (send_due t) dues; calls = []; lines = [] } ∷ past) g) (sym e)
      (λ p. ready g (same_either (same_tid t g) (is_open past g) p)) o

  all_good : (policy : Policy) (t : Tid) → is_open past t ≡ true → CoordGood protocols past ready sorted (Cmd.Again t) (sends_all protocols policy past (Ev.Again t) t (all_outstanding protocols past t))
  unfolding sends_all
  all_good policy t undecided =
      let dues = all_outstanding protocols past t in
      let held = held_back protocols policy past t dues in
      let sent = let_through protocols policy past t dues in
      let r = ready t undecided in
      dues_good (Cmd.Again t) (Ev.Again t) t (defers_all held sent) sent (all_held held sent)
      (those_sorted due_number (λ d. not (is_take d && not (may_take protocols policy past t))) dues (out_sorted protocols past ready sorted past t (participants protocols past t) (members_sorted protocols past ready sorted t)))
      fits (again_some policy t dues (out_there t r)) (can held sent) (λ b. absurd (initiated policy t r b)) (λ b. sent_again t (defers_all held sent) sent (all_held held sent)) (λ b. absurd (initiated policy t r b))
    where
      fits : (a : Answer) → IsSend a → answer_fits (Cmd.Again t) a ≡ true
      fits a (inl e) = ap (answer_fits (Cmd.Again t)) e
      fits a (inr e) = ap (answer_fits (Cmd.Again t)) e

      can : (held sent : List Due) → (sent ≡ []) ⊎ (coordinator_sends (Cmd.Again t) (defers_all held sent) ≡ true)
      can held [] = inl refl
      can held (d ∷ sent) = inr refl

  missing_some : (t : Tid) (d : Decision) → is_nobody (missing protocols past t d) ≡ false → decide_to t d (missing protocols past t d) ≡ [] → ⊥
  missing_some t d e n = by_list (missing protocols past t d) e n
    where
      by_list : (ms : List Participant) → is_nobody ms ≡ false → decide_to t d ms ≡ [] → ⊥
      by_list [] e n = cc
      by_list (m ∷ ms) e n = cc

  missing_sorted : (t : Tid) (d : Decision) → ((ms : List Participant) → named protocols (records past) t ≡ Some ms → ms ≡ participants protocols past t) → Sorted number_of (missing protocols past t d)
  missing_sorted t d names = those_sorted number_of (λ (m : Participant). not (has_acked past t m.site)) (required_of d (named protocols (records past) t)) (by_named (named protocols (records past) t) refl)
    where
      by_named : (o : Option (List Participant)) → named protocols (records past) t ≡ o → Sorted number_of (required_of d o)
      by_named None e = tt
      by_named (Some ms) e = those_sorted number_of (λ (m : Participant). acks m.protocol d) ms (subst (Sorted number_of) (sym (names ms e)) (members_sorted protocols past ready sorted t))

  -- what the records say of decided attempts
  pub record KnowsDecided : Type 0 where
    pub awaited : (t : Tid) (d : Decision) → standing protocols past t ≡ Decided d → is_nobody (missing protocols past t d) ≡ false
    pub named : (t : Tid) (ms : List Participant) → named protocols (records past) t ≡ Some ms → ms ≡ participants protocols past t

  undecided_open : (t : Tid) → standing protocols past t ≡ Undecided → is_open past t ≡ true
  undecided_open t e = by_test (is_open past t) refl e
    where
      by_known : (o : Option Decision) → standing_of false o ≡ Undecided → ⊥
      by_known None e = cc
      by_known (Some d) e = cc

      by_test : (b : Bool) → is_open past t ≡ b → standing_of b (known_decision protocols past t) ≡ Undecided → is_open past t ≡ true
      by_test true q e = q
      by_test false q e = absurd (by_known (known_decision protocols past t) e)

  pub again_good : (policy : Policy) (t : Tid) → KnowsDecided → (s : Standing) → standing protocols past t ≡ s → CoordGood protocols past ready sorted (Cmd.Again t) (again_while protocols policy past t s)
  unfolding again_while
  again_good policy t knows Undecided e = all_good policy t (undecided_open t e)
  again_good policy t knows (Decided d) e = record {
    answer = refl;
    some = λ n. absurd (missing_some t d (knows.awaited t d e) n);
    rises = decides_sorted protocols past ready sorted t d (missing protocols past t d) (missing_sorted t d (knows.named t));
    can = inr refl;
    next = λ g o. ready g (same_either (same_tid t g) (is_open past g) o);
  }
  again_good policy t knows Gone e = record { answer = refl; some = λ n. refl; rises = tt; can = inl refl; next = λ g o. ready g (same_either (same_tid t g) (is_open past g) o) }

  -- without a disk call no trip comes
  pub no_calls : (policy : Policy) (t : Tid) → (s : Standing) → standing protocols past t ≡ s → (again_while protocols policy past t s).calls ≡ []
  unfolding again_while sends_all sends_dues when
  no_calls policy t Undecided e = by_test (some_of is_prepare (let_through protocols policy past t (all_outstanding protocols past t)) && lacks_initiation protocols past t) refl
    where
      by_test : (b : Bool) → (some_of is_prepare (let_through protocols policy past t (all_outstanding protocols past t)) && lacks_initiation protocols past t) ≡ b
          → (when {A = CoordHappening} b
          (record { event = Ev.Again t; answer = Say.Initiates; sends = map (send_due t) (let_through protocols policy past t (all_outstanding protocols past t)); calls = Append (Rec.Initiation t (participants protocols past t)) ∷ Sync ∷ []; lines = [] })
          (record { event = Ev.Again t; answer = defers_all (held_back protocols policy past t (all_outstanding protocols past t)) (let_through protocols policy past t (all_outstanding protocols past t)); sends = map (send_due t) (let_through protocols policy past t (all_outstanding protocols past t)); calls = []; lines = [] })).calls ≡ []
      by_test true q = absurd (initiated policy t (ready t (undecided_open t e)) q)
      by_test false q = refl
  no_calls policy t (Decided d) e = refl
  no_calls policy t Gone e = refl
