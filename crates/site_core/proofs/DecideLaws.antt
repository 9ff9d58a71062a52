-- A decision on a subtransaction: what is written of one in doubt, and what the core stands for behind it.
use Rattle.std.proofs.Common.{◌≡◌, ℕ, ◌+◌, ◌||◌, Bool, true, false, not, cond, is_some, Option, Some, None, Err, List, [], ◌∷◌, ◌++◌, inr, length, take, refl, sym, ap, ◌∙◌, subst}
use Rattle.std.specs.Prelude.{option_to_list}
use Rattle.std.proofs.lemmas.Bool.{cond-true, cond-false}
use Rattle.mdb_base.specs.declared.names.Tid.{Tid}
use Rattle.mdb_base.specs.declared.names.Tx.{Tx}
use Rattle.mdb_base.specs.Names.{same_tid}
use Rattle.mdb_base.specs.Words.{given, map_some, some_of}
use Rattle.mdb_base.proofs.ForCallers.{nothing_is, or_false, same_tid-equal, same_tid-refl, same_tid-sym, same_tx-refl}
use Rattle.presumptions.specs.declared.Decision.{Decision}
use Rattle.presumptions.specs.declared.Decision.TheVariants as Decided
use Rattle.presumptions.specs.declared.Protocol.{Protocol}
use Rattle.presumptions.specs.Table.{forces}
use Rattle.fed_rules.specs.declared.answers.Answer.TheVariants as Say
use Rattle.fed_rules.specs.declared.events.SiteEvent.{SiteEvent}
use Rattle.fed_rules.specs.declared.events.SiteEvent.TheVariants as Ev
use Rattle.fed_rules.specs.declared.events.SiteStep.{SiteStep}
use Rattle.fed_rules.specs.declared.messages.ToSite.TheVariants as To
use Rattle.fed_rules.specs.declared.records.SiteRecord.{SiteRecord}
use Rattle.fed_rules.specs.declared.records.SiteRecord.TheVariants as Rec
use Rattle.fed_rules.specs.declared.runs.Doubt.{Doubt}
use Rattle.fed_rules.specs.Disk.{Call, Append, Sync, Stops, Disk, after_calls}
use Rattle.fed_rules.specs.EngineLines.{IsSealed}
use Rattle.fed_rules.specs.Happenings.{comes_up, is_down, used}
use Rattle.fed_rules.specs.Runs as Lines
use Rattle.fed_rules.specs.Runs.{EngineLine, Aborts, Run, changed, run_at, tid_of}
use Rattle.fed_rules.specs.Site.{ack_of, ended_calls, of_decide, of_give, settles, settling_line, site_line, unheld, unless_tripped}
use Rattle.fed_rules.specs.SitePast.{SiteHappening, SitePast, decides_on, ends, engine_lines, epoch, epoch_start, is_closed, live, live_one}
use Rattle.fed_rules.specs.SitePast as Past
use Rattle.fed_rules.specs.SiteRecords.{Held, Home, doubt_of, epoch_of, local_of, site_frame}
use Rattle.journal_disk.specs.Disk.{HasCalled, HasCalledAtMost, Seen}
use Rattle.journal_rules.proofs.ForCallers.{forced_or_not}
use Rattle.journal_sums.specs.Starts.{doubt_held}
use Rattle.prepared_state.specs.Book.{doubt_about, others}
use Rattle.actor_store.specs.declared.errors.StepErr.TheVariants as Err_is
use Rattle.actor_store.specs.declared.store.Break.TheVariants.{Stopped, Failed}
use Rattle.actor_store.specs.declared.store.Standing.TheVariants.{Up}
use Rattle.actor_store.specs.Store.{Called, Passes, is_up}
use Rattle.actor_store.proofs.ForCallers.{called_stopped}
use Rattle.site_book.specs.declared.progress.Progress.{Progress}
use Rattle.site_book.specs.declared.progress.Progress.TheVariants as Is
use Rattle.site_book.specs.Book.{Book, begun_in, closed_part, closes, committed_in, enters, is_closed_in, live_in, live_part, progress_of}
use Rattle.site_book.specs.Follows.{Follows, progress_by}
use Rattle.site_book.specs.Laws.{ClosesBy, IsCalled}
use Rattle.site_book.proofs.ForCallers.{calls_well, decides_well, get-put_tid, stays_closed}
use Rattle.site_history.specs.Lines.{Agrees}
use Rattle.site_history.proofs.ForCallers.{IsKept, free_here}
use Rattle.site_core.specs.declared.site.SiteCore.{SiteCore}
use Rattle.site_core.specs.Made.{IsGoingOn, is_of_global, was_global, was_found}
use Rattle.site_core.specs.Notes.{Notes, NotesPast}
use Rattle.site_core.specs.Order.{IsInOrder}
use Rattle.site_core.specs.Stands.{Adds, Answers, Breaks, Holds, IsOfKind, IsUp, Stands, calls_for}
use Rattle.site_core.specs.Store.{Ends, Keeps}
use Rattle.site_core.proofs.InquiryLaws.{none_doubted}
use Rattle.site_core.proofs.MadeLaws.{lawful}
use Rattle.site_core.proofs.NotesLaws.{IsKnown, committed_closes, notes_change, order_changed, order_closes}
use Rattle.site_core.proofs.OnceLaws.{AppendsOnce, once_stopped}
use Rattle.site_core.proofs.CalledLaws.{give_calls}
use Rattle.site_core.proofs.OperationLaws.{give_decide, give_up_line}
use Rattle.site_core.proofs.RememberLaws.{IsPlain, answers_as, carries_line, carries_stop, is_up_at, kind_at, more_lines, passes_is, remembers_line, same_start, stop_line, trips_is, up_is}
use Rattle.site_core.proofs.StopLaws.{GoesOn, breaks_up, trip_line}
use Rattle.site_core.proofs.UpLaws.{up_quiet_disk}

-- the doubts about other attempts are what the site doubts behind it
pub others_about : (tid t : Tid) (doubts : List Doubt) → doubt_about t (others tid doubts) ≡ cond (same_tid tid t) None (doubt_about t doubts)
others_about tid t [] = none (same_tid tid t) where
  none : (b : Bool) → ◌≡◌ {A = Option Doubt} None (cond b None None)
  none true = refl
  none false = refl
others_about tid t (d ∷ doubts) = by_own (same_tid d.tid tid) refl (others_about tid t doubts) where
  by_own : (b : Bool) → same_tid d.tid tid ≡ b → doubt_about t (others tid doubts) ≡ cond (same_tid tid t) None (doubt_about t doubts)
      → doubt_about t (cond (not b) (d ∷ others tid doubts) (others tid doubts)) ≡ cond (same_tid tid t) None (cond (same_tid d.tid t) (Some d) (doubt_about t doubts))
  by_own true e rest = rest ∙ out (same_tid tid t) (ap (λ (x : Tid). same_tid x t) (same_tid-equal d.tid tid e)) where
    out : (c : Bool) → same_tid d.tid t ≡ c → cond c None (doubt_about t doubts) ≡ cond c None (cond (same_tid d.tid t) (Some d) (doubt_about t doubts))
    out true f = refl
    out false f = sym (cond-false _ _ _ f)
  by_own false e rest = by_asked (same_tid d.tid t) refl where
    by_asked : (c : Bool) → same_tid d.tid t ≡ c → cond c (Some d) (doubt_about t (others tid doubts)) ≡ cond (same_tid tid t) None (cond c (Some d) (doubt_about t doubts))
    by_asked true f = sym (cond-false _ _ _ (ap (same_tid tid) (sym (same_tid-equal d.tid t f)) ∙ same_tid-sym tid d.tid ∙ e))
    by_asked false f = rest

-- an attempt in doubt has a sealed run
pub record IsHeld (home : Home) (past : SitePast) (tid : Tid) : Type 0 where
  pub held : Held
  pub doubt : doubt_of (Past.records home past) tid ≡ Some held
  pub run : Run
  pub sealed : IsSealed (epoch_start home past) (engine_lines past) tid run held.number

held_from : (home : Home) (past : SitePast) (tid : Tid) (o : Option Held) (r : Option Run) → doubt_of (Past.records home past) tid ≡ o → run_at (epoch_start home past) (engine_lines past) tid ≡ r
    → is_some o ≡ true → Agrees o r → IsHeld home past tid
held_from home past tid None r e f there agrees = cc
held_from home past tid (Some held) None e f there agrees = absurd agrees
held_from home past tid (Some held) (Some run) e f there agrees = record { held = held; doubt = e; run = run; sealed = (f, agrees.0) }

made_kept : (home : Home) (past : SitePast) → IsGoingOn home past → IsKept home past
made_kept home past made = (lawful home past made).well.kept

made_held : (home : Home) (past : SitePast) (tid : Tid) → IsGoingOn home past → is_some (doubt_of (Past.records home past) tid) ≡ true → IsHeld home past tid
made_held home past tid made there =
    held_from home past tid (doubt_of (Past.records home past) tid) (run_at (epoch_start home past) (engine_lines past) tid) refl refl there ((made_kept home past made).agrees tid)

-- and one that neither lives nor is in doubt has none
pub made_runless : (home : Home) (past : SitePast) (tid : Tid) → IsGoingOn home past → doubt_of (Past.records home past) tid ≡ None → live home past tid ≡ None
    → run_at (epoch_start home past) (engine_lines past) tid ≡ None
made_runless home past tid made none dead = free_here home past tid (made_kept home past made) dead none

-- what the core lists is what the site is in doubt of
listed_some : (o : Option Held) → is_some (map_some doubt_held o) ≡ true → is_some o ≡ true
listed_some None e = cc
listed_some (Some held) e = refl

-- its lines: of one in doubt, and of one that isn't
abbrev pub settle_line : Home → Tid → Decision → SiteHappening
settle_line home tid decision = record {
  event = Ev.Give (To.Decide tid decision);
  answer = Say.Settles tid decision;
  sends = ack_of home tid decision;
  calls = ended_calls home tid decision;
  lines = settling_line tid decision ∷ [];
}

abbrev pub unheld_line : Home → Tid → Decision → List EngineLine → SiteHappening
unheld_line home tid decision lines = record {
  event = Ev.Give (To.Decide tid decision);
  answer = Say.Unheld tid;
  sends = ack_of home tid decision;
  calls = [];
  lines = lines;
}

module _ (home : Home) (past : SitePast) (tid : Tid) (decision : Decision) where
  pub decide_settles : (held : Held) → doubt_of (Past.records home past) tid ≡ Some held → of_decide home past tid decision ≡ settle_line home tid decision
  unfolding of_decide given settles
  decide_settles held e = rw e refl

  pub decide_aborts : (run : Run) → doubt_of (Past.records home past) tid ≡ None → live home past tid ≡ Some run → of_decide home past tid decision ≡ unheld_line home tid decision (Aborts tid ∷ [])
  unfolding of_decide given unheld
  decide_aborts run e f = rw (e, f) refl

  pub decide_idle : doubt_of (Past.records home past) tid ≡ None → live home past tid ≡ None → of_decide home past tid decision ≡ unheld_line home tid decision []
  unfolding of_decide given unheld
  decide_idle e f = rw (e, f) refl

  -- a trip that is set before it changes nothing of it
  decide_goes : (calls cut : ℕ) → of_decide home (trip_line calls cut ∷ past) tid decision ≡ of_decide home past tid decision
  unfolding of_decide settles unheld
  decide_goes calls cut = refl

  decide_given : of_give home past (To.Decide tid decision) ≡ of_decide home past tid decision
  unfolding of_give
  decide_given = refl

-- the line of a site that is up
pub decide_up : (home : Home) (past : SitePast) (tid : Tid) (decision : Decision) → is_down past ≡ false
    → site_line home past (Ev.Give (To.Decide tid decision)) ≡ unless_tripped home past (of_decide home past tid decision)
decide_up home past tid decision up = give_up_line home past (To.Decide tid decision) up ∙ ap (unless_tripped home past) (decide_given home past tid decision)

-- what is written, synced or not
ended_records : (rules : Disk SiteRecord) (newest : SiteRecord) (b : Bool) → (after_calls site_frame rules (Append newest ∷ cond b (Sync ∷ []) [])).records ≡ newest ∷ rules.records
ended_records rules newest true = refl
ended_records rules newest false = refl

settled_records : (home : Home) (past : SitePast) (tid : Tid) (decision : Decision) → Past.records home (settle_line home tid decision ∷ past) ≡ Rec.Ended tid decision ∷ Past.records home past
settled_records home past tid decision = ended_records (Past.disk home past) (Rec.Ended tid decision) (forces home.protocol decision)

ended_once : (rules : Disk SiteRecord) (tid : Tid) (decision : Decision) (b : Bool) → AppendsOnce rules (Append (Rec.Ended tid decision) ∷ cond b (Sync ∷ []) [])
ended_once rules tid decision true = tt
ended_once rules tid decision false = tt

-- by the protocol that the core has
abbrev pub written_calls : Protocol → Tid → Decision → List (Call SiteRecord)
written_calls protocol tid decision = Append (Rec.Ended tid decision) ∷ cond (forces protocol decision) (Sync ∷ []) []

written_is : (protocol : Protocol) (home : Home) (tid : Tid) (decision : Decision) → protocol ≡ home.protocol → written_calls protocol tid decision ≡ ended_calls home tid decision
written_is protocol home tid decision e = ap (λ (p : Protocol). written_calls p tid decision) e

-- the engine line of a decision ends the attempt's run
module _ (tid : Tid) where
  settling_own : (decision : Decision) → tid_of (settling_line tid decision) ≡ tid
  settling_own Decided.Commit = refl
  settling_own Decided.Abort = refl

  settling_ends : (decision : Decision) (u : Tid) → ends u (settling_line tid decision) ≡ same_tid tid u
  settling_ends Decided.Commit u = refl
  settling_ends Decided.Abort u = refl

  settling_called : (decision : Decision) (book : Book) → IsCalled book (settling_line tid decision) (closes tid book)
  settling_called Decided.Commit book = refl
  settling_called Decided.Abort book = refl

  settling_gone : (decision : Decision) (o : Option Run) → changed (settling_line tid decision) o ≡ None
  settling_gone Decided.Commit None = refl
  settling_gone Decided.Commit (Some run) = refl
  settling_gone Decided.Abort None = refl
  settling_gone Decided.Abort (Some run) = refl

or_skip : (a b : Bool) → (a || false || b) ≡ (a || b)
or_skip true b = refl
or_skip false b = refl

or_twice : (a b : Bool) → (a || a || b) ≡ (a || b)
or_twice true b = refl
or_twice false b = refl

no_run : (o : Option Run) (run : Run) → o ≡ None → o ≡ Some run → ⊥
no_run o run e f = cc

module _ (past : SitePast) (x : SiteHappening) (tid : Tid) (decision : Decision) (stays : comes_up x.answer ≡ false) (event : x.event ≡ Ev.Give (To.Decide tid decision)) where
  -- the attempt is closed behind a decision on it
  decided : (u : Tid) → is_closed (x ∷ past) u ≡ (same_tid tid u || some_of (ends u) x.lines || is_closed past u)
  decided u = cond-false _ _ _ stays ∙ ap (λ (e : SiteEvent). decides_on u e || some_of (ends u) x.lines || is_closed past u) event

  decided_idle : x.lines ≡ [] → (u : Tid) → is_closed (x ∷ past) u ≡ (same_tid tid u || is_closed past u)
  decided_idle none u =
      let ended : some_of (ends u) x.lines ≡ false = ap (some_of (ends u)) none in
      decided u ∙ ap (λ (b : Bool). same_tid tid u || b || is_closed past u) ended ∙ or_skip (same_tid tid u) (is_closed past u)

  decided_ends : (by : Decision) → x.lines ≡ settling_line tid by ∷ [] → (u : Tid) → is_closed (x ∷ past) u ≡ (same_tid tid u || is_closed past u)
  decided_ends by one u =
      let ended : some_of (ends u) x.lines ≡ same_tid tid u = ap (some_of (ends u)) one ∙ ap (λ (b : Bool). b || false) (settling_ends tid by u) ∙ or_false (same_tid tid u) in
      decided u ∙ ap (λ (b : Bool). same_tid tid u || b || is_closed past u) ended ∙ or_twice (same_tid tid u) (is_closed past u)

  decided_others : (u : Tid) → is_closed (x ∷ past) u ≡ (same_tid tid u || is_closed past u) → same_tid tid u ≡ false → is_closed (x ∷ past) u ≡ is_closed past u
  decided_others u is e = is ∙ ap (λ (b : Bool). b || is_closed past u) e

  -- a message was about its transaction
  decided_known : IsKnown tid (x ∷ past)
  decided_known =
      inr (ap (λ (e : SiteEvent). is_of_global tid.tx e || was_global tid.tx past) event ∙ ap (λ (b : Bool). b || was_global tid.tx past) (same_tx-refl tid.tx))

  -- the book behind the end of its run
  ended_notes : (book : Book) (home : Home) (by : Decision) → NotesPast book home past → x.lines ≡ settling_line tid by ∷ []
      → ((tx : Tx) → local_of (Past.records home (x ∷ past)) tx ≡ local_of (Past.records home past) tx)
      → Notes (closes tid book) (epoch_start home past) (settling_line tid by ∷ engine_lines past) (is_closed (x ∷ past)) (local_of (Past.records home (x ∷ past))) (x ∷ past)
  ended_notes book home by n one same =
      let closed = decided_ends by one in
      let closing : ClosesBy (settling_line tid by) (is_closed past) (is_closed (x ∷ past)) = λ u. closed u ∙ sym (ap (λ (b : Bool). b || is_closed past u) (settling_ends tid by u)) in
      let follows = calls_well book (closes tid book) (epoch_start home past) (engine_lines past) (settling_line tid by) (is_closed past) (is_closed (x ∷ past)) n.follows closing (settling_called tid by book) in
      let own : same_tid (tid_of (settling_line tid by)) tid ≡ true = ap (λ (t : Tid). same_tid t tid) (settling_own tid by) ∙ same_tid-refl tid in
      let gone : run_at (epoch_start home past) (settling_line tid by ∷ engine_lines past) tid ≡ None = cond-true _ _ _ own ∙ settling_gone tid by (run_at (epoch_start home past) (engine_lines past) tid) in
      notes_change book (closes tid book) (epoch_start home past) (engine_lines past) (settling_line tid by ∷ engine_lines past) (is_closed past) (is_closed (x ∷ past)) (local_of (Past.records home past)) (local_of (Past.records home (x ∷ past))) past x tid
      n follows (order_closes book tid n.order) (λ tx. committed_closes book tid n.order tx ∙ n.committed_is tx ∙ sym (same tx))
      (λ u e. cond-false _ _ _ (ap (λ (t : Tid). same_tid t u) (settling_own tid by) ∙ e)) (λ u e. decided_others u (closed u) e)
      decided_known (λ run e. absurd (no_run _ run (ap live_one gone) e))

  -- and where it has none
  runless_notes : (old new : Book) (home : Home) → NotesPast old home past → x.lines ≡ []
      → Follows new (epoch_start home past) (engine_lines past) (is_closed (x ∷ past)) → IsInOrder new → ((tx : Tx) → committed_in new tx ≡ committed_in old tx)
      → run_at (epoch_start home past) (engine_lines past) tid ≡ None
      → Notes new (epoch_start home past) (engine_lines past) (is_closed (x ∷ past)) (local_of (Past.records home past)) (x ∷ past)
  runless_notes old new home n none follows order committed gone =
      notes_change old new (epoch_start home past) (engine_lines past) (engine_lines past) (is_closed past) (is_closed (x ∷ past)) (local_of (Past.records home past)) (local_of (Past.records home past)) past x tid
      n follows order (λ tx. committed tx ∙ n.committed_is tx) (λ u e. refl) (λ u e. decided_others u (decided_idle none u) e)
      decided_known (λ run e. absurd (no_run _ run (ap live_one gone) e))

-- what has an entry and neither a run that lives nor one that is sealed is closed
closed_entry : (c : Bool) → is_some (progress_by None c) ≡ true → closed_part (progress_by None c) ≡ true
closed_entry true e = refl
closed_entry false e = cc

is_closed_there : (book : Book) (home : Home) (past : SitePast) (tid : Tid) → NotesPast book home past → run_at (epoch_start home past) (engine_lines past) tid ≡ None
    → is_some (progress_of book tid) ≡ true → is_closed_in book tid ≡ true
is_closed_there book home past tid n gone there =
    let is : progress_of book tid ≡ progress_by None (is_closed past tid) = n.follows.attempts tid ∙ ap (λ (o : Option Run). progress_by o (is_closed past tid)) gone in
    ap closed_part is ∙ closed_entry (is_closed past tid) (sym (ap is_some is) ∙ there)

-- an attempt without an entry is entered as closed
enters_closed : (book : Book) (tid u : Tid) → progress_of book tid ≡ None → is_some (live_in (enters tid Is.Closed book) u) ≡ is_some (live_in book u)
enters_closed book tid u none = ap (λ (p : Option Progress). is_some (live_part p)) (get-put_tid book.attempts tid u Is.Closed) ∙ by_test (same_tid tid u) refl where
  by_test : (b : Bool) → same_tid tid u ≡ b → is_some (live_part (cond b (Some Is.Closed) (progress_of book u))) ≡ is_some (live_in book u)
  by_test true e = sym (ap (λ (t : Tid). is_some (live_in book t)) (sym (same_tid-equal tid u e)) ∙ ap (λ (p : Option Progress). is_some (live_part p)) none)
  by_test false e = refl

module _ {E : Type 0} (stands : E → Lines.Start → List EngineLine → Type 0) where
  pub held_here : (core : SiteCore E) (home : Home) (past : SitePast) (tid : Tid) → Holds stands core home past → core.store.standing ≡ Up → is_some (doubt_about tid core.doubts.doubts) ≡ true → IsHeld home past tid
  held_here core home past tid h up there =
      made_held home past tid h.made (listed_some (doubt_of (Past.records home past) tid) (sym (ap is_some ((is_up_at stands core home past h.memory up).doubts tid)) ∙ there))

  -- what is held has an entry
  pub held_entered : (core : SiteCore E) (home : Home) (past : SitePast) (tid : Tid) → Holds stands core home past → core.store.standing ≡ Up → IsHeld home past tid → is_some (progress_of core.book tid) ≡ true
  held_entered core home past tid h up held =
      ap is_some ((is_up_at stands core home past h.memory up).notes.follows.attempts tid ∙ ap (λ (o : Option Run). progress_by o (is_closed past tid)) held.sealed.0)

  pub not_held : (core : SiteCore E) (home : Home) (past : SitePast) (tid : Tid) → Holds stands core home past → core.store.standing ≡ Up → is_some (doubt_about tid core.doubts.doubts) ≡ false
      → doubt_of (Past.records home past) tid ≡ None
  not_held core home past tid h up none = none_doubted (doubt_of (Past.records home past) tid) (sym ((is_up_at stands core home past h.memory up).doubts tid) ∙ nothing_is (doubt_about tid core.doubts.doubts) none)

  -- behind a line that changes what is doubted
  up_doubts : (new : SiteCore E) (home : Home) (past : SitePast) (x : SiteHappening) → IsPlain x
      → stands new.engine (epoch_start home past) (x.lines ++ engine_lines past)
      → Notes new.book (epoch_start home past) (x.lines ++ engine_lines past) (is_closed (x ∷ past)) (local_of (Past.records home (x ∷ past))) (x ∷ past)
      → ((t : Tid) → doubt_about t new.doubts.doubts ≡ map_some doubt_held (doubt_of (Past.records home (x ∷ past)) t))
      → new.epoch ≡ epoch home (x ∷ past) → IsUp stands new home (x ∷ past)
  up_doubts new home past x p engine notes doubts number =
      let S : Lines.Start → List EngineLine → Type 0 = λ s l. stands new.engine s l in
      let N : Lines.Start → List EngineLine → Type 0 = λ s l. Notes new.book s l (is_closed (x ∷ past)) (local_of (Past.records home (x ∷ past))) (x ∷ past) in
      let start = same_start home past x p in
      let lines = more_lines past x p in
      record {
        engine = subst (λ (s : Lines.Start). S s (engine_lines (x ∷ past))) (sym start) (subst (λ (l : List EngineLine). S (epoch_start home past) l) (sym lines) engine);
        notes = subst (λ (s : Lines.Start). N s (engine_lines (x ∷ past))) (sym start) (subst (λ (l : List EngineLine). N (epoch_start home past) l) (sym lines) notes);
        doubts = doubts;
        epoch = number;
      }

  -- a record that is written changes no engine
  pub written_engine : (old new : SiteCore E) (start : Lines.Start) (lines : List EngineLine) → new ≡ record old { store = new.store } → stands old.engine start lines → stands new.engine start lines
  written_engine old new start lines is stood = let S : E → Type 0 = λ e. stands e start lines in subst S (sym (ap (λ (c : SiteCore E). c.engine) is)) stood

  -- what is doubted behind a settled one
  doubts_settled : (tid t : Tid) (doubts : List Doubt) (records : List SiteRecord) (decision : Decision) → doubt_about t doubts ≡ map_some doubt_held (doubt_of records t)
      → doubt_about t (others tid doubts) ≡ map_some doubt_held (doubt_of (Rec.Ended tid decision ∷ records) t)
  doubts_settled tid t doubts records decision is = others_about tid t doubts ∙ by_test (same_tid tid t) where
    by_test : (b : Bool) → cond b None (doubt_about t doubts) ≡ map_some doubt_held (cond b None (doubt_of records t))
    by_test true = refl
    by_test false = is

  -- a decision on what isn't in doubt
  pub unheld_adds : (old new : SiteCore E) (home : Home) (past : SitePast) (tid : Tid) (decision : Decision) (lines : List EngineLine) (step : SiteStep) → Holds stands old home past → old.store.standing ≡ Up
      → new ≡ record old { engine = new.engine; book = new.book } → stands new.engine (epoch_start home past) (lines ++ engine_lines past)
      → Notes new.book (epoch_start home past) (lines ++ engine_lines past) (is_closed (unheld_line home tid decision lines ∷ past)) (local_of (Past.records home past)) (unheld_line home tid decision lines ∷ past)
      → ((tx : Tx) → begun_in new.book tx ≡ begun_in old.book tx)
      → step.answer ≡ Say.Unheld tid → option_to_list step.sends ≡ ack_of home tid decision → Adds stands step new home past (unheld_line home tid decision lines)
  unheld_adds old new home past tid decision lines step h up is engine notes begun answer sends =
      let x = unheld_line home tid decision lines in
      let p : IsPlain x = record { goes = refl; stays = refl; sets = refl } in
      let m = h.memory in
      record {
        answer = answer;
        sends = sends;
        memory = remembers_line stands old new home past x m up (ap (λ (c : SiteCore E). c.store) is) p refl
            (up_quiet_disk stands old new home past x p refl (is_up_at stands old home past m up) engine notes (ap (λ (c : SiteCore E). c.doubts) is) (ap (λ (c : SiteCore E). c.epoch) is))
            (λ tx. begun tx ∙ m.begun tx) (ap (λ (c : SiteCore E). c.protocol) is);
      }

  -- the live run of it aborts
  pub aborts_adds : (old new : SiteCore E) (home : Home) (past : SitePast) (tid : Tid) (decision : Decision) (step : SiteStep) → Holds stands old home past → old.store.standing ≡ Up
      → new ≡ record old { engine = new.engine; book = closes tid old.book } → stands new.engine (epoch_start home past) (Aborts tid ∷ engine_lines past)
      → step.answer ≡ Say.Unheld tid → option_to_list step.sends ≡ ack_of home tid decision → Adds stands step new home past (unheld_line home tid decision (Aborts tid ∷ []))
  aborts_adds old new home past tid decision step h up is engine answer sends =
      let x = unheld_line home tid decision (Aborts tid ∷ []) in
      let u = is_up_at stands old home past h.memory up in
      let book : new.book ≡ closes tid old.book = ap (λ (c : SiteCore E). c.book) is in
      let N : Book → Type 0 = λ b. Notes b (epoch_start home past) (Aborts tid ∷ engine_lines past) (is_closed (x ∷ past)) (local_of (Past.records home past)) (x ∷ past) in
      unheld_adds old new home past tid decision (Aborts tid ∷ []) step h up (is ∙ ap (λ (b : Book). let c : SiteCore E = record old { engine = new.engine; book = b } in c) (sym book)) engine
      (subst N (sym book) (ended_notes past x tid decision refl refl old.book home Decided.Abort u.notes refl (λ tx. refl))) (λ tx. ap (λ (b : Book). begun_in b tx) book) answer sends

  -- one that is closed stays so
  pub closed_adds : (core : SiteCore E) (home : Home) (past : SitePast) (tid : Tid) (decision : Decision) (step : SiteStep) → Holds stands core home past → core.store.standing ≡ Up
      → run_at (epoch_start home past) (engine_lines past) tid ≡ None → is_some (progress_of core.book tid) ≡ true
      → step.answer ≡ Say.Unheld tid → option_to_list step.sends ≡ ack_of home tid decision → Adds stands step core home past (unheld_line home tid decision [])
  closed_adds core home past tid decision step h up gone there answer sends =
      let x = unheld_line home tid decision [] in
      let u = is_up_at stands core home past h.memory up in
      let follows = stays_closed core.book (epoch_start home past) (engine_lines past) tid (is_closed past) (is_closed (x ∷ past)) u.notes.follows (is_closed_there core.book home past tid u.notes gone there) (decided_idle past x tid decision refl refl refl) in
      unheld_adds core core home past tid decision [] step h up refl u.engine
      (runless_notes past x tid decision refl refl core.book core.book home u.notes refl follows u.notes.order (λ tx. refl) gone) (λ tx. refl) answer sends

  -- and one without an entry is closed by it
  pub entered_adds : (old new : SiteCore E) (home : Home) (past : SitePast) (tid : Tid) (decision : Decision) (step : SiteStep) → Holds stands old home past → old.store.standing ≡ Up
      → run_at (epoch_start home past) (engine_lines past) tid ≡ None → progress_of old.book tid ≡ None
      → new ≡ record old { book = enters tid Is.Closed old.book }
      → step.answer ≡ Say.Unheld tid → option_to_list step.sends ≡ ack_of home tid decision → Adds stands step new home past (unheld_line home tid decision [])
  entered_adds old new home past tid decision step h up gone none is answer sends =
      let x = unheld_line home tid decision [] in
      let u = is_up_at stands old home past h.memory up in
      let b : Book = enters tid Is.Closed old.book in
      let follows = decides_well old.book b (epoch_start home past) (engine_lines past) tid (is_closed past) (is_closed (x ∷ past)) u.notes.follows gone (decided_idle past x tid decision refl refl refl) refl in
      let notes = runless_notes past x tid decision refl refl old.book b home u.notes refl follows (order_changed old.book b refl refl (λ v. enters_closed old.book tid v none) u.notes.order) (λ tx. refl) gone in
      let A : SiteCore E → Type 0 = λ c. Adds stands step c home past x in
      subst A (sym is) (unheld_adds old (record old { book = b }) home past tid decision [] step h up refl u.engine notes (λ tx. refl) answer sends)

  module _ (tells : Bool) where
    -- the record of an attempt in doubt is written, and its run ends
    pub settle_done : (old mid new : SiteCore E) (step : SiteStep) (disk disk' : Seen) (home : Home) (past : SitePast) (tid : Tid) (decision : Decision) (held : Held) → Stands stands tells old disk home past
        → old.store.standing ≡ Up → doubt_of (Past.records home past) tid ≡ Some held
        → Passes (Past.trip past) (length (written_calls old.protocol tid decision))
        × Keeps (was_found past) tells disk' new.store (after_calls site_frame (Past.disk home past) (written_calls old.protocol tid decision)) (used (length (written_calls old.protocol tid decision)) (Past.trip past))
        → new.store.standing ≡ Up → mid ≡ record old { store = mid.store } → new ≡ record mid { engine = new.engine; book = closes tid mid.book; doubts = new.doubts }
        → new.doubts.doubts ≡ others tid mid.doubts.doubts → stands new.engine (epoch_start home past) (settling_line tid decision ∷ engine_lines past)
        → step.answer ≡ Say.Settles tid decision → option_to_list step.sends ≡ ack_of home tid decision → HasCalled (0 + length (written_calls old.protocol tid decision)) disk disk'
        → Answers stands tells 0 disk step new disk' home past (unless_tripped home past (of_decide home past tid decision))
    settle_done old mid new step disk disk' home past tid decision held k up doubt done now rest ended listed engine answer sends called =
        let is : new ≡ record old { engine = new.engine; book = closes tid old.book; doubts = new.doubts; store = mid.store } =
        ended ∙ ap (λ (c : SiteCore E). let after : SiteCore E = record c { engine = new.engine; book = closes tid c.book; doubts = new.doubts } in after) rest in
        let y = settle_line home tid decision in
        let m = k.holds.memory in
        let C : List (Call SiteRecord) → Type 0 = λ cs. Passes (Past.trip past) (length cs) × Keeps (was_found past) tells disk' new.store (after_calls site_frame (Past.disk home past) cs) (used (length cs) (Past.trip past)) in
        let ends = subst C (written_is old.protocol home tid decision m.protocol) done in
        let H : List (Call SiteRecord) → Type 0 = λ cs. HasCalled (0 + length cs) disk disk' in
        let L : ℕ → Type 0 = λ n. HasCalled (0 + n) disk disk' in
        let u = is_up_at stands old home past m up in
        let p : IsPlain y = record { goes = refl; stays = refl; sets = refl } in
        let written = settled_records home past tid decision in
        let book : new.book ≡ closes tid old.book = ap (λ (c : SiteCore E). c.book) is in
        let N : Book → Type 0 = λ b. Notes b (epoch_start home past) (settling_line tid decision ∷ engine_lines past) (is_closed (y ∷ past)) (local_of (Past.records home (y ∷ past))) (y ∷ past) in
        let notes = ended_notes past y tid decision refl refl old.book home decision u.notes refl (λ tx. ap (λ (rs : List SiteRecord). local_of rs tx) written) in
        let doubts : (t : Tid) → doubt_about t new.doubts.doubts ≡ map_some doubt_held (doubt_of (Past.records home (y ∷ past)) t) = λ t.
        ap (doubt_about t) (listed ∙ ap (λ (c : SiteCore E). others tid c.doubts.doubts) rest) ∙ doubts_settled tid t old.doubts.doubts (Past.records home past) decision (u.doubts t) ∙ sym (ap (λ (rs : List SiteRecord). map_some doubt_held (doubt_of rs t)) written) in
        answers_as stands tells 0 disk step new disk' home past (unless_tripped home past (of_decide home past tid decision)) y (ap (unless_tripped home past) (decide_settles home past tid decision held doubt) ∙ passes_is home past y ends.0)
        (record {
          answer = answer;
          sends = sends;
          carries = carries_line stands tells old new disk' home past y m up ends.1 now p
              (up_doubts new home past y p engine (subst N (sym book) notes) doubts (ap (λ (c : SiteCore E). c.epoch) is ∙ u.epoch ∙ sym (ap epoch_of written)))
              (λ tx. ap (λ (b : Book). begun_in b tx) book ∙ m.begun tx) (ap (λ (c : SiteCore E). c.protocol) is) (ended_once (Past.disk home past) tid decision (forces home.protocol decision));
          called = subst L (sym (forced_or_not (Rec.Ended tid decision) (forces home.protocol decision))) (subst H (written_is old.protocol home tid decision m.protocol) called);
        })

    pub settle_stopped : (old new : SiteCore E) (step : SiteStep) (disk disk' : Seen) (home : Home) (past : SitePast) (tid : Tid) (decision : Decision) (held : Held) (kept : ℕ) → Stands stands tells old disk home past
        → old.store.standing ≡ Up → doubt_of (Past.records home past) tid ≡ Some held
        → Ends {A = ℕ} (Keeps (was_found past) tells disk' new.store) (Past.disk home past) (Past.trip past) (written_calls old.protocol tid decision) (Err (Stopped kept))
        → is_up new.store.standing ≡ false → new ≡ record old { store = new.store } → step ≡ record { answer = Say.Stopped kept; sends = None }
        → Called {A = ℕ} 0 (Past.trip past) (written_calls old.protocol tid decision) disk disk' (Err (Stopped kept))
        → Answers stands tells 0 disk step new disk' home past (unless_tripped home past (of_decide home past tid decision))
    settle_stopped old new step disk disk' home past tid decision held kept k up doubt stop down is says called =
        let y = settle_line home tid decision in
        let m = k.holds.memory in
        let C : List (Call SiteRecord) → Type 0 = λ cs. Ends {A = ℕ} (Keeps (was_found past) tells disk' new.store) (Past.disk home past) (Past.trip past) cs (Err (Stopped kept)) in
        let (set, trip, within, keeps, count) = subst C (written_is old.protocol home tid decision m.protocol) stop in
        let calls : List (Call SiteRecord) = take set.calls y.calls ++ Stops set.cut ∷ [] in
        let K : E → Type 0 = λ e. IsOfKind stands e home.engine in
        answers_as stands tells 0 disk step new disk' home past (unless_tripped home past (of_decide home past tid decision)) (stop_line home past y.event calls)
        (ap (unless_tripped home past) (decide_settles home past tid decision held doubt) ∙ trips_is home past y set trip within)
        (record {
          answer = ap (λ (s : SiteStep). s.answer) says ∙ ap (λ (n : ℕ). Say.Stopped n) count;
          sends = ap (λ (s : SiteStep). option_to_list s.sends) says;
          carries = carries_stop stands tells new disk' home past y.event calls keeps down (subst K (sym (ap (λ (c : SiteCore E). c.engine) is)) (kind_at stands old home past m))
              (λ tx. ap (λ (c : SiteCore E). begun_in c.book tx) is ∙ m.begun tx) (ap (λ (c : SiteCore E). c.protocol) is ∙ m.protocol)
              (once_stopped (Past.disk home past) set.calls set.cut y.calls (ended_once (Past.disk home past) tid decision (forces home.protocol decision)) m.once);
          called = called_stopped 0 (Past.trip past) set y.calls disk disk' kept (forced_or_not (Rec.Ended tid decision) (forces home.protocol decision)) trip within called;
        })

    pub settle_failed : (old new : SiteCore E) (disk disk' : Seen) (home : Home) (past : SitePast) (tid : Tid) (decision : Decision) (held : Held) → Stands stands tells old disk home past
        → old.store.standing ≡ Up → doubt_of (Past.records home past) tid ≡ Some held
        → Ends {A = ℕ} (Keeps (was_found past) tells disk' new.store) (Past.disk home past) (Past.trip past) (written_calls old.protocol tid decision) (Err Failed)
        → is_up new.store.standing ≡ false → new ≡ record old { store = new.store } → HasCalledAtMost (0 + length (written_calls old.protocol tid decision)) disk disk'
        → Breaks stands tells (0 + calls_for home past (Ev.Give (To.Decide tid decision))) disk Err_is.Disk new disk' home past (Ev.Give (To.Decide tid decision))
    settle_failed old new disk disk' home past tid decision held k up doubt failed down is called =
        let y = settle_line home tid decision in
        let m = k.holds.memory in
        let C : List (Call SiteRecord) → Type 0 = λ cs. Ends {A = ℕ} (Keeps (was_found past) tells disk' new.store) (Past.disk home past) (Past.trip past) cs (Err Failed) in
        let ends = subst C (written_is old.protocol home tid decision m.protocol) failed in
        let here = up_is stands old home past m up in
        let K : E → Type 0 = λ e. IsOfKind stands e home.engine in
        let goes : GoesOn home past (Ev.Give (To.Decide tid decision)) y = λ calls cut.
        decide_up home (trip_line calls cut ∷ past) tid decision here ∙ ap (unless_tripped home (trip_line calls cut ∷ past)) (decide_goes home past tid decision calls cut ∙ decide_settles home past tid decision held doubt) in
        let event : SiteEvent = Ev.Give (To.Decide tid decision) in
        let M : List (Call SiteRecord) → Type 0 = λ cs. HasCalledAtMost (0 + length cs) disk disk' in
        let line = give_calls home past (To.Decide tid decision) y (give_decide home past tid decision ∙ decide_settles home past tid decision held doubt) in
        breaks_up stands tells (0 + calls_for home past event) disk new disk' home past event y here goes ends down (subst K (sym (ap (λ (c : SiteCore E). c.engine) is)) (kind_at stands old home past m))
        (λ tx. ap (λ (c : SiteCore E). begun_in c.book tx) is ∙ m.begun tx) (ap (λ (c : SiteCore E). c.protocol) is ∙ m.protocol)
        (ended_once (Past.disk home past) tid decision (forces home.protocol decision)) m.once (subst M (written_is old.protocol home tid decision m.protocol ∙ sym line) called)
