-- The line of an act of a subtransaction, and what a core has in memory behind it.
use Rattle.std.proofs.Common.{◌≡◌, ℕ, ◌+◌, ◌≤◌, ◌<◌, ◌==◌, not, ◌&&◌, ◌||◌, Bool, true, false, cond, is_some, IsSome, Option, Some, None, List, [], ◌∷◌, length, inr, refl, sym, ap, ◌∙◌, arith}
use Rattle.std.specs.Prelude.{nat_lt}
use Rattle.std.specs.FinMap.{get}
use Rattle.std.proofs.lemmas.Bool.{cond-true, cond-false, eqb-true, ltb-false, ne_eqb}
use Rattle.mdb_base.specs.declared.acts.PlainAct.{PlainAct}
use Rattle.mdb_base.specs.declared.names.Tid.{Tid}
use Rattle.mdb_base.specs.declared.names.Tx.{Tx}
use Rattle.mdb_base.specs.declared.replies.Reply.{Reply}
use Rattle.mdb_base.specs.declared.replies.Reply.TheVariants as Reply_is
use Rattle.mdb_base.specs.Names.{same_tid}
use Rattle.mdb_base.specs.Words.{given, map_some, when}
use Rattle.mdb_base.proofs.ForCallers.{or_false, same_tid-equal, same_tid-refl, same_tx-refl}
use Rattle.fed_rules.specs.declared.answers.Answer.TheVariants as Say
use Rattle.fed_rules.specs.declared.events.SiteStep.{SiteStep}
use Rattle.fed_rules.specs.declared.messages.FromSite.TheVariants as From
use Rattle.fed_rules.specs.declared.messages.ToSite.TheVariants as To
use Rattle.fed_rules.specs.EngineLines.{IsRight}
use Rattle.fed_rules.specs.Replies.{access_reply}
use Rattle.fed_rules.specs.Runs as Lines
use Rattle.fed_rules.specs.Runs.{EngineLine, Acts, Begins, Run, Start, begun, changed, is_sealed, run_at}
use Rattle.fed_rules.specs.Site.{did, first_work, is_of_epoch, is_over, next_number, next_work, of_work, reply_to, unknown, work_live}
use Rattle.fed_rules.specs.Site as Site
use Rattle.fed_rules.specs.SitePast.{SiteHappening, SitePast, ends, engine_lines, epoch, epoch_start, is_closed, live, live_one, records}
use Rattle.fed_rules.specs.SiteRecords.{Held, Home, doubt_of, local_of}
use Rattle.commit_laws.proofs.ForCallers.{Shut}
use Rattle.site_history.specs.Lines.{Agrees}
use Rattle.actor_store.specs.declared.store.Standing.TheVariants.{Up}
use Rattle.site_book.specs.declared.progress.Progress.{Progress}
use Rattle.site_book.specs.declared.progress.Progress.TheVariants as Is
use Rattle.site_book.specs.Noted.{fresh, noted_of}
use Rattle.site_book.specs.Book.{Book, begins_global, begun_in, committed_in, count_of, live_in, live_part, notes_reply, progress_of, running_in}
use Rattle.site_book.specs.Follows.{Follows, progress_by}
use Rattle.site_book.proofs.ForCallers.{calls_well, get-put_tid}
use Rattle.site_core.specs.declared.site.SiteCore.{SiteCore}
use Rattle.site_core.specs.Made.{IsGoingOn, was_global, was_local}
use Rattle.site_core.specs.Notes.{Notes, NotesPast}
use Rattle.site_core.specs.Operations.{worked_again}
use Rattle.site_core.specs.Order.{IsInOrder}
use Rattle.site_core.specs.Stands.{Adds, Holds}
use Rattle.site_core.proofs.BegunLaws.{none_begun}
use Rattle.site_core.proofs.LineLaws.{HasLive}
use Rattle.site_core.proofs.LocalLaws.{order_replies}
use Rattle.site_core.proofs.MadeLaws.{made_right}
use Rattle.site_core.proofs.NotesLaws.{IsKnown, ends_its_own, known_before, notes_change}
use Rattle.site_core.proofs.OperationLaws.{did_line, not_over, operation, operation_adds, operation_goes, operation_says}
use Rattle.site_core.proofs.RememberLaws.{is_up_at}
use Rattle.site_core.proofs.UpLaws.{acted_few, closed_by, closed_one}

module _ (home : Home) (past : SitePast) (tid : Tid) (e n : ℕ) (act : PlainAct) where
  -- the act isn't the next operation of the run
  abbrev is_refused : Run → Bool
  is_refused run = not (is_of_epoch home past e n) || is_some run.ticket || nat_lt 31 n

  pub work_over : is_over home past tid ≡ true → of_work home past tid e n act ≡ did home past (To.Work tid e n act) tid n Reply_is.Unknown []
  unfolding of_work when unknown
  work_over b = rw b refl

  -- of an attempt that isn't live only the first act is one
  pub work_none : live home past tid ≡ None → ((e == 0) && (n == 0)) ≡ false → of_work home past tid e n act ≡ did home past (To.Work tid e n act) tid n Reply_is.Unknown []
  unfolding of_work when given unknown
  work_none none later = by_over (is_over home past tid) refl where
    by_over : (b : Bool) → is_over home past tid ≡ b → of_work home past tid e n act ≡ did home past (To.Work tid e n act) tid n Reply_is.Unknown []
    by_over true f = work_over f
    by_over false f = rw (f, none, later) refl

  pub work_first : is_over home past tid ≡ false → live home past tid ≡ None → ((e == 0) && (n == 0)) ≡ true → of_work home past tid e n act ≡ first_work home past (To.Work tid e n act) tid n act
  unfolding of_work when given
  work_first b none first = rw (b, none, first) refl

  work_of_live : (run : Run) → is_over home past tid ≡ false → live home past tid ≡ Some run → of_work home past tid e n act ≡ work_live home past (To.Work tid e n act) tid e n act run
  unfolding of_work when given
  work_of_live run b f = rw (b, f) refl

  work_is : (run : Run)
      → work_live home past (To.Work tid e n act) tid e n act run
      ≡ operation home past (To.Work tid e n act) tid n (is_refused run) (next_work home past (To.Work tid e n act) tid n act run) run
  unfolding work_live
  work_is run = refl

  some_again : (run : Run) → live home past tid ≡ Some run → worked_again (map_some noted_of (live home past tid)) (epoch home past) e n ≡ worked_again (Some (noted_of run)) (epoch home past) e n
  some_again run is = ap (λ (l : Option Run). worked_again (map_some noted_of l) (epoch home past) e n) is

  -- what is answered to a live one without an access
  pub work_says : (run : Run) (reply : Reply) → Shut home tid past → live home past tid ≡ Some run → worked_again (map_some noted_of (live home past tid)) (epoch home past) e n ≡ Some reply
      → of_work home past tid e n act ≡ did home past (To.Work tid e n act) tid n reply []
  work_says run reply shut is says =
      work_of_live run (not_over home past tid run shut is) is ∙ work_is run
      ∙ operation_says home past (To.Work tid e n act) tid n (is_refused run) (next_work home past (To.Work tid e n act) tid n act run) run reply (sym (some_again run is) ∙ says)

  -- the next operation is an access of a live run with fewer than 32 finished ones
  pub record WorksNext (run : Run) : Type 0 where
    pub few : length run.acts < 32
    pub line : of_work home past tid e n act ≡ next_work home past (To.Work tid e n act) tid n act run

  last_false : (a b c : Bool) → (a || b || c) ≡ false → c ≡ false
  last_false true b c f = cc
  last_false false true c f = cc
  last_false false false c f = f

  pub work_goes : (run : Run) → Shut home tid past → live home past tid ≡ Some run → worked_again (map_some noted_of (live home past tid)) (epoch home past) e n ≡ None → WorksNext run
  work_goes run shut is says =
      let (kept, last, goes) =
      operation_goes home past (To.Work tid e n act) tid n (is_refused run) (next_work home past (To.Work tid e n act) tid n act run) run (sym (some_again run is) ∙ says) in
      let count : n ≡ length run.acts + cond (is_some run.ticket) 1 0 = eqb-true n (Site.done run) last in
      let small : n ≤ 31 = ltb-false 31 n (last_false (not (is_of_epoch home past e n)) (is_some run.ticket) (nat_lt 31 n) kept) in
      record { few = omega (arith, count, small); line = work_of_live run (not_over home past tid run shut is) is ∙ work_is run ∙ goes }

  pub next_is : (run : Run) (reply : Reply) → reply ≡ reply_to home past run act
      → next_work home past (To.Work tid e n act) tid n act run ≡ did_line home past (To.Work tid e n act) tid n reply (Acts tid act reply ∷ [])
  unfolding next_work did
  next_is run reply is = ap (λ (r : Reply). did_line home past (To.Work tid e n act) tid n r (Acts tid act r ∷ [])) (sym is)

  -- the engine's number and its reply are the rule's for the run that begins
  pub first_is : (number : ℕ) (reply : Reply) → IsRight (epoch_start home past) (Acts tid act reply ∷ Begins tid number ∷ engine_lines past)
      → first_work home past (To.Work tid e n act) tid n act ≡ did_line home past (To.Work tid e n act) tid n reply (Acts tid act reply ∷ Begins tid number ∷ [])
  unfolding first_work did
  first_is number reply right =
      let (run, (lives, ruled)) = right.0 in
      let drawn : number ≡ next_number home past = right.1.0.1 in
      let begins : run_at (epoch_start home past) (Begins tid number ∷ engine_lines past) tid ≡ Some (begun tid number) = cond-true _ _ _ (same_tid-refl tid) in
      let same : run ≡ begun tid number = one_run run (begun tid number) (sym lives.0 ∙ begins) in
      let is : reply ≡ access_reply (epoch_start home past) (Begins tid number ∷ engine_lines past) (begun tid number) act =
      ruled ∙ ap (λ (r : Run). access_reply (epoch_start home past) (Begins tid number ∷ engine_lines past) r act) same in
      let L : ℕ → Reply → SiteHappening = λ m r. did_line home past (To.Work tid e n act) tid n r (Acts tid act r ∷ Begins tid m ∷ []) in
      sym (ap (L number) is ∙ ap (λ (m : ℕ). L m (access_reply (epoch_start home past) (Begins tid m ∷ engine_lines past) (begun tid m) act)) drawn)
    where
      one_run : (a b : Run) → ◌≡◌ {A = Option Run} (Some a) (Some b) → a ≡ b
      one_run a b s = cc

-- an attempt with an entry that isn't live is over
pub entered_over : (book : Book) (home : Home) (past : SitePast) (tid : Tid) → NotesPast book home past → IsGoingOn home past → is_some (progress_of book tid) ≡ true → live_in book tid ≡ None
    → is_over home past tid ≡ true
entered_over book home past tid n made entered none =
    from (run_at (epoch_start home past) (engine_lines past) tid) (is_closed past tid) (doubt_of (records home past) tid) (sym (ap is_some (n.follows.attempts tid)) ∙ entered) (sym (ap live_part (n.follows.attempts tid)) ∙ none)
    ((made_right home past made).sealed tid)
  where
    from : (o : Option Run) (c : Bool) (d : Option Held) → is_some (progress_by o c) ≡ true → live_part (progress_by o c) ≡ None → Agrees d o → (c || is_some d) ≡ true
    from None true d e l a = refl
    from None false d e l a = cc
    from (Some run) true d e l a = refl
    from (Some run) false (Some held) e l a = refl
    from (Some run) false None e l a = let lives : live_part (progress_by (Some run) false) ≡ Some (noted_of run) = ap (λ (b : Bool). live_part (Some (cond b Is.Sealed (Is.Live (noted_of run))))) (ap is_some a) in cc

-- and one without an entry isn't
pub unentered : (book : Book) (home : Home) (past : SitePast) (tid : Tid) → NotesPast book home past → IsGoingOn home past → progress_of book tid ≡ None
    → (is_over home past tid ≡ false) × (live home past tid ≡ None) × (run_at (epoch_start home past) (engine_lines past) tid ≡ None)
unentered book home past tid n made none =
    from (run_at (epoch_start home past) (engine_lines past) tid) (is_closed past tid) (doubt_of (records home past) tid) (sym (n.follows.attempts tid) ∙ none) ((made_right home past made).sealed tid)
  where
    from : (o : Option Run) (c : Bool) (d : Option Held) → progress_by o c ≡ None → Agrees d o → ((c || is_some d) ≡ false) × (live_one o ≡ None) × (o ≡ None)
    from None true d e a = cc
    from None false None e a = (refl, refl, refl)
    from None false (Some held) e a = absurd a
    from (Some run) c d e a = cc

-- an act that isn't the first one
pub is_later : (e n : ℕ) → (n ≡ 0 → ⊥) → ((e == 0) && (n == 0)) ≡ false
is_later e n later = ap (λ (b : Bool). (e == 0) && b) (ne_eqb n 0 later) ∙ by_epoch (e == 0) where
  by_epoch : (b : Bool) → (b && false) ≡ false
  by_epoch true = refl
  by_epoch false = refl

pub is_elsewhere : (e n : ℕ) → (e ≡ 0 → ⊥) → ((e == 0) && (n == 0)) ≡ false
is_elsewhere e n other = ap (λ (b : Bool). b && (n == 0)) (ne_eqb e 0 other)

-- what begins is live in the book
pub begins_live : (book : Book) (tid : Tid) → live_in (begins_global tid book) tid ≡ Some fresh
begins_live book tid = ap live_part (get-put_tid book.attempts tid tid (Is.Live fresh) ∙ cond-true _ _ _ (same_tid-refl tid))

-- a global attempt begins
order_enters : (book : Book) (tid : Tid) → IsInOrder book → begun_in book tid.tx ≡ 0 → IsInOrder (begins_global tid book)
order_enters book tid o uncounted = record {
  own = o.own;
  live = (λ tx t e. lives_now t (same_tid tid t) refl (o.live tx t e));
  running = (λ u lives again. running u (same_tid tid u) refl lives again);
  counted = o.counted;
} where
  at : (u : Tid) → is_some (live_in (begins_global tid book) u) ≡ is_some (live_part (cond (same_tid tid u) (Some (Is.Live fresh)) (progress_of book u)))
  at u = ap (λ (p : Option Progress). is_some (live_part p)) (get-put_tid book.attempts tid u (Is.Live fresh))

  lives_now : (t : Tid) (b : Bool) → same_tid tid t ≡ b → IsSome (live_in book t) → IsSome (live_in (begins_global tid book) t)
  lives_now t true e l = at t ∙ ap (λ (p : Option Progress). is_some (live_part p)) (cond-true _ _ _ e)
  lives_now t false e l = at t ∙ ap (λ (p : Option Progress). is_some (live_part p)) (cond-false _ _ _ e) ∙ l

  not_counted : (c : Option ℕ) → count_of c ≡ 0 → IsSome c → ⊥
  not_counted None e there = cc
  not_counted (Some k) e there = absurd (omega (arith, e))

  running : (u : Tid) (b : Bool) → same_tid tid u ≡ b → IsSome (live_in (begins_global tid book) u) → IsSome (get book.again u.tx) → running_in book u.tx ≡ Some u
  running u true e lives again = absurd (not_counted (get book.again u.tx) (ap (λ (t : Tid). begun_in book t.tx) (sym (same_tid-equal tid u e)) ∙ uncounted) again)
  running u false e lives again = o.running u (sym (at u ∙ ap (λ (p : Option Progress). is_some (live_part p)) (cond-false _ _ _ e)) ∙ lives) again

-- an answered access of a run, where the book and the lines came to it from a past by this attempt alone
acted_notes : (old book : Book) (start : Start) (lines older : List EngineLine) (closed closed' : Tid → Bool) (committed : Tx → Option Tid) (past : SitePast) (x : SiteHappening) (tid : Tid) (act : PlainAct)
    (reply : Reply) (run : Run)
    → Notes old start lines closed committed past → Follows book start older closed → IsInOrder book → ((tx : Tx) → committed_in book tx ≡ committed_in old tx) → is_some (live_in book tid) ≡ true
    → ((u : Tid) → same_tid tid u ≡ false → run_at start older u ≡ run_at start lines u) → run_at start older tid ≡ Some run → length run.acts < 32
    → ((u : Tid) → closed' u ≡ (ends u (Acts tid act reply) || closed u)) → IsKnown tid (x ∷ past)
    → Notes (notes_reply tid act reply book) start (Acts tid act reply ∷ older) closed' committed (x ∷ past)
acted_notes old book start lines older closed closed' committed past x tid act reply run n follows order same_committed lives others is few closes known =
    let (ordered, kept, counts) = order_replies book tid act reply order lives in
    notes_change old (notes_reply tid act reply book) start lines (Acts tid act reply ∷ older) closed closed' committed committed past x tid n
    (calls_well book (notes_reply tid act reply book) start older (Acts tid act reply) closed closed' follows closes (lives, refl)) ordered
    (λ tx. kept tx ∙ same_committed tx ∙ n.committed_is tx) (λ u f. cond-false _ _ _ f ∙ others u f)
    (λ u f. closes u ∙ ap (λ b. b || closed u) (ends_its_own (Acts tid act reply) u f)) known
    (λ now f. acted_few reply act run now (sym (ap live_one (cond-true _ _ _ (same_tid-refl tid) ∙ ap (changed (Acts tid act reply)) is)) ∙ f) few)

-- the first access of an attempt that begins
first_notes : (book : Book) (start : Start) (lines : List EngineLine) (closed closed' : Tid → Bool) (committed : Tx → Option Tid) (past : SitePast) (x : SiteHappening) (tid : Tid) (number : ℕ) (act : PlainAct)
    (reply : Reply)
    → Notes book start lines closed committed past → begun_in book tid.tx ≡ 0 → ((u : Tid) → closed' u ≡ (ends u (Acts tid act reply) || closed u)) → IsKnown tid (x ∷ past)
    → Notes (notes_reply tid act reply (begins_global tid book)) start (Acts tid act reply ∷ Begins tid number ∷ lines) closed' committed (x ∷ past)
first_notes book start lines closed closed' committed past x tid number act reply n uncounted closes known =
    acted_notes book (begins_global tid book) start lines (Begins tid number ∷ lines) closed closed' committed past x tid act reply (begun tid number) n
    (calls_well book (begins_global tid book) start lines (Begins tid number) closed closed n.follows (λ u. refl) refl) (order_enters book tid n.order uncounted) (λ tx. refl)
    (ap is_some (begins_live book tid)) (λ u f. cond-false _ _ _ f) (cond-true _ _ _ (same_tid-refl tid)) (omega arith) closes known

module _ {E : Type 0} (stands : E → Lines.Start → List EngineLine → Type 0) where
  -- an answered access of a live attempt
  pub work_adds : (old new : SiteCore E) (home : Home) (past : SitePast) (tid : Tid) (e n : ℕ) (act : PlainAct) (reply : Reply) (step : SiteStep) (l : HasLive old.book home past tid)
      → Holds stands old home past → old.store.standing ≡ Up → length l.run.acts < 32
      → new ≡ record old { engine = new.engine; book = notes_reply tid act reply old.book } → stands new.engine (epoch_start home past) (Acts tid act reply ∷ engine_lines past)
      → step ≡ record { answer = Say.Did tid reply; sends = Some (From.Did tid new.epoch n reply) }
      → Adds stands step new home past (did_line home past (To.Work tid e n act) tid n reply (Acts tid act reply ∷ []))
  work_adds old new home past tid e n act reply step l h up few is engine says =
      let u = is_up_at stands old home past h.memory up in
      let x : SiteHappening = did_line home past (To.Work tid e n act) tid n reply (Acts tid act reply ∷ []) in
      let lives : is_some (live_in old.book tid) ≡ true = ap is_some l.noted in
      operation_adds stands old new home past (To.Work tid e n act) tid n reply (Acts tid act reply ∷ []) (notes_reply tid act reply old.book) step h up is engine
      (acted_notes old.book old.book (epoch_start home past) (engine_lines past) (engine_lines past) (is_closed past) (is_closed (x ∷ past)) (local_of (records home past)) past x tid act reply l.run
      u.notes u.notes.follows u.notes.order (λ tx. refl) lives (λ v f. refl) l.is.0 few (λ v. closed_one past x (Acts tid act reply) v refl refl refl)
      (known_before x past tid (u.notes.known tid (inr (ap is_some l.live)))))
      (order_replies old.book tid act reply u.notes.order lives).2 says

  -- the first one of a subtransaction that begins
  pub first_adds : (old new : SiteCore E) (home : Home) (past : SitePast) (tid : Tid) (e n number : ℕ) (act : PlainAct) (reply : Reply) (step : SiteStep)
      → Holds stands old home past → old.store.standing ≡ Up → was_local tid.tx past ≡ false
      → new ≡ record old { engine = new.engine; book = notes_reply tid act reply (begins_global tid old.book) }
      → stands new.engine (epoch_start home past) (Acts tid act reply ∷ Begins tid number ∷ engine_lines past)
      → step ≡ record { answer = Say.Did tid reply; sends = Some (From.Did tid new.epoch n reply) }
      → Adds stands step new home past (did_line home past (To.Work tid e n act) tid n reply (Acts tid act reply ∷ Begins tid number ∷ []))
  first_adds old new home past tid e n number act reply step h up apart is engine says =
      let u = is_up_at stands old home past h.memory up in
      let x : SiteHappening = did_line home past (To.Work tid e n act) tid n reply (Acts tid act reply ∷ Begins tid number ∷ []) in
      let uncounted : begun_in old.book tid.tx ≡ 0 = h.memory.begun tid.tx ∙ none_begun home past tid.tx h.made apart in
      operation_adds stands old new home past (To.Work tid e n act) tid n reply (Acts tid act reply ∷ Begins tid number ∷ []) (notes_reply tid act reply (begins_global tid old.book)) step h up is engine
      (first_notes old.book (epoch_start home past) (engine_lines past) (is_closed past) (is_closed (x ∷ past)) (local_of (records home past)) past x tid number act reply u.notes uncounted
      (λ v. closed_by past x v refl refl ∙ ap (λ b. b || is_closed past v) (or_false (ends v (Acts tid act reply)))) (inr (ap (λ b. b || was_global tid.tx past) (same_tx-refl tid.tx))))
      (order_replies (begins_global tid old.book) tid act reply (order_enters old.book tid u.notes.order uncounted) (ap is_some (begins_live old.book tid))).2 says
