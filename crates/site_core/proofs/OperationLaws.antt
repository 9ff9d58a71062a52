-- The lines of the operations of a subtransaction, the taking of its ticket among them, and what a core has in memory behind one.
use Rattle.std.proofs.Common.{◌≡◌, ℕ, ◌+◌, ◌≤◌, ◌==◌, not, ◌&&◌, ◌||◌, Bool, true, false, cond, is_some, Option, Some, None, List, [], ◌∷◌, ◌++◌, length, inr, refl, sym, ap, ap₂, ◌∙◌, subst}
use Rattle.std.specs.Prelude.{option_to_list}
use Rattle.std.specs.FinMap.{get}
use Rattle.std.proofs.lemmas.Bool.{cond-true, cond-false}
use Rattle.mdb_base.specs.declared.acts.PlainAct.{PlainAct}
use Rattle.mdb_base.specs.declared.names.Tid.{Tid}
use Rattle.mdb_base.specs.declared.names.Tx.{Tx}
use Rattle.mdb_base.specs.declared.replies.Reply.{Reply}
use Rattle.mdb_base.specs.declared.replies.Reply.TheVariants as Reply_is
use Rattle.mdb_base.specs.Names.{same_tid}
use Rattle.mdb_base.specs.Words.{given, map_some, or_else, when}
use Rattle.mdb_base.proofs.ForCallers.{same_tid-equal, same_tid-refl}
use Rattle.presumptions.specs.declared.Decision.{Decision}
use Rattle.fed_rules.specs.declared.answers.Answer.TheVariants as Say
use Rattle.fed_rules.specs.declared.events.SiteEvent.TheVariants as Ev
use Rattle.fed_rules.specs.declared.events.SiteStep.{SiteStep}
use Rattle.fed_rules.specs.declared.messages.FromSite.{FromSite}
use Rattle.fed_rules.specs.declared.messages.FromSite.TheVariants as From
use Rattle.fed_rules.specs.declared.messages.ToSite.{ToSite}
use Rattle.fed_rules.specs.declared.messages.ToSite.TheVariants as To
use Rattle.fed_rules.specs.EngineLines.{IsRight}
use Rattle.fed_rules.specs.Happenings.{is_down}
use Rattle.fed_rules.specs.Runs as Lines
use Rattle.fed_rules.specs.Runs.{EngineLine, Takes, Run, changed, took}
use Rattle.fed_rules.specs.Site.{answered, did, is_of_epoch, is_over, kept_reply, kept_reply_of, next_take, of_decide, of_give, of_prepare, of_take, of_work, repeated, reply_of_access, site_line, take_live, ticket_reply_to, unknown, unless_tripped}
use Rattle.fed_rules.specs.Site as Site
use Rattle.fed_rules.specs.SitePast.{SiteHappening, SitePast, decides_on, ends, engine_lines, epoch, epoch_start, is_closed, live, live_one, records}
use Rattle.fed_rules.specs.SiteRecords.{Home, local_of}
use Rattle.commit_laws.proofs.ForCallers.{Shut}
use Rattle.actor_store.specs.declared.store.Standing.TheVariants.{Up}
use Rattle.site_book.specs.declared.progress.Progress.{Progress}
use Rattle.site_book.specs.declared.progress.Progress.TheVariants as Is
use Rattle.site_book.specs.Noted.{Noted, done_in, noted_of}
use Rattle.site_book.specs.Book.{Book, begun_in, changed_in, committed_in, live_in, live_part, notes_take, on_live, progress_of, taken}
use Rattle.site_core.specs.Order.{IsInOrder}
use Rattle.site_book.proofs.ForCallers.{calls_well, get-changed_tid}
use Rattle.site_core.specs.declared.site.SiteCore.{SiteCore}
use Rattle.site_core.specs.Notes.{Notes, NotesPast}
use Rattle.site_core.specs.Operations.{replied_again, taken_again}
use Rattle.site_core.specs.Stands.{Adds, Holds}
use Rattle.site_core.proofs.LineLaws.{HasLive, live_some, noted_live}
use Rattle.site_core.proofs.NotesLaws.{committed_closes, ends_its_own, known_before, notes_change, notes_same, order_changed, order_closes}
use Rattle.site_core.proofs.RememberLaws.{IsPlain, is_up_at, remembers_line}
use Rattle.site_core.proofs.RuleWalks.{walk_take, walk_work}
use Rattle.site_core.proofs.UpLaws.{closed_one, closed_same, up_quiet_disk}

some_reply : (a b : Reply) → ◌≡◌ {A = Option Reply} (Some a) (Some b) → a ≡ b
some_reply a b s = cc

no_reply : (a : Reply) → ◌≡◌ {A = Option Reply} None (Some a) → ⊥
no_reply a s = cc

a_reply : (a : Reply) → ◌≡◌ {A = Option Reply} (Some a) None → ⊥
a_reply a s = cc

kept_noted : (ticket : Option ℕ) (acts : List Lines.Access) → kept_reply_of ticket acts ≡ or_else (map_some (λ t. Reply_is.Ticket t) ticket) (reply_of_access acts)
kept_noted (Some t) acts = refl
kept_noted None acts = refl

-- the reply to an operation of a live attempt that this test refuses, or that isn't the next one
abbrev again_by : Bool → ℕ → Noted → Option Reply
again_by refused n noted = cond refused (Some Reply_is.Unknown) (cond (n == done_in noted) None (Some (replied_again n noted)))

module _ (home : Home) (past : SitePast) (message : ToSite) (tid : Tid) (n : ℕ) where
  -- an operation of a live run that this test refuses, and whose line is this one where it is the next
  abbrev pub operation : Bool → SiteHappening → Run → SiteHappening
  operation refused next run = when refused (unknown home past message tid n) (when (n == Site.done run) next (repeated home past message tid n run))

  refused_one : (refused : Bool) (next : SiteHappening) (run : Run) → refused ≡ true → operation refused next run ≡ did home past message tid n Reply_is.Unknown []
  unfolding when unknown
  refused_one refused next run b = rw b refl

  next_one : (refused : Bool) (next : SiteHappening) (run : Run) → refused ≡ false → (n == Site.done run) ≡ true → operation refused next run ≡ next
  unfolding when
  next_one refused next run b f = rw (b, f) refl

  again_one : (refused : Bool) (next : SiteHappening) (run : Run) → refused ≡ false → (n == Site.done run) ≡ false → operation refused next run ≡ repeated home past message tid n run
  unfolding when
  again_one refused next run b f = rw (b, f) refl

  again_last : (run : Run) → (n + 1 == Site.done run) ≡ true → repeated home past message tid n run ≡ did home past message tid n (kept_reply run) []
  unfolding repeated when
  again_last run b = rw b refl

  again_unknown : (run : Run) → (n + 1 == Site.done run) ≡ false → repeated home past message tid n run ≡ did home past message tid n Reply_is.Unknown []
  unfolding repeated when unknown
  again_unknown run b = rw b refl

  -- what is answered with no engine line
  pub operation_says : (refused : Bool) (next : SiteHappening) (run : Run) (reply : Reply) → again_by refused n (noted_of run) ≡ Some reply
      → operation refused next run ≡ did home past message tid n reply []
  operation_says refused next run reply says = by_refused refused refl says where
    D : Reply → SiteHappening
    D r = did home past message tid n r []

    by_last : (b : Bool) → (n + 1 == Site.done run) ≡ b → Some (replied_again n (noted_of run)) ≡ Some reply → repeated home past message tid n run ≡ D reply
    by_last true f s = again_last run f ∙ ap D (kept_noted run.ticket run.acts ∙ sym (cond-true _ _ _ f) ∙ some_reply _ _ s)
    by_last false f s = again_unknown run f ∙ ap D (sym (cond-false _ _ _ f) ∙ some_reply _ _ s)

    by_next : (b : Bool) → (n == Site.done run) ≡ b → refused ≡ false → cond (n == Site.done run) None (Some (replied_again n (noted_of run))) ≡ Some reply → operation refused next run ≡ D reply
    by_next true f r s = absurd (no_reply reply (sym (cond-true _ _ _ f) ∙ s))
    by_next false f r s = again_one refused next run r f ∙ by_last (n + 1 == Site.done run) refl (sym (cond-false _ _ _ f) ∙ s)

    by_refused : (b : Bool) → refused ≡ b → again_by refused n (noted_of run) ≡ Some reply → operation refused next run ≡ D reply
    by_refused true f s = refused_one refused next run f ∙ ap D (some_reply _ _ (sym (cond-true _ _ _ f) ∙ s))
    by_refused false f s = by_next (n == Site.done run) refl f (sym (cond-false _ _ _ f) ∙ s)

  -- it is the next one where nothing is answered so
  pub operation_goes : (refused : Bool) (next : SiteHappening) (run : Run) → again_by refused n (noted_of run) ≡ None
      → (refused ≡ false) × ((n == Site.done run) ≡ true) × (operation refused next run ≡ next)
  operation_goes refused next run says = by_refused refused refl says where
    by_next : (b : Bool) → (n == Site.done run) ≡ b → refused ≡ false → cond (n == Site.done run) None (Some (replied_again n (noted_of run))) ≡ None
        → (refused ≡ false) × ((n == Site.done run) ≡ true) × (operation refused next run ≡ next)
    by_next true f r s = (r, f, next_one refused next run r f)
    by_next false f r s = absurd (a_reply _ (sym (cond-false _ _ _ f) ∙ s))

    by_refused : (b : Bool) → refused ≡ b → again_by refused n (noted_of run) ≡ None → (refused ≡ false) × ((n == Site.done run) ≡ true) × (operation refused next run ≡ next)
    by_refused true f s = absurd (a_reply Reply_is.Unknown (sym (cond-true _ _ _ f) ∙ s))
    by_refused false f s = by_next (n == Site.done run) refl f (sym (cond-false _ _ _ f) ∙ s)

-- what is said of the attempt in the book, by its epoch, is said of its live run
pub says_by : {A : Type 0} (f : Option Noted → ℕ → A) (book : Book) (home : Home) (past : SitePast) (tid : Tid) (noted : Option Noted) (here : ℕ) (result : A) → NotesPast book home past
    → noted ≡ live_in book tid → here ≡ epoch home past → result ≡ f noted here → f (map_some noted_of (live home past tid)) (epoch home past) ≡ result
says_by f book home past tid noted here result n is at says = sym (says ∙ ap₂ f (is ∙ noted_live book _ _ _ n.follows tid) at)

-- an attempt with a live run isn't over
pub not_over : (home : Home) (past : SitePast) (tid : Tid) (run : Run) → Shut home tid past → live home past tid ≡ Some run → is_over home past tid ≡ false
not_over home past tid run shut is = by_over (is_over home past tid) refl where
  by_over : (b : Bool) → is_over home past tid ≡ b → is_over home past tid ≡ false
  by_over false f = f
  by_over true f = let none : Some run ≡ None = sym is ∙ shut.over f in cc

module _ (home : Home) (past : SitePast) (tid : Tid) (e n : ℕ) where
  -- the taking isn't the next operation of the run, and not the last one again
  abbrev is_refused : Run → Bool
  is_refused run = not (is_of_epoch home past e n) || (is_some run.ticket && (n == Site.done run))

  take_over : is_over home past tid ≡ true → of_take home past tid e n ≡ did home past (To.Take tid e n) tid n Reply_is.Unknown []
  unfolding of_take when unknown
  take_over b = rw b refl

  take_none : is_over home past tid ≡ false → live home past tid ≡ None → of_take home past tid e n ≡ did home past (To.Take tid e n) tid n Reply_is.Unknown []
  unfolding of_take when given unknown
  take_none b f = rw (b, f) refl

  take_of_live : (run : Run) → is_over home past tid ≡ false → live home past tid ≡ Some run → of_take home past tid e n ≡ take_live home past (To.Take tid e n) tid e n run
  unfolding of_take when given
  take_of_live run b f = rw (b, f) refl

  take_is : (run : Run)
      → take_live home past (To.Take tid e n) tid e n run ≡ operation home past (To.Take tid e n) tid n (is_refused run) (next_take home past (To.Take tid e n) tid n run) run
  unfolding take_live
  take_is run = refl

  -- what is answered without taking the ticket
  pub take_says : (reply : Reply) → Shut home tid past → taken_again (map_some noted_of (live home past tid)) (epoch home past) e n ≡ Some reply
      → of_take home past tid e n ≡ did home past (To.Take tid e n) tid n reply []
  take_says reply shut says = by_over (is_over home past tid) refl (live home past tid) refl where
    D : Reply → SiteHappening
    D r = did home past (To.Take tid e n) tid n r []

    at : (o : Option Run) → live home past tid ≡ o → taken_again (map_some noted_of o) (epoch home past) e n ≡ Some reply
    at o is = sym (ap (λ (l : Option Run). taken_again (map_some noted_of l) (epoch home past) e n) is) ∙ says

    by_over : (b : Bool) → is_over home past tid ≡ b → (o : Option Run) → live home past tid ≡ o → of_take home past tid e n ≡ D reply
    by_over true f o is = take_over f ∙ ap D (some_reply _ _ (at None (shut.over f)))
    by_over false f None is = take_none f is ∙ ap D (some_reply _ _ (at None is))
    by_over false f (Some run) is =
        take_of_live run f is ∙ take_is run
        ∙ operation_says home past (To.Take tid e n) tid n (is_refused run) (next_take home past (To.Take tid e n) tid n run) run reply (at (Some run) is)

  -- the next operation is the taking of the ticket by a live run without one
  pub record TakesNext : Type 0 where
    pub run : Run
    pub live : live home past tid ≡ Some run
    pub ticketless : run.ticket ≡ None
    pub line : of_take home past tid e n ≡ next_take home past (To.Take tid e n) tid n run

  ticket_out : (o : Option ℕ) (a b : Bool) → (a || (is_some o && b)) ≡ false → b ≡ true → o ≡ None
  ticket_out None a b s t = refl
  ticket_out (Some k) true b s t = cc
  ticket_out (Some k) false b s t = cc

  pub take_goes : Shut home tid past → taken_again (map_some noted_of (live home past tid)) (epoch home past) e n ≡ None → TakesNext
  take_goes shut says = from (live home past tid) refl says where
    from : (o : Option Run) → live home past tid ≡ o → taken_again (map_some noted_of o) (epoch home past) e n ≡ None → TakesNext
    from None is s = absurd (a_reply Reply_is.Unknown s)
    from (Some run) is s =
        let (kept, last, goes) = operation_goes home past (To.Take tid e n) tid n (is_refused run) (next_take home past (To.Take tid e n) tid n run) run s in
        record { run = run; live = is; ticketless = ticket_out run.ticket _ _ kept last; line = take_of_live run (not_over home past tid run shut is) is ∙ take_is run ∙ goes }

-- what the reply to a taking leaves of which attempts are live
live_kept : (book : Book) (tid : Tid) (reply : Reply) (u : Tid) → is_some (live_part (get (changed_in tid (on_live (taken reply)) book.attempts) u)) ≡ is_some (live_in book u)
live_kept book tid reply u = ap (λ (p : Option Progress). is_some (live_part p)) (get-changed_tid book.attempts tid u (on_live (taken reply))) ∙ by_tid (same_tid tid u) refl where
  on_it : (p : Option Progress) → is_some (live_part (map_some (on_live (taken reply)) p)) ≡ is_some (live_part p)
  on_it None = refl
  on_it (Some (Is.Live noted)) = refl
  on_it (Some Is.Sealed) = refl
  on_it (Some Is.Closed) = refl

  by_tid : (b : Bool) → same_tid tid u ≡ b → is_some (live_part (cond (same_tid tid u) (map_some (on_live (taken reply)) (progress_of book tid)) (progress_of book u))) ≡ is_some (live_in book u)
  by_tid true e =
      ap (λ (p : Option Progress). is_some (live_part p)) (cond-true _ _ _ e) ∙ on_it (progress_of book tid)
      ∙ ap (λ (t : Tid). is_some (live_in book t)) (same_tid-equal tid u e)
  by_tid false e = ap (λ (p : Option Progress). is_some (live_part p)) (cond-false _ _ _ e)

order_takes : (book : Book) (tid : Tid) (reply : Reply) → IsInOrder book
    → IsInOrder (notes_take tid reply book) × ((tx : Tx) → committed_in (notes_take tid reply book) tx ≡ committed_in book tx) × ((tx : Tx) → begun_in (notes_take tid reply book) tx ≡ begun_in book tx)
order_takes book tid (Reply_is.Refused why) o = (order_closes book tid o, λ tx. committed_closes book tid o tx, λ tx. refl)
order_takes book tid (Reply_is.Wait by) o = (order_changed book _ refl refl (λ u. live_kept book tid (Reply_is.Wait by) u) o, λ tx. refl, λ tx. refl)
order_takes book tid (Reply_is.Ticket n) o = (order_changed book _ refl refl (λ u. live_kept book tid (Reply_is.Ticket n) u) o, λ tx. refl, λ tx. refl)
order_takes book tid Reply_is.Unknown o = (order_changed book _ refl refl (λ u. live_kept book tid Reply_is.Unknown u) o, λ tx. refl, λ tx. refl)
order_takes book tid (Reply_is.Value value) o = (order_changed book _ refl refl (λ u. live_kept book tid (Reply_is.Value value) u) o, λ tx. refl, λ tx. refl)
order_takes book tid Reply_is.Done o = (order_changed book _ refl refl (λ u. live_kept book tid Reply_is.Done u) o, λ tx. refl, λ tx. refl)

one_run : (a b : Run) → ◌≡◌ {A = Option Run} (Some a) (Some b) → a ≡ b
one_run a b e = cc

live_few : (run now : Run) → live_one (Some run) ≡ Some now → length run.acts ≤ 32 → length now.acts ≤ 32
live_few run now e few = by_test (is_some run.sealed) refl where
  by_test : (b : Bool) → is_some run.sealed ≡ b → length now.acts ≤ 32
  by_test true f = let bad : None ≡ Some now = sym (cond-true _ _ _ f) ∙ e in cc
  by_test false f = let is = one_run run now (sym (cond-false _ _ _ f) ∙ e) in subst (λ (r : Run). length r.acts ≤ 32) is few

took_few : (reply : Reply) (run now : Run) → live_one (took reply run) ≡ Some now → length run.acts ≤ 32 → length now.acts ≤ 32
took_few (Reply_is.Ticket n) run now e few = live_few (record run { ticket = Some n }) now e few
took_few (Reply_is.Refused why) run now e few = cc
took_few (Reply_is.Wait by) run now e few = live_few run now e few
took_few (Reply_is.Value value) run now e few = live_few run now e few
took_few Reply_is.Done run now e few = live_few run now e few
took_few Reply_is.Unknown run now e few = live_few run now e few

-- the engine's reply is the rule's for the live run
pub taken_by : (book : Book) (home : Home) (past : SitePast) (tid : Tid) (reply : Reply) (l : HasLive book home past tid) → IsRight (epoch_start home past) (Takes tid reply ∷ engine_lines past)
    → reply ≡ ticket_reply_to home past l.run
taken_by book home past tid reply l right =
    let (other, (lives, ruled)) = right.0 in
    let same : other ≡ l.run = one_run other l.run (sym lives.0 ∙ l.is.0) in
    ruled ∙ ap (λ (r : Run). ticket_reply_to home past r) same

-- the line of an operation
abbrev pub did_line : Home → SitePast → ToSite → Tid → ℕ → Reply → List EngineLine → SiteHappening
did_line home past message tid n reply lines =
    record { event = Ev.Give message; answer = Say.Did tid reply; sends = From.Did tid (epoch home past) n reply ∷ []; calls = []; lines = lines }

pub did_is : (home : Home) (past : SitePast) (message : ToSite) (tid : Tid) (n : ℕ) (reply : Reply) (lines : List EngineLine)
    → did home past message tid n reply lines ≡ did_line home past message tid n reply lines
unfolding did
did_is home past message tid n reply lines = refl

pub next_is : (home : Home) (past : SitePast) (tid : Tid) (e n : ℕ) (run : Run) (reply : Reply) → reply ≡ ticket_reply_to home past run
    → next_take home past (To.Take tid e n) tid n run ≡ did_line home past (To.Take tid e n) tid n reply (Takes tid reply ∷ [])
unfolding next_take did
next_is home past tid e n run reply is = ap (λ (r : Reply). did_line home past (To.Take tid e n) tid n r (Takes tid r ∷ [])) (sym is)

module _ {E : Type 0} (stands : E → Lines.Start → List EngineLine → Type 0) where
  -- an operation with these engine lines, which leaves this book
  pub operation_adds : (old new : SiteCore E) (home : Home) (past : SitePast) (message : ToSite) (tid : Tid) (n : ℕ) (reply : Reply) (lines : List EngineLine) (book : Book) (step : SiteStep)
      → Holds stands old home past → old.store.standing ≡ Up → new ≡ record old { engine = new.engine; book = book } → stands new.engine (epoch_start home past) (lines ++ engine_lines past)
      → Notes book (epoch_start home past) (lines ++ engine_lines past) (is_closed (did_line home past message tid n reply lines ∷ past)) (local_of (records home past))
      (did_line home past message tid n reply lines ∷ past)
      → ((tx : Tx) → begun_in book tx ≡ begun_in old.book tx)
      → step ≡ record { answer = Say.Did tid reply; sends = Some (From.Did tid new.epoch n reply) } → Adds stands step new home past (did_line home past message tid n reply lines)
  operation_adds old new home past message tid n reply lines book step h up is engine notes same_begun says =
      let m = h.memory in
      let u = is_up_at stands old home past m up in
      let x : SiteHappening = did_line home past message tid n reply lines in
      let p : IsPlain x = record { goes = refl; stays = refl; sets = refl } in
      let now : new.book ≡ book = ap (λ (c : SiteCore E). c.book) is in
      let N : Book → Type 0 = λ b. Notes b (epoch_start home past) (lines ++ engine_lines past) (is_closed (x ∷ past)) (local_of (records home past)) (x ∷ past) in
      let number : new.epoch ≡ old.epoch = ap (λ (c : SiteCore E). c.epoch) is in
      record {
        answer = ap (λ (s : SiteStep). s.answer) says;
        sends = ap (λ (s : SiteStep). option_to_list s.sends) says ∙ ap (λ (k : ℕ). let sent : List FromSite = From.Did tid k n reply ∷ [] in sent) (number ∙ u.epoch);
        memory = remembers_line stands old new home past x m up (ap (λ (c : SiteCore E). c.store) is) p refl
            (up_quiet_disk stands old new home past x p refl u engine (subst N (sym now) notes) (ap (λ (c : SiteCore E). c.doubts) is) number)
            (λ tx. ap (λ (b : Book). begun_in b tx) now ∙ same_begun tx ∙ m.begun tx) (ap (λ (c : SiteCore E). c.protocol) is);
      }

  -- one that has none
  pub did_adds : (core : SiteCore E) (home : Home) (past : SitePast) (message : ToSite) (tid : Tid) (n : ℕ) (reply : Reply) (step : SiteStep) → Holds stands core home past → core.store.standing ≡ Up
      → ((u : Tid) → decides_on u (Ev.Give message) ≡ false)
      → step ≡ record { answer = Say.Did tid reply; sends = Some (From.Did tid core.epoch n reply) } → Adds stands step core home past (did_line home past message tid n reply [])
  did_adds core home past message tid n reply step h up undecided says =
      let x : SiteHappening = did_line home past message tid n reply [] in
      let u = is_up_at stands core home past h.memory up in
      operation_adds core core home past message tid n reply [] core.book step h up refl u.engine
      (notes_same core.book (epoch_start home past) (epoch_start home past) (engine_lines past) (engine_lines past) (is_closed past) (is_closed (x ∷ past)) (local_of (records home past)) (local_of (records home past)) past x
      u.notes refl refl (λ t. closed_same past x t refl (undecided t) refl) (λ tx. refl))
      (λ tx. refl) says

  -- one that takes the ticket
  pub take_adds : (old new : SiteCore E) (home : Home) (past : SitePast) (tid : Tid) (e n : ℕ) (reply : Reply) (step : SiteStep) (l : HasLive old.book home past tid)
      → Holds stands old home past → old.store.standing ≡ Up
      → new ≡ record old { engine = new.engine; book = notes_take tid reply old.book } → stands new.engine (epoch_start home past) (Takes tid reply ∷ engine_lines past)
      → step ≡ record { answer = Say.Did tid reply; sends = Some (From.Did tid new.epoch n reply) }
      → Adds stands step new home past (did_line home past (To.Take tid e n) tid n reply (Takes tid reply ∷ []))
  take_adds old new home past tid e n reply step l h up is engine says =
      let u = is_up_at stands old home past h.memory up in
      let x : SiteHappening = did_line home past (To.Take tid e n) tid n reply (Takes tid reply ∷ []) in
      let lives : is_some (live_in old.book tid) ≡ true = ap is_some l.noted in
      let (order, committed, same_begun) = order_takes old.book tid reply u.notes.order in
      let closes_by : (v : Tid) → is_closed (x ∷ past) v ≡ (ends v (Takes tid reply) || is_closed past v) = λ v. closed_one past x (Takes tid reply) v refl refl refl in
      let follows = calls_well old.book (notes_take tid reply old.book) (epoch_start home past) (engine_lines past) (Takes tid reply) (is_closed past) (is_closed (x ∷ past)) u.notes.follows closes_by (lives, refl) in
      let notes : Notes (notes_take tid reply old.book) (epoch_start home past) (Takes tid reply ∷ engine_lines past) (is_closed (x ∷ past)) (local_of (records home past)) (x ∷ past) =
      notes_change old.book (notes_take tid reply old.book) (epoch_start home past) (engine_lines past) (Takes tid reply ∷ engine_lines past) (is_closed past) (is_closed (x ∷ past)) (local_of (records home past)) (local_of (records home past)) past x tid
      u.notes follows order (λ tx. committed tx ∙ u.notes.committed_is tx)
      (λ v f. cond-false _ _ _ f) (λ v f. closes_by v ∙ ap (λ b. b || is_closed past v) (ends_its_own (Takes tid reply) v f))
      (known_before x past tid (u.notes.known tid (inr (ap is_some l.live))))
      (λ run f. took_few reply l.run run (sym (ap live_one (cond-true _ _ _ (same_tid-refl tid) ∙ ap (changed (Takes tid reply)) l.is.0)) ∙ f) (u.notes.few tid l.run l.live)) in
      operation_adds old new home past (To.Take tid e n) tid n reply (Takes tid reply ∷ []) (notes_take tid reply old.book) step h up is engine notes same_begun says

-- the line of a site that is up
pub give_up_line : (home : Home) (past : SitePast) (message : ToSite) → is_down past ≡ false → site_line home past (Ev.Give message) ≡ unless_tripped home past (of_give home past message)
unfolding site_line answered when
give_up_line home past message u = rw u refl

-- the book has the run whose next operation is the taking
pub next_live : (book : Book) (home : Home) (past : SitePast) (tid : Tid) (e n : ℕ) → NotesPast book home past → TakesNext home past tid e n → HasLive book home past tid
next_live book home past tid e n notes t =
    live_some book home past tid notes (ap is_some (noted_live book _ _ _ notes.follows tid ∙ ap (map_some noted_of) t.live))

pub next_ticketless : (book : Book) (home : Home) (past : SitePast) (tid : Tid) (e n : ℕ) (l : HasLive book home past tid) (t : TakesNext home past tid e n) → l.run.ticket ≡ None
next_ticketless book home past tid e n l t = ap (λ (r : Run). r.ticket) (one_run l.run t.run (sym l.live ∙ t.live)) ∙ t.ticketless

pub next_line : (book : Book) (home : Home) (past : SitePast) (tid : Tid) (e n : ℕ) (l : HasLive book home past tid) (t : TakesNext home past tid e n)
    → of_take home past tid e n ≡ next_take home past (To.Take tid e n) tid n l.run
next_line book home past tid e n l t = t.line ∙ ap (λ (r : Run). next_take home past (To.Take tid e n) tid n r) (one_run t.run l.run (sym t.live ∙ l.live))

pub give_work : (home : Home) (past : SitePast) (tid : Tid) (e n : ℕ) (act : PlainAct) → of_give home past (To.Work tid e n act) ≡ of_work home past tid e n act
unfolding of_give
give_work home past tid e n act = refl

pub give_take : (home : Home) (past : SitePast) (tid : Tid) (e n : ℕ) → of_give home past (To.Take tid e n) ≡ of_take home past tid e n
unfolding of_give
give_take home past tid e n = refl

pub give_prepare : (home : Home) (past : SitePast) (tid : Tid) (e n : ℕ) → of_give home past (To.Prepare tid e n) ≡ of_prepare home past tid e n
unfolding of_give
give_prepare home past tid e n = refl

pub give_decide : (home : Home) (past : SitePast) (tid : Tid) (decision : Decision) → of_give home past (To.Decide tid decision) ≡ of_decide home past tid decision
unfolding of_give
give_decide home past tid decision = refl

-- acts and takings call no disk
pub work_quiet : (home : Home) (past : SitePast) (tid : Tid) (e n : ℕ) (act : PlainAct) → (of_work home past tid e n act).calls ≡ []
work_quiet home past tid e n act = walk_work (λ x. x.calls ≡ []) home past tid e n act (λ a s l. refl)

pub take_quiet : (home : Home) (past : SitePast) (tid : Tid) (e n : ℕ) → (of_take home past tid e n).calls ≡ []
take_quiet home past tid e n = walk_take (λ x. x.calls ≡ []) home past tid e n (λ a s l. refl)
