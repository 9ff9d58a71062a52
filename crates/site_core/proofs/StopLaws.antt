-- What a failed disk call leaves is what a stop leaves that events make; and what a halt and a trip that is set leave.
use Rattle.std.proofs.Common.{◌≡◌, ℕ, zero, suc, ◌+◌, ◌≤◌, ◌⊎◌, ◌||◌, min, Bool, true, false, not, Option, None, Err, List, [], ◌∷◌, ◌++◌, length, take, inl, inr, refl, sym, ap, ap₂, ◌∙◌, subst, arith}
use Rattle.std.specs.Prelude.{option_to_list}
use Rattle.std.proofs.lemmas.Bool.{cond-false, ne_eqb}
use Rattle.mdb_base.specs.declared.names.Tid.{Tid}
use Rattle.mdb_base.specs.declared.names.Tx.{Tx}
use Rattle.mdb_base.specs.Words.{map_some, when}
use Rattle.fed_rules.specs.declared.answers.Answer.{Answer}
use Rattle.fed_rules.specs.declared.answers.Answer.TheVariants as Say
use Rattle.fed_rules.specs.declared.events.SiteEvent.{SiteEvent}
use Rattle.fed_rules.specs.declared.events.SiteEvent.TheVariants as Ev
use Rattle.fed_rules.specs.declared.events.SiteStep.{SiteStep}
use Rattle.fed_rules.specs.declared.records.SiteRecord.{SiteRecord}
use Rattle.fed_rules.specs.Disk.{Call, Stops, Disk, after_call, after_calls, bytes_of, oldest_lost, whole}
use Rattle.fed_rules.specs.Happenings.{comes_up, is_down, quiet, set, stopped, stops}
use Rattle.fed_rules.specs.Runs as Lines
use Rattle.fed_rules.specs.Runs.{EngineLine}
use Rattle.fed_rules.specs.Site.{site_line, unless_tripped}
use Rattle.fed_rules.specs.SitePast.{SiteHappening, SitePast, attempts_of, begins_tx, engine_lines, epoch_start, is_closed, trip_of}
use Rattle.fed_rules.specs.SitePast as Past
use Rattle.fed_rules.specs.SiteRecords.{Home, local_of, site_frame, start_of}
use Rattle.journal_disk.specs.Disk.{HasCalledAtMost, Seen}
use Rattle.journal_disk.proofs.ForCallers.{no_call}
use Rattle.actor_store.specs.declared.errors.StepErr.TheVariants as Err_is
use Rattle.actor_store.specs.declared.store.Break.TheVariants.{Failed}
use Rattle.actor_store.specs.declared.store.SetTrip.{SetTrip}
use Rattle.actor_store.specs.declared.store.Standing.{Standing}
use Rattle.actor_store.specs.declared.store.Standing.TheVariants.{Up, Down, Failing}
use Rattle.actor_store.specs.Store.{IsArmed, StopsWith, is_up, trip_of_rules, trip_to}
use Rattle.actor_store.proofs.ForCallers.{from_later, from_trip, trip_to-armed, trip_to-rules, used_none}
use Rattle.site_book.specs.Book.{begun_in}
use Rattle.site_core.specs.declared.site.SiteCore.{SiteCore}
use Rattle.site_core.specs.Stands.{Answers, Before, Breaks, Carries, IsIn, IsOfKind, IsStopped, IsUp, Stands, StopAt, Within, stopped_past}
use Rattle.site_core.specs.Recovered.{LocalsOnce}
use Rattle.site_core.specs.Made.{opens, was_found}
use Rattle.site_core.specs.Store.{Ends, Keeps, Store}
use Rattle.site_core.proofs.CalledLaws.{called_quiet}
use Rattle.site_core.proofs.NotesLaws.{notes_same}
use Rattle.site_core.proofs.OnceLaws.{AppendsOnce, once_stopped}
use Rattle.site_core.proofs.UpLaws.{closed_same}
use Rattle.fed_rules.proofs.ForCallers.{none_lost}
use Rattle.site_history.proofs.ForCallers.{whole-all}
use Rattle.site_core.proofs.RememberLaws.{answers_as, carries_stop, down_is, kept_records, kind_at, stop_line, trips_is, up_is}

-- the line of a trip that is set
abbrev pub trip_line : ℕ → ℕ → SiteHappening
trip_line calls cut = quiet (Ev.Trip calls cut) Say.Set

pub trip_is : (home : Home) (past : SitePast) (calls cut : ℕ) → site_line home past (Ev.Trip calls cut) ≡ trip_line calls cut
unfolding site_line
trip_is home past calls cut = refl

pub halt_up : (home : Home) (past : SitePast) (cut : ℕ) → is_down past ≡ false → site_line home past (Ev.Halt cut) ≡ stop_line home past (Ev.Halt cut) (Stops cut ∷ [])
unfolding site_line when stopped
halt_up home past cut u = rw u refl

pub halt_down : (home : Home) (past : SitePast) (cut : ℕ) → is_down past ≡ true → site_line home past (Ev.Halt cut) ≡ quiet (Ev.Halt cut) Say.Down
unfolding site_line when
halt_down home past cut d = rw d refl

-- a site that is down answers so to each event but a trip and a start
pub down_line : (home : Home) (past : SitePast) (event : SiteEvent) → ((calls cut : ℕ) → event ≡ Ev.Trip calls cut → ⊥) → (event ≡ Ev.Back → ⊥) → is_down past ≡ true
    → (site_line home past event ≡ quiet event Say.Down) × (trip_of event ≡ None)
unfolding site_line when
down_line home past (Ev.Begin tid) not_trip not_back d = (rw d refl, refl)
down_line home past (Ev.Act tid act) not_trip not_back d = (rw d refl, refl)
down_line home past (Ev.Commit tid) not_trip not_back d = (rw d refl, refl)
down_line home past (Ev.Abort tid) not_trip not_back d = (rw d refl, refl)
down_line home past (Ev.Fate tx) not_trip not_back d = (rw d refl, refl)
down_line home past (Ev.Give message) not_trip not_back d = (rw d refl, refl)
down_line home past (Ev.Ask tid) not_trip not_back d = (rw d refl, refl)
down_line home past (Ev.Drop tid) not_trip not_back d = (rw d refl, refl)
down_line home past (Ev.Halt cut) not_trip not_back d = (rw d refl, refl)
down_line home past Ev.Check not_trip not_back d = (rw d refl, refl)
down_line home past (Ev.Trip calls cut) not_trip not_back d = absurd (not_trip calls cut refl)
down_line home past Ev.Back not_trip not_back d = absurd (not_back refl)

-- a stop before the event, of a site that is up or down, and within it
before_up : (home : Home) (past : SitePast) (event : SiteEvent) (cut : ℕ) → is_down past ≡ false
    → stopped_past home past event (Before cut) ≡ stop_line home (trip_line 0 0 ∷ past) (Ev.Halt cut) (Stops cut ∷ []) ∷ trip_line 0 0 ∷ past
before_up home past event cut up =
    ap (λ (t : SiteHappening). site_line home (t ∷ past) (Ev.Halt cut) ∷ t ∷ past) (trip_is home past 0 0)
    ∙ ap (λ (x : SiteHappening). x ∷ trip_line 0 0 ∷ past) (halt_up home (trip_line 0 0 ∷ past) cut up)

before_down : (home : Home) (past : SitePast) (event : SiteEvent) (cut : ℕ) → is_down past ≡ true
    → stopped_past home past event (Before cut) ≡ quiet (Ev.Halt cut) Say.Down ∷ trip_line 0 0 ∷ past
before_down home past event cut down =
    ap (λ (t : SiteHappening). site_line home (t ∷ past) (Ev.Halt cut) ∷ t ∷ past) (trip_is home past 0 0)
    ∙ ap (λ (x : SiteHappening). x ∷ trip_line 0 0 ∷ past) (halt_down home (trip_line 0 0 ∷ past) cut down)

-- the event, with a trip set before it, is answered by this line where the trip doesn't stop it
abbrev pub GoesOn : Home → SitePast → SiteEvent → SiteHappening → Type 0
GoesOn home past event x = (calls cut : ℕ) → site_line home (trip_line calls cut ∷ past) event ≡ unless_tripped home (trip_line calls cut ∷ past) x

within_is : (home : Home) (past : SitePast) (event : SiteEvent) (x : SiteHappening) (n cut : ℕ) → GoesOn home past event x → 1 ≤ n → n ≤ length x.calls
    → stopped_past home past event (Within n cut) ≡ stop_line home (trip_line n cut ∷ past) x.event (take n x.calls ++ Stops cut ∷ []) ∷ trip_line n cut ∷ past
within_is home past event x zero cut goes some few = absurd (omega arith)
within_is home past event x (suc n) cut goes some few =
    ap (λ (t : SiteHappening). site_line home (t ∷ past) event ∷ t ∷ past) (trip_is home past (suc n) cut)
    ∙ ap (λ (y : SiteHappening). y ∷ trip_line (suc n) cut ∷ past)
    (goes (suc n) cut ∙ trips_is home (trip_line (suc n) cut ∷ past) x (record { calls = suc n; cut = cut }) (cond-false _ _ _ (ne_eqb (suc n) 0 (λ z. omega arith))) few)

-- the first calls of a list are none, or so many as there are
first_calls : (n : ℕ) (calls : List (Call SiteRecord)) → (take n calls ≡ []) ⊎ ((m : ℕ) × (1 ≤ m) × (m ≤ length calls) × (take n calls ≡ take m calls))
first_calls zero calls = inl refl
first_calls (suc n) [] = inl refl
first_calls (suc n) (call ∷ calls) = inr (from (first_calls n calls)) where
  from : (take n calls ≡ []) ⊎ ((m : ℕ) × (1 ≤ m) × (m ≤ length calls) × (take n calls ≡ take m calls))
      → (m : ℕ) × (1 ≤ m) × (m ≤ length (call ∷ calls)) × (take (suc n) (call ∷ calls) ≡ take m (call ∷ calls))
  from (inl none) = (1, omega arith, omega arith, ap (λ (cs : List (Call SiteRecord)). call ∷ cs) none)
  from (inr (m, some, few, same)) = (suc m, omega arith, omega (arith, few), ap (λ (cs : List (Call SiteRecord)). call ∷ cs) same)

-- a stop of a disk that is all synced keeps all
pub stop_same : (rules : Disk SiteRecord) (cut : ℕ) → rules.synced ≡ rules.length → bytes_of site_frame rules.records ≤ rules.length → after_call site_frame rules (Stops cut) ≡ rules
stop_same rules cut synced within =
    let n : min rules.length (rules.synced + cut) ≡ rules.length = omega (arith, synced) in
    let lost = none_lost site_frame rules.length rules.lost rules.records within in
    ap (λ (m : ℕ). record { records = whole site_frame m rules.records; length = m; synced = m; trimmed = rules.trimmed; lost = oldest_lost site_frame m rules.lost rules.records }) n
    ∙ ap₂ (λ (rs : List SiteRecord) (m : ℕ). record { records = rs; length = rules.length; synced = m; trimmed = rules.trimmed; lost = oldest_lost site_frame rules.length rules.lost rules.records }) (whole-all rules.length rules.records within) (sym synced)
    ∙ ap (λ (o : Option SiteRecord). record { records = rules.records; length = rules.length; synced = rules.synced; trimmed = rules.trimmed; lost = o }) lost

module _ {E : Type 0} (stands : E → Lines.Start → List EngineLine → Type 0) (tells : Bool) where
  -- a past that is another one by the rules
  breaks_as : (most : ℕ) (before : Seen) (core : SiteCore E) (disk : Seen) (home : Home) (past : SitePast) (event : SiteEvent) (at : StopAt) (there : SitePast) → stopped_past home past event at ≡ there
      → Carries stands tells core disk home there → is_down there ≡ true → HasCalledAtMost most before disk → Breaks stands tells most before Err_is.Disk core disk home past event
  breaks_as most before core disk home past event at there is c down called =
      let P : SitePast → Type 0 = Carries stands tells core disk home in
      (at, subst P (sym is) c, ap (λ (p : SitePast). is_down p) is ∙ down, called)

  -- what a failed call leaves where it comes behind some calls
  within_breaks : (most : ℕ) (before : Seen) (core : SiteCore E) (disk : Seen) (home : Home) (past : SitePast) (event : SiteEvent) (x : SiteHappening) (n m cut : ℕ)
      → GoesOn home past event x → 1 ≤ m → m ≤ length x.calls → take n x.calls ≡ take m x.calls
      → Keeps (was_found past) tells disk core.store (after_calls site_frame (Past.disk home past) (take n x.calls ++ Stops cut ∷ [])) None → is_up core.store.standing ≡ false
      → IsOfKind stands core.engine home.engine → ((tx : Tx) → begun_in core.book tx ≡ attempts_of past tx) → core.protocol ≡ home.protocol
      → AppendsOnce (Past.disk home past) x.calls → LocalsOnce (Past.records home past) → HasCalledAtMost most before disk → Breaks stands tells most before Err_is.Disk core disk home past event
  within_breaks most before core disk home past event x n m cut goes some few same kept down engine begun protocol fits once called =
      let K : List (Call SiteRecord) → Type 0 = λ cs. Keeps (was_found past) tells disk core.store (after_calls site_frame (Past.disk home past) (cs ++ Stops cut ∷ [])) None in
      breaks_as most before core disk home past event (Within m cut) _ (within_is home past event x m cut goes some few)
      (carries_stop stands tells core disk home (trip_line m cut ∷ past) x.event (take m x.calls ++ Stops cut ∷ []) (subst K same kept) down engine begun protocol (once_stopped (Past.disk home past) m cut x.calls fits once)) refl called

  -- a disk call of an event of a site that is up fails
  pub breaks_up : (most : ℕ) (before : Seen) (core : SiteCore E) (disk : Seen) (home : Home) (past : SitePast) (event : SiteEvent) (x : SiteHappening)
      → is_down past ≡ false → GoesOn home past event x → Ends {A = ℕ} (Keeps (was_found past) tells disk core.store) (Past.disk home past) (Past.trip past) x.calls (Err Failed)
      → is_up core.store.standing ≡ false → IsOfKind stands core.engine home.engine → ((tx : Tx) → begun_in core.book tx ≡ attempts_of past tx) → core.protocol ≡ home.protocol
      → AppendsOnce (Past.disk home past) x.calls → LocalsOnce (Past.records home past) → HasCalledAtMost most before disk → Breaks stands tells most before Err_is.Disk core disk home past event
  breaks_up most before core disk home past event x up goes (n, cut, kept) down engine begun protocol fits once called = from (first_calls n x.calls) where
    from : (take n x.calls ≡ []) ⊎ ((m : ℕ) × (1 ≤ m) × (m ≤ length x.calls) × (take n x.calls ≡ take m x.calls)) → Breaks stands tells most before Err_is.Disk core disk home past event
    from (inl none) =
        let K : List (Call SiteRecord) → Type 0 = λ cs. Keeps (was_found past) tells disk core.store (after_calls site_frame (Past.disk home past) (cs ++ Stops cut ∷ [])) None in
        breaks_as most before core disk home past event (Before cut) _ (before_up home past event cut up)
        (carries_stop stands tells core disk home (trip_line 0 0 ∷ past) (Ev.Halt cut) (Stops cut ∷ []) (subst K none kept) down engine begun protocol (once_stopped (Past.disk home past) 0 cut [] tt once)) refl called
    from (inr (m, some, few, same)) = within_breaks most before core disk home past event x n m cut goes some few same kept down engine begun protocol fits once called

  -- a site that is down stays so, with its disk as it was and no trip
  pub breaks_down : (most : ℕ) (before : Seen) (core : SiteCore E) (disk : Seen) (home : Home) (past : SitePast) (event : SiteEvent) → is_down past ≡ true
      → Keeps (was_found past) tells disk core.store (Past.disk home past) None → is_up core.store.standing ≡ false
      → IsOfKind stands core.engine home.engine → epoch_start home past ≡ start_of home (Past.records home past) → engine_lines past ≡ []
      → ((tx : Tx) → begun_in core.book tx ≡ attempts_of past tx) → core.protocol ≡ home.protocol
      → LocalsOnce (Past.records home past) → HasCalledAtMost most before disk → Breaks stands tells most before Err_is.Disk core disk home past event
  breaks_down most before core disk home past event down kept still engine start lines begun protocol once called =
      let there : SitePast = quiet (Ev.Halt 0) Say.Down ∷ trip_line 0 0 ∷ past in
      breaks_as most before core disk home past event (Before 0) there (before_down home past event 0 down)
      (record {
        memory = record {
          records = kept_records tells disk core.store _ _ kept;
          trip = kept.behind.trip;
          armed = kept.behind.armed;
          standing = down ∙ sym (ap not still);
          standing_in = from core.store.standing still (record { engine = engine; start = start; lines = lines });
          begun = begun;
          protocol = protocol;
          once = once;
        };
        stored = kept;
      }) down called where
        from : (standing : Standing) → is_up standing ≡ false → IsStopped stands core home (quiet (Ev.Halt 0) Say.Down ∷ trip_line 0 0 ∷ past) → IsIn stands core standing home (quiet (Ev.Halt 0) Say.Down ∷ trip_line 0 0 ∷ past)
        from Up e r = cc
        from Down e r = r
        from Failing e r = r

  -- a disk call of an event of a site that is down fails
  pub breaks_start : (most : ℕ) (before : Seen) (core : SiteCore E) (disk : Seen) (home : Home) (past : SitePast) (event : SiteEvent) (x : SiteHappening) → is_down past ≡ true → GoesOn home past event x
      → (Past.disk home past).synced ≡ (Past.disk home past).length → bytes_of site_frame (Past.records home past) ≤ (Past.disk home past).length
      → Ends {A = ℕ} (Keeps (was_found past) tells disk core.store) (Past.disk home past) (Past.trip past) x.calls (Err Failed)
      → is_up core.store.standing ≡ false → IsOfKind stands core.engine home.engine
      → epoch_start home past ≡ start_of home (Past.records home past) → engine_lines past ≡ []
      → ((tx : Tx) → begun_in core.book tx ≡ attempts_of past tx) → core.protocol ≡ home.protocol
      → AppendsOnce (Past.disk home past) x.calls → LocalsOnce (Past.records home past) → HasCalledAtMost most before disk → Breaks stands tells most before Err_is.Disk core disk home past event
  breaks_start most before core disk home past event x down goes synced within (n, cut, kept) still engine start lines begun protocol fits once called = from (first_calls n x.calls) where
    from : (take n x.calls ≡ []) ⊎ ((m : ℕ) × (1 ≤ m) × (m ≤ length x.calls) × (take n x.calls ≡ take m x.calls)) → Breaks stands tells most before Err_is.Disk core disk home past event
    from (inl none) =
        let K : List (Call SiteRecord) → Type 0 = λ cs. Keeps (was_found past) tells disk core.store (after_calls site_frame (Past.disk home past) (cs ++ Stops cut ∷ [])) None in
        let R : Disk SiteRecord → Type 0 = λ d. Keeps (was_found past) tells disk core.store d None in
        breaks_down most before core disk home past event down (subst R (stop_same (Past.disk home past) cut synced within) (subst K none kept)) still engine start lines begun protocol once called
    from (inr (m, some, few, same)) = within_breaks most before core disk home past event x n m cut goes some few same kept still engine begun protocol fits once called

  -- a halt
  pub halt_stops : (old new : SiteCore E) (step : SiteStep) (disk disk' : Seen) (home : Home) (past : SitePast) (cut kept : ℕ)
      → Stands stands tells old disk home past → old.store.standing ≡ Up
      → StopsWith site_frame (Keeps (was_found past) tells disk' new.store) (Past.disk home past) cut kept
      → new.store.standing ≡ Down → new.engine ≡ old.engine → new.book ≡ old.book → new.protocol ≡ old.protocol
      → step ≡ record { answer = Say.Stopped kept; sends = None } → disk'.calls ≡ disk.calls
      → Answers stands tells 0 disk step new disk' home past (site_line home past (Ev.Halt cut))
  halt_stops old new step disk disk' home past cut kept k up stopped_with down engine book protocol says same =
      let m = k.holds.memory in
      let P : E → Type 0 = λ e. IsOfKind stands e home.engine in
      answers_as stands tells 0 disk step new disk' home past _ _ (halt_up home past cut (up_is stands old home past m up))
      (record {
        answer = ap (λ (s : SiteStep). s.answer) says ∙ ap (λ (n : ℕ). Say.Stopped n) stopped_with.1;
        sends = ap (λ (s : SiteStep). option_to_list s.sends) says;
        carries = carries_stop stands tells new disk' home past (Ev.Halt cut) (Stops cut ∷ []) stopped_with.0 (ap is_up down) (subst P (sym engine) (kind_at stands old home past m))
            (λ tx. ap (λ b. begun_in b tx) book ∙ m.begun tx) (protocol ∙ m.protocol) (once_stopped (Past.disk home past) 0 cut [] tt m.once);
        called = no_call disk disk' same;
      })

  -- a site that is up, whatever trip is set
  up_still : (old new : SiteCore E) (home : Home) (past : SitePast) (event : SiteEvent) (answer : Answer) {to : Option SetTrip} → IsUp stands old home past → stops answer ≡ false → comes_up answer ≡ false
      → ((t : Tid) → Past.decides_on t event ≡ false) → new ≡ record old { store = record old.store { trip = to } } → IsUp stands new home (quiet event answer ∷ past)
  up_still old new home past event answer u goes stays undecided is =
      let test : (stops answer || comes_up answer) ≡ false = rw (goes, stays) refl in
      let start : epoch_start home (quiet event answer ∷ past) ≡ epoch_start home past = cond-false _ _ _ test in
      let lines : engine_lines (quiet event answer ∷ past) ≡ engine_lines past = cond-false _ _ _ test in
      let S : Lines.Start → List EngineLine → Type 0 = λ s l. stands old.engine s l in
      let notes = notes_same old.book (epoch_start home past) (epoch_start home (quiet event answer ∷ past)) (engine_lines past) (engine_lines (quiet event answer ∷ past)) (is_closed past) (is_closed (quiet event answer ∷ past)) (local_of (Past.records home past)) (local_of (Past.records home past)) past (quiet event answer)
      u.notes start lines (λ t. closed_same past (quiet event answer) t stays (undecided t) refl) (λ tx. refl) in
      let P : SiteCore E → Type 0 = λ c. IsUp stands c home (quiet event answer ∷ past) in
      subst P (sym is) (record {
        engine = subst (λ (s : Lines.Start). S s (engine_lines (quiet event answer ∷ past))) (sym start) (subst (λ (l : List EngineLine). S (epoch_start home past) l) (sym lines) u.engine);
        notes = notes;
        doubts = u.doubts;
        epoch = u.epoch;
      })

  -- an event of a site in any standing that says something, changes no run and calls no disk; it may set a trip
  pub stands_still : (old new : SiteCore E) (step : SiteStep) (disk : Seen) (home : Home) (past : SitePast) (event : SiteEvent) (answer : Answer) (to : Option SetTrip)
      → Stands stands tells old disk home past → new ≡ record old { store = record old.store { trip = to } }
      → stops answer ≡ false → comes_up answer ≡ false → ((tx : Tx) → begins_tx tx answer ≡ false)
      → map_some trip_of_rules to ≡ set (trip_of event) (Past.trip past) → IsArmed to
      → (old.store.standing ≡ Up → IsUp stands old home past → IsUp stands new home (quiet event answer ∷ past))
      → step ≡ record { answer = answer; sends = None }
      → Answers stands tells 0 disk step new disk home past (quiet event answer)
  stands_still old new step disk home past event answer to k is goes stays none sets armed up says =
      let m = k.holds.memory in
      let in_force : set (trip_of event) (Past.trip past) ≡ Past.trip (quiet event answer ∷ past) = ap (set (trip_of event)) (sym (used_none (Past.trip past))) ∙ sym (cond-false _ _ _ goes) in
      let moved : Keeps (was_found past) tells disk (record old.store { trip = to }) (Past.disk home past) (Past.trip (quiet event answer ∷ past)) = from_trip k.stored to (sets ∙ in_force) armed in
      let P : Store → Type 0 = λ s. Keeps (was_found past) tells disk s (Past.disk home past) (Past.trip (quiet event answer ∷ past)) in
      let store : new.store ≡ record old.store { trip = to } = ap (λ (c : SiteCore E). c.store) is in
      let kept = subst P (sym store) moved in
      let Q : Standing → Type 0 = λ s. IsIn stands new s home (quiet event answer ∷ past) in
      record {
        answer = ap (λ (s : SiteStep). s.answer) says;
        sends = ap (λ (s : SiteStep). option_to_list s.sends) says;
        carries = record {
          memory = record {
            records = kept_records tells disk new.store _ _ kept;
            trip = kept.behind.trip;
            armed = kept.behind.armed;
            standing = cond-false _ _ _ goes ∙ cond-false _ _ _ stays ∙ m.standing ∙ ap (λ s. not (is_up s)) (sym (ap (λ (s : Store). s.standing) store));
            standing_in = subst Q (sym (ap (λ (s : Store). s.standing) store)) (still old.store.standing refl m.standing_in);
            begun = (λ tx. ap (λ (c : SiteCore E). begun_in c.book tx) is ∙ m.begun tx ∙ sym (cond-false _ _ _ (none tx)));
            protocol = ap (λ (c : SiteCore E). c.protocol) is ∙ m.protocol;
            once = m.once;
          };
          stored = from_later (opens (quiet event answer)) kept;
        };
        called = called_quiet [] disk disk refl refl;
      } where
        quiet_test : (stops answer || comes_up answer) ≡ false
        quiet_test = rw (goes, stays) refl

        down : IsStopped stands old home past → IsStopped stands new home (quiet event answer ∷ past)
        down r =
            let R : E → Type 0 = λ e. IsOfKind stands e home.engine in
            record { engine = subst R (sym (ap (λ (c : SiteCore E). c.engine) is)) r.engine; start = cond-false _ _ _ quiet_test ∙ r.start; lines = cond-false _ _ _ quiet_test ∙ r.lines }

        still : (standing : Standing) → old.store.standing ≡ standing → IsIn stands old standing home past → IsIn stands new standing home (quiet event answer ∷ past)
        still Up e r = up e r
        still Down e r = down r
        still Failing e r = down r

  -- a trip that is set
  pub trip_sets : (old new : SiteCore E) (step : SiteStep) (disk : Seen) (home : Home) (past : SitePast) (calls cut : ℕ) → Stands stands tells old disk home past
      → new ≡ record old { store = record old.store { trip = trip_to calls cut } } → step ≡ record { answer = Say.Set; sends = None }
      → Answers stands tells 0 disk step new disk home past (site_line home past (Ev.Trip calls cut))
  trip_sets old new step disk home past calls cut k is says =
      answers_as stands tells 0 disk step new disk home past _ _ (trip_is home past calls cut)
      (stands_still old new step disk home past (Ev.Trip calls cut) Say.Set (trip_to calls cut) k is refl refl (λ tx. refl) (trip_to-rules calls cut (Past.trip past)) (trip_to-armed calls cut)
      (λ e u. up_still old new home past (Ev.Trip calls cut) Say.Set u refl refl (λ t. refl) is) says)

  -- an event of a site that says something and changes nothing
  pub says_only : (core : SiteCore E) (step : SiteStep) (disk : Seen) (home : Home) (past : SitePast) (event : SiteEvent) (answer : Answer) (x : SiteHappening) → Stands stands tells core disk home past → x ≡ quiet event answer
      → stops answer ≡ false → comes_up answer ≡ false → ((tx : Tx) → begins_tx tx answer ≡ false) → trip_of event ≡ None → ((t : Tid) → Past.decides_on t event ≡ false) → step ≡ record { answer = answer; sends = None }
      → Answers stands tells 0 disk step core disk home past x
  says_only core step disk home past event answer x k is goes stays none no_trip undecided says =
      answers_as stands tells 0 disk step core disk home past x (quiet event answer) is
      (stands_still core core step disk home past event answer core.store.trip k refl goes stays none (k.holds.memory.trip ∙ sym (ap (λ o. set o (Past.trip past)) no_trip)) k.holds.memory.armed
      (λ e u. up_still core core home past event answer u goes stays undecided refl) says)

  -- an event of a site that is down, which it doesn't hear
  pub says_down : (core : SiteCore E) (step : SiteStep) (disk : Seen) (home : Home) (past : SitePast) (event : SiteEvent) → Stands stands tells core disk home past → is_up core.store.standing ≡ false
      → ((calls cut : ℕ) → event ≡ Ev.Trip calls cut → ⊥) → (event ≡ Ev.Back → ⊥) → step ≡ record { answer = Say.Down; sends = None }
      → Answers stands tells 0 disk step core disk home past (site_line home past event)
  says_down core step disk home past event k down not_trip not_back says =
      let line = down_line home past event not_trip not_back (down_is stands core home past k.holds.memory down) in
      answers_as stands tells 0 disk step core disk home past _ (quiet event Say.Down) line.0
      (stands_still core core step disk home past event Say.Down core.store.trip k refl refl refl (λ tx. refl) (k.holds.memory.trip ∙ sym (ap (λ o. set o (Past.trip past)) line.1)) k.holds.memory.armed
      (λ e u. absurd (both (sym (ap is_up e) ∙ down))) says)
    where
      both : true ≡ false → ⊥
      both e = cc
