-- What a core remembers behind a line: of a site that is up, and behind a stop.
use Rattle.std.proofs.Common.{◌≡◌, ℕ, ◌≤◌, leb, Bool, true, false, not, ◌||◌, Option, Some, None, List, [], ◌∷◌, ◌++◌, length, reverse, take, refl, sym, ap, ◌∙◌, subst}
use Rattle.std.proofs.lemmas.Bool.{cond-true, cond-false, le-leb, lt-leb}
use Rattle.mdb_base.specs.declared.names.Tx.{Tx}
use Rattle.mdb_base.specs.Words.{map_some, when}
use Rattle.fed_rules.specs.declared.answers.Answer.TheVariants as Say
use Rattle.fed_rules.specs.declared.events.SiteEvent.{SiteEvent}
use Rattle.fed_rules.specs.declared.events.SiteStep.{SiteStep}
use Rattle.fed_rules.specs.declared.records.SiteRecord.{SiteRecord}
use Rattle.fed_rules.specs.Disk.{Call, Stops, Disk, after_calls}
use Rattle.fed_rules.specs.Disk as Rules
use Rattle.fed_rules.specs.Happenings.{Trip, comes_up, is_down, set, stopped, stops, tripped, used}
use Rattle.fed_rules.specs.Runs as Lines
use Rattle.fed_rules.specs.Runs.{EngineLine}
use Rattle.fed_rules.specs.Site.{unless_tripped}
use Rattle.fed_rules.specs.SitePast.{SiteHappening, SitePast, attempts_of, engine_lines, epoch_start, journal, trip_of}
use Rattle.fed_rules.specs.SitePast as Past
use Rattle.fed_rules.specs.SiteRecords.{Home, site_frame}
use Rattle.journal_disk.specs.Disk.{Seen}
use Rattle.frame_journal.specs.Journal.{records}
use Rattle.actor_store.specs.declared.store.Standing.{Standing}
use Rattle.actor_store.specs.declared.store.Standing.TheVariants.{Up, Down, Failing}
use Rattle.actor_store.specs.Store.{Passes, is_up, trip_of_rules}
use Rattle.actor_store.proofs.ForCallers.{from_later, from_trip, passes_none, used_none}
use Rattle.site_book.specs.Book.{begun_in}
use Rattle.site_core.specs.declared.site.SiteCore.{SiteCore}
use Rattle.site_core.specs.Stands.{Adds, Answers, Carries, IsIn, IsOfKind, IsStopped, IsUp, Remembers, Stands}
use Rattle.site_core.specs.Recovered.{LocalsOnce}
use Rattle.site_core.specs.Made.{opens, was_found}
use Rattle.site_core.specs.Store.{Keeps, Store}
use Rattle.site_core.proofs.CalledLaws.{called_quiet}
use Rattle.site_core.proofs.OnceLaws.{AppendsOnce, once_calls}

-- a store has the records that stand on its disk
pub kept_records : {found : Bool} (tells : Bool) (disk : Seen) (store : Store) (rules : Disk SiteRecord) (trip : Option Trip) → Keeps found tells disk store rules trip
    → records store.journal ≡ reverse (Rules.journal site_frame rules)
kept_records tells disk store rules trip kept = kept.behind.are

-- a line of a site that is up, which neither stops it nor sets a trip
pub record IsPlain (x : SiteHappening) : Type 0 where
  pub goes : stops x.answer ≡ false
  pub stays : comes_up x.answer ≡ false
  pub sets : trip_of x.event ≡ None

quiet_test : (x : SiteHappening) → IsPlain x → (stops x.answer || comes_up x.answer) ≡ false
quiet_test x p = rw (p.goes, p.stays) refl

-- it belongs to the epoch
pub same_start : (home : Home) (past : SitePast) (x : SiteHappening) → IsPlain x → epoch_start home (x ∷ past) ≡ epoch_start home past
same_start home past x p = cond-false _ _ _ (quiet_test x p)

pub more_lines : (past : SitePast) (x : SiteHappening) → IsPlain x → engine_lines (x ∷ past) ≡ x.lines ++ engine_lines past
more_lines past x p = cond-false _ _ _ (quiet_test x p)

still_up : (past : SitePast) (x : SiteHappening) → IsPlain x → is_down past ≡ false → is_down (x ∷ past) ≡ false
still_up past x p up = cond-false _ _ _ p.goes ∙ cond-false _ _ _ p.stays ∙ up

trip_used : (past : SitePast) (x : SiteHappening) → IsPlain x → Past.trip (x ∷ past) ≡ used (length x.calls) (Past.trip past)
trip_used past x p = cond-false _ _ _ p.goes ∙ ap (λ o. set o (used (length x.calls) (Past.trip past))) p.sets

-- the line that a stop ends
abbrev pub stop_line : Home → SitePast → SiteEvent → List (Call SiteRecord) → SiteHappening
stop_line home past event calls =
    record { event = event; answer = Say.Stopped (length (Rules.journal site_frame (after_calls site_frame (Past.disk home past) calls))); sends = []; calls = calls; lines = [] }

pub stopped_is : (home : Home) (past : SitePast) (event : SiteEvent) (calls : List (Call SiteRecord)) → stopped site_frame (Past.disk home past) event calls ≡ stop_line home past event calls
unfolding stopped
stopped_is home past event calls = refl

-- a trip that isn't used up leaves the line as it is
pub passes_is : (home : Home) (past : SitePast) (x : SiteHappening) → Passes (Past.trip past) (length x.calls) → unless_tripped home past x ≡ x
unfolding tripped when
passes_is home past x passes = from (Past.trip past) passes where
  from : (trip : Option Trip) → Passes trip (length x.calls) → tripped site_frame (Past.disk home past) trip x ≡ x
  from None p = refl
  from (Some trip) p = let e : leb trip.calls (length x.calls) ≡ false = lt-leb _ _ p in rw e refl

-- and one that comes within its calls stops it
pub trips_is : (home : Home) (past : SitePast) (x : SiteHappening) (trip : Trip) → Past.trip past ≡ Some trip → trip.calls ≤ length x.calls
    → unless_tripped home past x ≡ stop_line home past x.event (take trip.calls x.calls ++ Stops trip.cut ∷ [])
unfolding tripped when
trips_is home past x trip is few =
    ap (λ t. tripped site_frame (Past.disk home past) t x) is
    ∙ (let e : leb trip.calls (length x.calls) ≡ true = le-leb _ _ few in rw e (stopped_is home past x.event (take trip.calls x.calls ++ Stops trip.cut ∷ [])))

-- an epoch starts by the rule of the home
pub epoch_kind : (home : Home) (past : SitePast) → (epoch_start home past).kind ≡ home.engine
epoch_kind home [] = refl
epoch_kind home (x ∷ past) = by_test (stops x.answer || comes_up x.answer) refl (epoch_kind home past) where
  by_test : (t : Bool) → (stops x.answer || comes_up x.answer) ≡ t → (epoch_start home past).kind ≡ home.engine → (epoch_start home (x ∷ past)).kind ≡ home.engine
  by_test true e rest = ap (λ (s : Lines.Start). s.kind) (cond-true _ _ _ e)
  by_test false e rest = ap (λ (s : Lines.Start). s.kind) (cond-false _ _ _ e) ∙ rest

module _ {E : Type 0} (stands : E → Lines.Start → List EngineLine → Type 0) where
  -- a site that is up
  pub is_up_at : (core : SiteCore E) (home : Home) (past : SitePast) → Remembers stands core home past → core.store.standing ≡ Up → IsUp stands core home past
  is_up_at core home past m up = let P : Standing → Type 0 = λ s. IsIn stands core s home past in subst P up m.standing_in

  pub up_is : (core : SiteCore E) (home : Home) (past : SitePast) → Remembers stands core home past → core.store.standing ≡ Up → is_down past ≡ false
  up_is core home past m up = m.standing ∙ ap (λ s. not (is_up s)) up

  -- and one that is down
  pub down_is : (core : SiteCore E) (home : Home) (past : SitePast) → Remembers stands core home past → is_up core.store.standing ≡ false → is_down past ≡ true
  down_is core home past m down = m.standing ∙ ap not down

  pub stopped_at : (core : SiteCore E) (home : Home) (past : SitePast) → Remembers stands core home past → is_up core.store.standing ≡ false → IsStopped stands core home past
  stopped_at core home past m down = from core.store.standing down m.standing_in where
    from : (standing : Standing) → is_up standing ≡ false → IsIn stands core standing home past → IsStopped stands core home past
    from Up e r = cc
    from Down e r = r
    from Failing e r = r

  in_stopped : (core : SiteCore E) (standing : Standing) (home : Home) (past : SitePast) → is_up standing ≡ false → IsStopped stands core home past → IsIn stands core standing home past
  in_stopped core Up home past e r = cc
  in_stopped core Down home past e r = r
  in_stopped core Failing home past e r = r

  pub kind_up : (core : SiteCore E) (home : Home) (past : SitePast) → IsUp stands core home past → IsOfKind stands core.engine home.engine
  kind_up core home past u = record { start = _; lines = _; stood = u.engine; of_kind = epoch_kind home past }

  -- in any standing the engine follows the home's rule
  pub kind_at : (core : SiteCore E) (home : Home) (past : SitePast) → Remembers stands core home past → IsOfKind stands core.engine home.engine
  kind_at core home past m = from core.store.standing m.standing_in where
    from : (standing : Standing) → IsIn stands core standing home past → IsOfKind stands core.engine home.engine
    from Up r = kind_up core home past r
    from Down r = r.engine
    from Failing r = r.engine

  -- behind a line without disk calls
  pub remembers_line : (old new : SiteCore E) (home : Home) (past : SitePast) (x : SiteHappening) → Remembers stands old home past → old.store.standing ≡ Up → new.store ≡ old.store
      → IsPlain x → x.calls ≡ [] → IsUp stands new home (x ∷ past) → ((tx : Tx) → begun_in new.book tx ≡ attempts_of (x ∷ past) tx) → new.protocol ≡ old.protocol
      → Remembers stands new home (x ∷ past)
  remembers_line old new home past x m up store p none now begun protocol =
      let here : new.store.standing ≡ Up = ap (λ (s : Store). s.standing) store ∙ up in
      let same_disk : Past.disk home (x ∷ past) ≡ Past.disk home past = ap (after_calls site_frame (Past.disk home past)) none in
      let P : Standing → Type 0 = λ s. IsIn stands new s home (x ∷ past) in
      record {
        records = ap (λ (s : Store). records s.journal) store ∙ m.records ∙ ap (λ (d : Disk SiteRecord). reverse (Rules.journal site_frame d)) (sym same_disk);
        trip = ap (λ (s : Store). map_some trip_of_rules s.trip) store ∙ m.trip ∙ sym (used_none (Past.trip past)) ∙ sym (trip_used past x p ∙ ap (λ n. used n (Past.trip past)) (ap length none));
        armed = rw store m.armed;
        standing = still_up past x p (up_is old home past m up) ∙ sym (ap (λ s. not (is_up s)) here);
        standing_in = subst P (sym here) now;
        begun = begun;
        protocol = protocol ∙ m.protocol;
        once = subst (λ (d : Disk SiteRecord). LocalsOnce d.records) (sym same_disk) m.once;
      }

  -- the same past with another engine
  pub remembers_engine : (old new : SiteCore E) (home : Home) (past : SitePast) → Remembers stands old home past → old.store.standing ≡ Up
      → stands new.engine (epoch_start home past) (engine_lines past) → new ≡ record old { engine = new.engine } → Remembers stands new home past
  remembers_engine old new home past m up engine is =
      let u = is_up_at old home past m up in
      let now : IsUp stands (record old { engine = new.engine }) home past = record { engine = engine; notes = u.notes; doubts = u.doubts; epoch = u.epoch } in
      let P : Standing → Type 0 = λ s. IsIn stands (record old { engine = new.engine }) s home past in
      let R : SiteCore E → Type 0 = λ c. Remembers stands c home past in
      subst R (sym is) (record { records = m.records; trip = m.trip; armed = m.armed; standing = m.standing; standing_in = subst P (sym up) now; begun = m.begun; protocol = m.protocol; once = m.once })

  module _ (tells : Bool) where
    -- behind a line that was carried out, with its disk calls
    pub carries_line : (old new : SiteCore E) (disk : Seen) (home : Home) (past : SitePast) (x : SiteHappening) → Remembers stands old home past → old.store.standing ≡ Up
        → Keeps (was_found past) tells disk new.store (after_calls site_frame (Past.disk home past) x.calls) (used (length x.calls) (Past.trip past)) → new.store.standing ≡ Up
        → IsPlain x → IsUp stands new home (x ∷ past) → ((tx : Tx) → begun_in new.book tx ≡ attempts_of (x ∷ past) tx) → new.protocol ≡ old.protocol
        → AppendsOnce (Past.disk home past) x.calls → Carries stands tells new disk home (x ∷ past)
    carries_line old new disk home past x m up kept here p now begun protocol fits =
        let in_force : used (length x.calls) (Past.trip past) ≡ Past.trip (x ∷ past) = sym (trip_used past x p) in
        let T : Option Trip → Type 0 = λ t. Keeps (was_found past) tells disk new.store (after_calls site_frame (Past.disk home past) x.calls) t in
        let P : Standing → Type 0 = λ s. IsIn stands new s home (x ∷ past) in
        record {
          memory = record {
            records = kept_records tells disk new.store _ _ kept;
            trip = kept.behind.trip ∙ in_force;
            armed = kept.behind.armed;
            standing = still_up past x p (up_is old home past m up) ∙ sym (ap (λ s. not (is_up s)) here);
            standing_in = subst P (sym here) now;
            begun = begun;
            protocol = protocol ∙ m.protocol;
            once = once_calls (Past.disk home past) x.calls fits m.once;
          };
          stored = from_later (opens x) (subst T in_force kept);
        }

    -- behind a stop
    pub carries_stop : (core : SiteCore E) (disk : Seen) (home : Home) (past : SitePast) (event : SiteEvent) (calls : List (Call SiteRecord))
        → Keeps (was_found past) tells disk core.store (after_calls site_frame (Past.disk home past) calls) None → is_up core.store.standing ≡ false
        → IsOfKind stands core.engine home.engine → ((tx : Tx) → begun_in core.book tx ≡ attempts_of past tx) → core.protocol ≡ home.protocol
        → LocalsOnce (after_calls site_frame (Past.disk home past) calls).records → Carries stands tells core disk home (stop_line home past event calls ∷ past)
    carries_stop core disk home past event calls kept down engine begun protocol once = record {
      memory = record {
        records = kept_records tells disk core.store _ _ kept;
        trip = kept.behind.trip;
        armed = kept.behind.armed;
        standing = sym (ap not down);
        standing_in = in_stopped core core.store.standing home (stop_line home past event calls ∷ past) down (record { engine = engine; start = refl; lines = refl });
        begun = begun;
        protocol = protocol;
        once = once;
      };
      stored = from_later (opens (stop_line home past event calls)) kept;
    }

    -- a line without disk calls, on the same disk
    pub carries_quiet : (old new : SiteCore E) (disk : Seen) (home : Home) (past : SitePast) (x : SiteHappening) → Keeps (was_found past) tells disk old.store (Past.disk home past) (Past.trip past) → new.store ≡ old.store
        → x.calls ≡ [] → Remembers stands new home (x ∷ past) → Carries stands tells new disk home (x ∷ past)
    carries_quiet old new disk home past x stored store none m =
        let same : Past.disk home (x ∷ past) ≡ Past.disk home past = ap (after_calls site_frame (Past.disk home past)) none in
        let P : Store → Type 0 = λ s. Keeps (was_found past) tells disk s (Past.disk home past) (Past.trip past) in
        let kept = subst P (sym store) stored in
        let moved : Keeps (was_found past) tells disk new.store (Past.disk home past) (Past.trip (x ∷ past)) = from_trip kept new.store.trip m.trip kept.behind.armed in
        let Q : Disk SiteRecord → Type 0 = λ d. Keeps (was_found past) tells disk new.store d (Past.trip (x ∷ past)) in
        record { memory = m; stored = from_later (opens x) (subst Q (sym same) moved) }

    -- the same past in other memory, on another disk that keeps the same
    pub carries_same : (old new : SiteCore E) (disk : Seen) (home : Home) (past : SitePast) → Remembers stands old home past
        → Keeps (was_found past) tells disk new.store (Past.disk home past) (Past.trip past) → new.store.standing ≡ old.store.standing
        → IsIn stands new old.store.standing home past → ((tx : Tx) → begun_in new.book tx ≡ begun_in old.book tx) → new.protocol ≡ old.protocol
        → Carries stands tells new disk home past
    carries_same old new disk home past m kept standing now begun protocol =
        let P : Standing → Type 0 = λ s. IsIn stands new s home past in
        record {
          memory = record {
            records = kept_records tells disk new.store _ _ kept;
            trip = kept.behind.trip;
            armed = kept.behind.armed;
            standing = m.standing ∙ sym (ap (λ s. not (is_up s)) standing);
            standing_in = subst P (sym standing) now;
            begun = (λ tx. begun tx ∙ m.begun tx);
            protocol = protocol ∙ m.protocol;
            once = m.once;
          };
          stored = kept;
        }

    -- so the core stands for it
    pub stands_from : (old new : SiteCore E) (disk disk' : Seen) (home : Home) (past : SitePast) → Stands stands tells old disk home past → Carries stands tells new disk' home past → Stands stands tells new disk' home past
    stands_from old new disk disk' home past k c = record { holds = record { made = k.holds.made; memory = c.memory }; stored = c.stored }

    -- a trip in force has calls left
    pub trip_left : (core : SiteCore E) (home : Home) (past : SitePast) → Remembers stands core home past → Passes (Past.trip past) 0
    trip_left core home past m = let P : Option Trip → Type 0 = λ t. Passes t 0 in subst P m.trip (passes_none core.store.trip m.armed)

    -- an answer to a line that is another one by the rules
    pub answers_as : (beside : ℕ) (before : Seen) (step : SiteStep) (core : SiteCore E) (disk : Seen) (home : Home) (past : SitePast) (x y : SiteHappening) → x ≡ y
        → Answers stands tells beside before step core disk home past y → Answers stands tells beside before step core disk home past x
    answers_as beside before step core disk home past x y e a = let P : SiteHappening → Type 0 = Answers stands tells beside before step core disk home past in subst P (sym e) a

    -- an answer without disk calls
    pub answers_quiet : (step : SiteStep) (old new : SiteCore E) (disk : Seen) (home : Home) (past : SitePast) (x y : SiteHappening)
        → Stands stands tells old disk home past → new.store ≡ old.store → y.calls ≡ [] → x ≡ unless_tripped home past y → Adds stands step new home past y
        → Answers stands tells 0 disk step new disk home past x
    answers_quiet step old new disk home past x y k store none is a =
        let P : ℕ → Type 0 = λ n. Passes (Past.trip past) n in
        let passes : Passes (Past.trip past) (length y.calls) = subst P (sym (ap length none)) (trip_left old home past k.holds.memory) in
        answers_as 0 disk step new disk home past x y (is ∙ passes_is home past y passes)
        (record { answer = a.answer; sends = a.sends; carries = carries_quiet old new disk home past y k.stored store none a.memory; called = called_quiet y.calls disk disk none refl })

  -- a line that is another one by the rules
  pub adds_as : (step : SiteStep) (core : SiteCore E) (home : Home) (past : SitePast) (x y : SiteHappening) → x ≡ y → Adds stands step core home past y → Adds stands step core home past x
  adds_as step core home past x y e a = let P : SiteHappening → Type 0 = Adds stands step core home past in subst P (sym e) a
