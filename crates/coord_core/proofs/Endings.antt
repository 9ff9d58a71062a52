-- How a line ends whose tables stand already: all of its disk calls are made, or the trip comes within them, or one fails.
use Rattle.std.proofs.Common.{◌≡◌, ℕ, zero, suc, ◌+◌, ◌≤◌, ◌⊎◌, Bool, true, false, leb, not, Option, Some, None, Err, List, [], ◌∷◌, ◌++◌, length, take, refl, sym, ap, subst, ◌∙◌, arith, inl, inr}
use Rattle.std.proofs.lemmas.Bool.{cases_lt, cond-false, le-leb, leb-true}
use Rattle.mdb_base.specs.declared.names.Tx.{Tx}
use Rattle.mdb_base.specs.Words.{when}
use Rattle.mdb_base.proofs.ForCallers.{suc_not_zero, take_none}
use Rattle.presumptions.specs.declared.Participant.{Participant}
use Rattle.fed_rules.specs.declared.answers.Answer.{Answer}
use Rattle.fed_rules.specs.declared.answers.Answer.TheVariants as Say
use Rattle.fed_rules.specs.declared.events.CoordEvent.{CoordEvent}
use Rattle.fed_rules.specs.declared.events.CoordEvent.TheVariants as Ev
use Rattle.fed_rules.specs.declared.events.CoordStep.{CoordStep}
use Rattle.fed_rules.specs.declared.records.CoordRecord.{CoordRecord}
use Rattle.fed_rules.specs.Disk.{Call, Stops, Disk, after_calls}
use Rattle.fed_rules.specs.Disk as DiskWords
use Rattle.fed_rules.specs.Happenings.{Trip, is_down, quiet, set, stopped, stops, tripped, used}
use Rattle.fed_rules.specs.Coord.{coord_line, unless_tripped}
use Rattle.fed_rules.specs.CoordPast.{CoordHappening, CoordPast, attempts_of, trip_of}
use Rattle.fed_rules.specs.CoordPast as Past
use Rattle.fed_rules.specs.CoordRecords.{coord_frame}
use Rattle.fed_rules.specs.Policies.{Policy}
use Rattle.fed_rules.specs.Right.{MayPrint}
use Rattle.coord_laws.specs.Pasts.{IsNumbered}
use Rattle.journal_disk.specs.Disk.{HasCalled, HasCalledAtMost, Seen}
use Rattle.journal_disk.proofs.ForCallers.{no_call}
use Rattle.journal_rules.specs.Calls.{can_fail}
use Rattle.actor_store.specs.declared.errors.StepErr.TheVariants as Err_is
use Rattle.actor_store.specs.declared.store.Break.TheVariants.{Stopped, Failed}
use Rattle.actor_store.specs.declared.store.Standing.{Standing}
use Rattle.actor_store.specs.declared.store.Standing.TheVariants.{Up}
use Rattle.actor_store.specs.Store.{Called, Ends, Passes, is_up, stopped_disk}
use Rattle.actor_store.proofs.ForCallers.{called_stopped, from_later, passes_none, stopped_disk-all, used_none}
use Rattle.coord_core.specs.declared.coord.CoordCore.{CoordCore}
use Rattle.coord_tables.specs.declared.tables.Tables.{Tables}
use Rattle.coord_tables.specs.Trees.{noted}
use Rattle.coord_core.specs.Pending.{IsAnswered, IsPending, IsReady}
use Rattle.coord_tables.specs.Terms.{IsSound, IsUsual, Terms, answer_of, line_of}
use Rattle.coord_core.specs.Found.{opens, was_found}
use Rattle.coord_core.specs.Stands.{Fails, Stands, Steps, StopsBefore, StopsWithin, TablesStand, calls_for}
use Rattle.coord_core.specs.Store.{Keeps}
use Rattle.coord_tables.proofs.ForCallers.{attempts_same, sound_more}
use Rattle.coord_core.proofs.CalledLaws.{called_quiet, few_for}
use Rattle.coord_core.proofs.Still.{kept_records, stands_stop, stop_line, stopped_is}
use Rattle.coord_core.proofs.Trips.{trip_hidden}

-- a coordinator that is up answers, unless a trip stops the line
pub usual_line : (terms : Terms) (past : CoordPast) (event : CoordEvent) → IsUsual event → is_down past ≡ false → line_of terms past event ≡ unless_tripped past (answer_of terms past event)
unfolding coord_line when
usual_line terms past (Ev.Go tid steps) u up = ap (λ b. when b (quiet (Ev.Go tid steps) Say.Down) (unless_tripped past (answer_of terms past (Ev.Go tid steps)))) up
usual_line terms past (Ev.Take site message) u up = ap (λ b. when b (quiet (Ev.Take site message) Say.Down) (unless_tripped past (answer_of terms past (Ev.Take site message)))) up
usual_line terms past (Ev.Again tid) u up = ap (λ b. when b (quiet (Ev.Again tid) Say.Down) (unless_tripped past (answer_of terms past (Ev.Again tid)))) up
usual_line terms past (Ev.Late tid) u up = ap (λ b. when b (quiet (Ev.Late tid) Say.Down) (unless_tripped past (answer_of terms past (Ev.Late tid)))) up
usual_line terms past (Ev.Fate tx) u up = ap (λ b. when b (quiet (Ev.Fate tx) Say.Down) (unless_tripped past (answer_of terms past (Ev.Fate tx)))) up
usual_line terms past (Ev.Halt cut) u up = absurd u
usual_line terms past (Ev.Trip calls cut) u up = absurd u
usual_line terms past Ev.Back u up = absurd u
usual_line terms past Ev.Check u up = ap (λ b. when b (quiet Ev.Check Say.Down) (unless_tripped past (answer_of terms past Ev.Check))) up

pub halt_line : (terms : Terms) (past : CoordPast) (cut : ℕ) → is_down past ≡ false → line_of terms past (Ev.Halt cut) ≡ stop_line past (Ev.Halt cut) (Stops cut ∷ [])
unfolding coord_line when
halt_line terms past cut up =
    ap (λ b. when b (quiet (Ev.Halt cut) Say.Down) (stopped coord_frame (Past.disk past) (Ev.Halt cut) (Stops cut ∷ []))) up
    ∙ stopped_is past (Ev.Halt cut) (Stops cut ∷ [])

pub trip_line : (terms : Terms) (past : CoordPast) (calls cut : ℕ) → line_of terms past (Ev.Trip calls cut) ≡ quiet (Ev.Trip calls cut) Say.Set
unfolding coord_line
trip_line terms past calls cut = refl

-- no usual event sets a trip
pub usual_sets : (event : CoordEvent) → IsUsual event → trip_of event ≡ None
usual_sets (Ev.Go tid steps) u = refl
usual_sets (Ev.Take site message) u = refl
usual_sets (Ev.Again tid) u = refl
usual_sets (Ev.Late tid) u = refl
usual_sets (Ev.Fate tx) u = refl
usual_sets (Ev.Halt cut) u = absurd u
usual_sets (Ev.Trip calls cut) u = absurd u
usual_sets Ev.Back u = absurd u
usual_sets Ev.Check u = refl

pub passes_is : (past : CoordPast) (x : CoordHappening) → Passes (Past.trip past) (length x.calls) → unless_tripped past x ≡ x
unfolding tripped when
passes_is past x passes = from (Past.trip past) passes where
  from : (t : Option Trip) → Passes t (length x.calls) → tripped coord_frame (Past.disk past) t x ≡ x
  from None p = refl
  from (Some trip) p = by_test (leb trip.calls (length x.calls)) refl where
    by_test : (b : Bool) → leb trip.calls (length x.calls) ≡ b → when (leb trip.calls (length x.calls)) (stopped coord_frame (Past.disk past) x.event (take trip.calls x.calls ++ Stops trip.cut ∷ [])) x ≡ x
    by_test true e = let few : trip.calls ≤ length x.calls = leb-true _ _ e in absurd (omega (arith, p))
    by_test false e = ap (λ b. when b (stopped coord_frame (Past.disk past) x.event (take trip.calls x.calls ++ Stops trip.cut ∷ [])) x) e

pub trips_is : (past : CoordPast) (x : CoordHappening) (s : Trip) → Past.trip past ≡ Some s → s.calls ≤ length x.calls
    → unless_tripped past x ≡ stop_line past x.event (take s.calls x.calls ++ Stops s.cut ∷ [])
unfolding tripped when
trips_is past x s is few =
    ap (λ (o : Option Trip). tripped coord_frame (Past.disk past) o x) is
    ∙ ap (λ b. when b (stopped coord_frame (Past.disk past) x.event (take s.calls x.calls ++ Stops s.cut ∷ [])) x) (le-leb _ _ few)
    ∙ stopped_is past x.event (take s.calls x.calls ++ Stops s.cut ∷ [])

-- a stop is printed as it is
prints_stop : (protocols : List Participant) (past : CoordPast) (x : CoordHappening) (event : CoordEvent) (kept : ℕ) → Say.Stopped kept ≡ x.answer → MayPrint protocols past x event (Say.Stopped kept)
prints_stop protocols past x (Ev.Take site message) kept e = e
prints_stop protocols past x (Ev.Go tid steps) kept e = e
prints_stop protocols past x (Ev.Again tid) kept e = e
prints_stop protocols past x (Ev.Late tid) kept e = e
prints_stop protocols past x (Ev.Fate tx) kept e = e
prints_stop protocols past x (Ev.Halt cut) kept e = e
prints_stop protocols past x (Ev.Trip calls cut) kept e = e
prints_stop protocols past x Ev.Back kept e = e
prints_stop protocols past x Ev.Check kept e = e

pub stop_prints : (protocols : List Participant) (past : CoordPast) (event : CoordEvent) (calls : List (Call CoordRecord)) (kept : ℕ) (answer : Answer)
    → answer ≡ Say.Stopped kept → kept ≡ length (DiskWords.journal coord_frame (after_calls coord_frame (Past.disk past) calls)) → MayPrint protocols past (stop_line past event calls) event answer
stop_prints protocols past event calls kept answer said count =
    subst (λ (a : Answer). MayPrint protocols past (stop_line past event calls) event a) (sym said)
    (prints_stop protocols past (stop_line past event calls) event kept (ap (λ (n : ℕ). Say.Stopped n) count))

-- an event that comes where it came comes behind a trip too
numbered_behind : (past : CoordPast) (calls cut : ℕ) (event : CoordEvent) → IsNumbered past event → IsNumbered (quiet (Ev.Trip calls cut) Say.Set ∷ past) event
numbered_behind past calls cut (Ev.Go tid steps) n = n
numbered_behind past calls cut (Ev.Take site message) n = tt
numbered_behind past calls cut (Ev.Again tid) n = tt
numbered_behind past calls cut (Ev.Late tid) n = tt
numbered_behind past calls cut (Ev.Fate tx) n = tt
numbered_behind past calls cut (Ev.Halt cut') n = tt
numbered_behind past calls cut (Ev.Trip calls' cut') n = tt
numbered_behind past calls cut Ev.Back n = tt
numbered_behind past calls cut Ev.Check n = tt

module _ {P : Type 0} (test : P → Policy) (tells : Bool) (terms : Terms) (past : CoordPast) where
  -- a past behind which a trip was set is made by events
  sound_trip : (calls cut : ℕ) → IsSound terms past → IsSound terms (quiet (Ev.Trip calls cut) Say.Set ∷ past)
  sound_trip calls cut s = sound_more terms past (Ev.Trip calls cut) (quiet (Ev.Trip calls cut) Say.Set) s (trip_line terms past calls cut) tt s.in_range

  module _ (core : CoordCore P) (seen : Seen) (sound : IsSound terms past) (up : is_down past ≡ false) (sites : core.protocols ≡ terms.protocols) (policy : test core.policy ≡ terms.policy)
      (begun : (tx : Tx) → noted core.begun.listed tx ≡ attempts_of past tx) (down : is_up core.store.standing ≡ false) where
    -- a call failed before any was made
    before : (cut : ℕ) (calls : List (Call CoordRecord)) → calls ≡ Stops cut ∷ [] → Keeps (was_found past) tells seen core.store (after_calls coord_frame (Past.disk past) calls) None → StopsBefore test tells core seen terms past
    before cut calls one k =
        let y = quiet (Ev.Trip 0 0) Say.Set in
        let kept : Keeps (was_found past) tells seen core.store (after_calls coord_frame (Past.disk (y ∷ past)) (Stops cut ∷ [])) None =
        subst (λ (cs : List (Call CoordRecord)). Keeps (was_found past) tells seen core.store (after_calls coord_frame (Past.disk past) cs) None) one k in
        let stood = stands_stop test tells core seen terms (y ∷ past) (Ev.Halt cut) (Stops cut ∷ []) (halt_line terms (y ∷ past) cut up) tt (sound_trip 0 0 sound) sites policy begun kept down in
        let lines : CoordPast → CoordHappening → Type 0 = λ q h. Stands test tells core seen terms (h ∷ q) in
        let told = subst (λ h. lines (y ∷ past) h) (sym (halt_line terms (y ∷ past) cut up)) stood in
        record {
          cut = cut;
          stood = subst (λ (h : CoordHappening). Stands test tells core seen terms (line_of terms (h ∷ past) (Ev.Halt cut) ∷ h ∷ past)) (sym (trip_line terms past 0 0)) told;
        }

    -- a call failed after so many were made
    within : (event : CoordEvent) (x : CoordHappening) → IsUsual event → answer_of terms past event ≡ x → x.event ≡ event → IsNumbered past event → (n cut : ℕ) → suc n ≤ length x.calls
        → Keeps (was_found past) tells seen core.store (after_calls coord_frame (Past.disk past) (take (suc n) x.calls ++ Stops cut ∷ [])) None → StopsWithin test tells core seen terms past event
    within event x usual is heard numbered n cut few k =
        let y = quiet (Ev.Trip (suc n) cut) Say.Set in
        let calls = take (suc n) x.calls ++ Stops cut ∷ [] in
        let line : line_of terms (y ∷ past) event ≡ stop_line (y ∷ past) event calls =
        usual_line terms (y ∷ past) event usual up
        ∙ ap (unless_tripped (y ∷ past)) (trip_hidden terms.protocols terms.policy past (suc n) cut event usual ∙ is)
        ∙ trips_is (y ∷ past) x (record { calls = suc n; cut = cut }) (cond-false _ _ _ (suc_not_zero n)) few
        ∙ ap (λ e. stop_line (y ∷ past) e calls) heard in
        let stood = stands_stop test tells core seen terms (y ∷ past) event calls line (numbered_behind past (suc n) cut event numbered) (sound_trip (suc n) cut sound) sites policy begun k down in
        let told = subst (λ (h : CoordHappening). Stands test tells core seen terms (h ∷ y ∷ past)) (sym line) stood in
        let ends : stops (line_of terms (y ∷ past) event).answer ≡ true = ap (λ (h : CoordHappening). stops h.answer) line in
        record {
          calls = suc n;
          cut = cut;
          stops = subst (λ (h : CoordHappening). stops (line_of terms (h ∷ past) event).answer ≡ true) (sym (trip_line terms past (suc n) cut)) ends;
          stood = subst (λ (h : CoordHappening). Stands test tells core seen terms (line_of terms (h ∷ past) event ∷ h ∷ past)) (sym (trip_line terms past (suc n) cut)) told;
        }

    -- a call failed
    pub fails_by : (event : CoordEvent) (x : CoordHappening) → IsUsual event → answer_of terms past event ≡ x → x.event ≡ event → IsNumbered past event
        → (n : ℕ) × (cut : ℕ) × Keeps (was_found past) tells seen core.store (stopped_disk coord_frame n cut (Past.disk past) x.calls) None
        → StopsBefore test tells core seen terms past ⊎ StopsWithin test tells core seen terms past event
    fails_by event x usual is heard numbered (n, cut, k) = elim (cases_lt (length x.calls) n) [
      | inl more ↦ few (length x.calls) (omega arith) (subst (λ (d : Disk CoordRecord). Keeps (was_found past) tells seen core.store d None) (stopped_disk-all coord_frame n cut (Past.disk past) x.calls (omega arith)) k)
      | inr less ↦ few n (omega arith) k
    ]
      where
        few : (m : ℕ) → m ≤ length x.calls → Keeps (was_found past) tells seen core.store (stopped_disk coord_frame m cut (Past.disk past) x.calls) None
            → StopsBefore test tells core seen terms past ⊎ StopsWithin test tells core seen terms past event
        few zero le k = inl (before cut (take 0 x.calls ++ Stops cut ∷ []) (ap (λ (cs : List (Call CoordRecord)). cs ++ Stops cut ∷ []) (take_none x.calls)) k)
        few (suc m) le k = inr (within event x usual is heard numbered m cut le k)

-- a line whose tables stand already
module _ {P : Type 0} (test : P → Policy) (tells : Bool) (step : CoordStep) (old new : CoordCore P) (before after : Seen)
    (terms : Terms) (past : CoordPast) (event : CoordEvent) (x : CoordHappening) (a : IsAnswered step terms past event x) (r : IsReady test tells old before terms past x)
    (sites : new.protocols ≡ old.protocols) (policy : new.policy ≡ old.policy) (tables : new.tables ≡ old.tables) (begun : new.begun ≡ old.begun) where
  line_is : line_of terms past event ≡ unless_tripped past x
  line_is = usual_line terms past event a.usual r.up ∙ ap (unless_tripped past) a.line

  -- all calls are made
  pub ends_made : Passes (Past.trip past) (length x.calls) → Keeps (was_found past) tells after new.store (after_calls coord_frame (Past.disk past) x.calls) (used (length x.calls) (Past.trip past))
      → new.store.standing ≡ Up → HasCalled (0 + can_fail x.calls) before after → Steps test tells 0 before step new after terms past (line_of terms past event)
  ends_made passes kept up called =
      let is = line_is ∙ passes_is past x passes in
      let left : used (length x.calls) (Past.trip past) ≡ Past.trip (x ∷ past) =
      sym (cond-false _ _ _ a.goes ∙ ap (λ o. set o (used (length x.calls) (Past.trip past))) (ap trip_of a.heard ∙ usual_sets event a.usual)) in
      let k = subst (λ (t : Option Trip). Keeps (was_found past) tells after new.store (after_calls coord_frame (Past.disk past) x.calls) t) left kept in
      let T : Tables → Standing → Type 0 = λ t s. TablesStand t s terms (x ∷ past) in
      subst (λ (y : CoordHappening). Steps test tells 0 before step new after terms past y) (sym is)
      (record {
        answer = a.answer;
        sends = a.sends;
        stood = record {
          holds = record {
            protocols = sites ∙ r.protocols;
            policy = ap test policy ∙ r.policy;
            sound = sound_more terms past event x r.sound is a.numbered r.in_range;
            records = kept_records tells after new.store (Past.disk (x ∷ past)) (Past.trip (x ∷ past)) k;
            trip = k.behind.trip;
            armed = k.behind.armed;
            standing = cond-false _ _ _ a.goes ∙ cond-false _ _ _ a.stays ∙ r.up ∙ sym (ap (λ s. not (is_up s)) up);
            tables = subst (λ s. T new.tables s) (sym up) (subst (λ t. T t Up) (sym tables) r.serving);
            begun = λ tx. ap (λ b. noted b.listed tx) begun ∙ r.begun tx;
          };
          stored = from_later (opens x) k;
        };
        called = called;
      })

-- and whose disk calls are to be made
module _ {P : Type 0} (test : P → Policy) (tells : Bool) (calls : List (Call CoordRecord)) (step : CoordStep) (old new : CoordCore P) (before after : Seen)
    (terms : Terms) (past : CoordPast) (event : CoordEvent) (x : CoordHappening) (p : IsPending test tells calls step old before terms past event x)
    (sites : new.protocols ≡ old.protocols) (policy : new.policy ≡ old.policy) (tables : new.tables ≡ old.tables) (begun : new.begun ≡ old.begun) where
  begun_behind : (tx : Tx) → noted new.begun.listed tx ≡ attempts_of past tx
  begun_behind tx = ap (λ b. noted b.listed tx) begun ∙ p.ready.begun tx ∙ attempts_same past x p.none_begun tx

  pub pending_made : Passes (Past.trip past) (length calls) × Keeps (was_found past) tells after new.store (after_calls coord_frame (Past.disk past) calls) (used (length calls) (Past.trip past))
      → new.store.standing ≡ Up → HasCalled (0 + can_fail calls) before after → Steps test tells 0 before step new after terms past (line_of terms past event)
  pending_made e up called =
      let M : List (Call CoordRecord) → Type 0 = λ cs. Passes (Past.trip past) (length cs) × Keeps (was_found past) tells after new.store (after_calls coord_frame (Past.disk past) cs) (used (length cs) (Past.trip past)) in
      let m = subst M (sym p.makes) e in
      let H : List (Call CoordRecord) → Type 0 = λ cs. HasCalled (0 + can_fail cs) before after in
      ends_made test tells step old new before after terms past event x p.answered p.ready sites policy tables begun m.0 m.1 up (subst H (sym p.makes) called)

  -- the trip comes within the calls
  pub pending_stopped : (ended : CoordStep) (kept : ℕ) → Ends {A = ℕ} coord_frame (Keeps (was_found past) tells after new.store) (Past.disk past) (Past.trip past) calls (Err (Stopped kept))
      → is_up new.store.standing ≡ false → ended.answer ≡ Say.Stopped kept → ended.sends ≡ []
      → can_fail calls ≡ length calls → Called {A = ℕ} 0 (Past.trip past) calls before after (Err (Stopped kept)) → Steps test tells 0 before ended new after terms past (line_of terms past event)
  pending_stopped ended kept e down said silent all called =
      let ends = subst (λ (cs : List (Call CoordRecord)). Ends {A = ℕ} coord_frame (Keeps (was_found past) tells after new.store) (Past.disk past) (Past.trip past) cs (Err (Stopped kept))) (sym p.makes) e in
      let (s, is, few, k, count) = ends in
      let F : List (Call CoordRecord) → Type 0 = λ cs. can_fail cs ≡ length cs in
      let stop = take s.calls x.calls ++ Stops s.cut ∷ [] in
      let line : line_of terms past event ≡ stop_line past event stop =
      usual_line terms past event p.answered.usual p.ready.up ∙ ap (unless_tripped past) p.answered.line ∙ trips_is past x s is few ∙ ap (λ ev. stop_line past ev stop) p.answered.heard in
      subst (λ (y : CoordHappening). Steps test tells 0 before ended new after terms past y) (sym line)
      (record {
        answer = stop_prints terms.protocols past event stop kept ended.answer said count;
        sends = silent;
        stood = stands_stop test tells new after terms past event stop line p.answered.numbered p.ready.sound (sites ∙ p.ready.protocols) (ap test policy ∙ p.ready.policy) begun_behind k down;
        called = called_stopped 0 (Past.trip past) s x.calls before after kept (subst F (sym p.makes) all) is few called;
      })

  -- a call fails
  pub pending_failed : Ends {A = ℕ} coord_frame (Keeps (was_found past) tells after new.store) (Past.disk past) (Past.trip past) calls (Err Failed)
      → is_up new.store.standing ≡ false → HasCalledAtMost (0 + length calls) before after → Fails test tells (0 + calls_for terms past event) before Err_is.Disk new after terms past event
  pending_failed e down few =
      let ends = subst (λ (cs : List (Call CoordRecord)). Ends {A = ℕ} coord_frame (Keeps (was_found past) tells after new.store) (Past.disk past) (Past.trip past) cs (Err Failed)) (sym p.makes) e in (
        fails_by test tells terms past new after p.ready.sound p.ready.up (sites ∙ p.ready.protocols) (ap test policy ∙ p.ready.policy) begun_behind down
            event x p.answered.usual p.answered.line p.answered.heard p.answered.numbered ends,
        few_for terms past event 0 calls before after (ap (λ (y : CoordHappening). y.calls) p.answered.line ∙ p.makes) few,
      )

-- a line that makes no disk call
pub pending_quiet : {P : Type 0} (test : P → Policy) (tells : Bool) (step : CoordStep) (core : CoordCore P) (seen : Seen) (terms : Terms) (past : CoordPast) (event : CoordEvent) (x : CoordHappening)
    → IsPending test tells [] step core seen terms past event x → core.store.standing ≡ Up → Steps test tells 0 seen step core seen terms past (line_of terms past event)
pending_quiet test tells step core seen terms past event x p up =
    let passes : Passes (Past.trip past) 0 = subst (λ t. Passes t 0) p.ready.stored.behind.trip (passes_none core.store.trip p.ready.stored.behind.armed) in
    let kept : Keeps (was_found past) tells seen core.store (Past.disk past) (used 0 (Past.trip past)) = subst (λ (t : Option Trip). Keeps (was_found past) tells seen core.store (Past.disk past) t) (sym (used_none (Past.trip past))) p.ready.stored in
    pending_made test tells [] step core core seen seen terms past event x p refl refl refl refl (passes, kept) up (no_call seen seen refl)

-- the same of a line that begins an attempt
pub ready_quiet : {P : Type 0} (test : P → Policy) (tells : Bool) (step : CoordStep) (core : CoordCore P) (seen : Seen) (terms : Terms) (past : CoordPast) (event : CoordEvent) (x : CoordHappening)
    → IsAnswered step terms past event x → IsReady test tells core seen terms past x → x.calls ≡ [] → core.store.standing ≡ Up → Steps test tells 0 seen step core seen terms past (line_of terms past event)
ready_quiet test tells step core seen terms past event x a r none up =
    let M : List (Call CoordRecord) → Type 0 = λ cs. Passes (Past.trip past) (length cs) × Keeps (was_found past) tells seen core.store (after_calls coord_frame (Past.disk past) cs) (used (length cs) (Past.trip past)) in
    let passes : Passes (Past.trip past) 0 = subst (λ t. Passes t 0) r.stored.behind.trip (passes_none core.store.trip r.stored.behind.armed) in
    let kept : Keeps (was_found past) tells seen core.store (Past.disk past) (used 0 (Past.trip past)) = subst (λ (t : Option Trip). Keeps (was_found past) tells seen core.store (Past.disk past) t) (sym (used_none (Past.trip past))) r.stored in
    let m = subst M (sym none) (passes, kept) in
    ends_made test tells step core core seen seen terms past event x a r refl refl refl refl m.0 m.1 up (called_quiet x.calls seen seen none refl)
