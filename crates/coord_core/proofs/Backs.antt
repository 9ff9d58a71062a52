-- The start of a coordinator that is down: it comes through, or a trip stops it, or a disk call fails.
use Rattle.std.proofs.Common.{◌≡◌, ℕ, zero, suc, ◌+◌, ◌≤◌, ◌⊎◌, Bool, true, false, cond, not, Option, None, Err, List, [], ◌∷◌, ◌++◌, length, min, take, refl, sym, ap, ap₂, subst, ◌∙◌, arith, inl, inr}
use Rattle.mdb_base.specs.declared.names.Tx.{Tx}
use Rattle.mdb_base.specs.Words.{how_many, when}
use Rattle.presumptions.specs.declared.Participant.{Participant}
use Rattle.fed_rules.specs.declared.answers.Answer.TheVariants as Say
use Rattle.fed_rules.specs.declared.events.CoordEvent.TheVariants as Ev
use Rattle.fed_rules.specs.declared.events.CoordStep.{CoordStep}
use Rattle.fed_rules.specs.declared.records.CoordRecord.{CoordRecord}
use Rattle.fed_rules.specs.Disk.{Call, CutBack, Disk, Stops, after_call, after_calls, bytes_of, is_torn, oldest_lost, whole}
use Rattle.fed_rules.specs.Happenings.{is_down, quiet, stops, used}
use Rattle.fed_rules.specs.Coord.{coord_line, of_back, unless_tripped}
use Rattle.fed_rules.specs.CoordPast.{CoordHappening, CoordPast, attempts_of}
use Rattle.fed_rules.specs.CoordPast as Past
use Rattle.fed_rules.specs.CoordRecords.{coord_frame, is_kept, recorded}
use Rattle.fed_rules.specs.Policies.{Policy}
use Rattle.fed_rules.proofs.ForCallers.{none_lost, whole_all}
use Rattle.coord_laws.proofs.ForCallers.{any_member, past_sound}
use Rattle.journal_disk.specs.Disk.{HasCalled, HasCalledAtMost, Seen}
use Rattle.journal_rules.specs.Calls.{can_fail}
use Rattle.actor_store.specs.declared.errors.StepErr.TheVariants as Err_is
use Rattle.actor_store.specs.declared.store.Break.TheVariants.{Stopped, Failed}
use Rattle.actor_store.specs.declared.store.Standing.{Standing}
use Rattle.actor_store.specs.declared.store.Standing.TheVariants.{Up, Down, Failing}
use Rattle.actor_store.specs.Store.{Called, Ends, IsInOrder, Passes, cut_calls, is_up}
use Rattle.actor_store.proofs.ForCallers.{called_stopped, from_later, from_trip}
use Rattle.coord_core.specs.declared.coord.CoordCore.{CoordCore}
use Rattle.coord_tables.specs.Trees.{noted}
use Rattle.coord_core.specs.Found.{opens, was_found}
use Rattle.coord_core.specs.Stands.{Fails, Stands, Steps, StopsBefore, StopsWithin, TablesStand, calls_for}
use Rattle.coord_core.specs.Store.{Keeps, Store}
use Rattle.coord_tables.specs.Tables.{IsServing}
use Rattle.coord_tables.specs.Terms.{Terms, IsSound, line_of}
use Rattle.coord_core.proofs.CalledLaws.{few_for, start_calls}
use Rattle.coord_core.proofs.Endings.{passes_is, stop_prints, trip_line, trips_is}
use Rattle.coord_core.proofs.Events.{down_line}
use Rattle.coord_tables.proofs.ForCallers.{sound_more}
use Rattle.coord_core.proofs.Still.{down_is, kept_records, stands_stop, stop_line}

abbrev no_cut : List (Call CoordRecord)
no_cut = []

abbrev one_cut : List (Call CoordRecord)
one_cut = CutBack ∷ []

-- the disk calls of a start
abbrev pub back_calls : CoordPast → List (Call CoordRecord)
back_calls past = cut_calls coord_frame (Past.disk past)

-- each of them can fail
back_fail : (past : CoordPast) → can_fail (back_calls past) ≡ length (back_calls past)
back_fail past = by_test (is_torn coord_frame (Past.disk past)) where
  by_test : (b : Bool) → can_fail (cond b one_cut no_cut) ≡ length (cond b one_cut no_cut)
  by_test true = refl
  by_test false = refl

-- the line of a start that knows so many
abbrev pub up_line : ℕ → CoordPast → CoordHappening
up_line n past = record { event = Ev.Back; answer = Say.UpCoord n; sends = []; calls = back_calls past; lines = [] }

-- it leaves the records
pub back_records : (n : ℕ) (past : CoordPast) → Past.records (up_line n past ∷ past) ≡ Past.records past
back_records n past = by_test (is_torn coord_frame (Past.disk past)) where
  by_test : (b : Bool) → (after_calls coord_frame (Past.disk past) (cond b (CutBack ∷ []) [])).records ≡ Past.records past
  by_test true = refl
  by_test false = refl

back_is : (terms : Terms) (past : CoordPast) (n : ℕ) → n ≡ how_many (is_kept terms.protocols (Past.records past)) (recorded (Past.records past)) → of_back terms.protocols past ≡ up_line n past
unfolding of_back
back_is terms past n count = ap (λ m. up_line m past) (sym count)

back_down : (terms : Terms) (past : CoordPast) → is_down past ≡ true → line_of terms past Ev.Back ≡ unless_tripped past (of_back terms.protocols past)
unfolding coord_line when
back_down terms past down = ap (λ b. when b (unless_tripped past (of_back terms.protocols past)) (quiet Ev.Back Say.Awake)) down

back_goes : (protocols : List Participant) (past : CoordPast) (calls cut : ℕ) → of_back protocols (quiet (Ev.Trip calls cut) Say.Set ∷ past) ≡ of_back protocols past
unfolding of_back
back_goes protocols past calls cut = refl

-- a stop of a disk that is all synced keeps all
stop_same : (rules : Disk CoordRecord) (cut : ℕ) → rules.synced ≡ rules.length → bytes_of coord_frame rules.records ≤ rules.length → after_call coord_frame rules (Stops cut) ≡ rules
stop_same rules cut synced within =
    let n : min rules.length (rules.synced + cut) ≡ rules.length = omega (arith, synced) in
    let lost = none_lost coord_frame rules.length rules.lost rules.records within in
    ap (λ (m : ℕ). record { records = whole coord_frame m rules.records; length = m; synced = m; trimmed = rules.trimmed; lost = oldest_lost coord_frame m rules.lost rules.records }) n
    ∙ ap₂ (λ (rs : List CoordRecord) (m : ℕ). record { records = rs; length = rules.length; synced = m; trimmed = rules.trimmed; lost = oldest_lost coord_frame rules.length rules.lost rules.records }) (whole_all coord_frame rules.length rules.records within) (sym synced)
    ∙ ap (λ (o : Option CoordRecord). record { records = rules.records; length = rules.length; synced = rules.synced; trimmed = rules.trimmed; lost = o }) lost

settled : (standing : Standing) (store : Store) (rules : Disk CoordRecord) → is_up standing ≡ false → IsInOrder standing store.journal rules → rules.synced ≡ rules.length
settled Up store rules e o = cc
settled Down store rules e o = o
settled Failing store rules e o = o

all_within : (terms : Terms) (past : CoordPast) → IsSound terms past → bytes_of coord_frame (Past.records past) ≤ (Past.disk past).length
all_within terms past s = (past_sound terms.protocols terms.policy any_member (record { tx = record { 0 = 0 }; attempt = 0 }) past s.made).firm.sound.frames

module _ {P : Type 0} (test : P → Policy) (tells : Bool) where
  -- a core that is down stands for a past whose disk its store keeps
  pub stands_down : (core : CoordCore P) (seen : Seen) (terms : Terms) (past : CoordPast) → IsSound terms past → core.protocols ≡ terms.protocols → test core.policy ≡ terms.policy
      → ((tx : Tx) → noted core.begun.listed tx ≡ attempts_of past tx) → Keeps (was_found past) tells seen core.store (Past.disk past) (Past.trip past) → is_up core.store.standing ≡ false → is_down past ≡ true
      → Stands test tells core seen terms past
  stands_down core seen terms past sound sites policy begun kept down is = record {
    holds = record {
      protocols = sites;
      policy = policy;
      sound = sound;
      records = kept_records tells seen core.store (Past.disk past) (Past.trip past) kept;
      trip = kept.behind.trip;
      armed = kept.behind.armed;
      standing = is ∙ sym (ap not down);
      tables = off core.store.standing down;
      begun = begun;
    };
    stored = kept;
  } where
    off : (up : Standing) → is_up up ≡ false → TablesStand core.tables up terms past
    off Up e = cc
    off Down e = tt
    off Failing e = tt

  -- one with other tables, and another store that keeps the same
  pub stays_down : (old new : CoordCore P) (before after : Seen) (terms : Terms) (past : CoordPast) → Stands test tells old before terms past → is_up old.store.standing ≡ false
      → Keeps (was_found past) tells after new.store (Past.disk past) (Past.trip past) → new.store.standing ≡ old.store.standing → new.protocols ≡ old.protocols → new.policy ≡ old.policy → new.begun ≡ old.begun
      → Stands test tells new after terms past
  stays_down old new before after terms past k down kept standing sites policy begun =
      stands_down new after terms past k.holds.sound (sites ∙ k.holds.protocols) (ap test policy ∙ k.holds.policy) (λ tx. ap (λ b. noted b.listed tx) begun ∙ k.holds.begun tx) kept
      (ap is_up standing ∙ down) (down_is test tells old terms past k.holds down)

  -- a stop before a start: nothing changes but the trip
  stops_before : (core : CoordCore P) (seen : Seen) (terms : Terms) (past : CoordPast) (cut : ℕ) → IsSound terms past → core.protocols ≡ terms.protocols → test core.policy ≡ terms.policy
      → ((tx : Tx) → noted core.begun.listed tx ≡ attempts_of past tx) → Keeps (was_found past) tells seen core.store (Past.disk past) None → is_up core.store.standing ≡ false → is_down past ≡ true
      → StopsBefore test tells core seen terms past
  stops_before core seen terms past cut sound sites policy begun kept down is =
      let y = quiet (Ev.Trip 0 0) Say.Set in
      let z = quiet (Ev.Halt cut) Say.Down in
      let line : line_of terms (y ∷ past) (Ev.Halt cut) ≡ z = (down_line terms (y ∷ past) (Ev.Halt cut) (λ calls c e. cc) (λ e. cc) is).0 in
      let sound_y = sound_more terms past (Ev.Trip 0 0) y sound (trip_line terms past 0 0) tt sound.in_range in
      let sound_z = sound_more terms (y ∷ past) (Ev.Halt cut) z sound_y line tt sound.in_range in
      let stood = stands_down core seen terms (z ∷ y ∷ past) sound_z sites policy begun kept down is in
      let told = subst (λ (h : CoordHappening). Stands test tells core seen terms (h ∷ y ∷ past)) (sym line) stood in
      record {
        cut = cut;
        stood = subst (λ (h : CoordHappening). Stands test tells core seen terms (line_of terms (h ∷ past) (Ev.Halt cut) ∷ h ∷ past)) (sym (trip_line terms past 0 0)) told;
      }

  -- a start that a failed call stops
  stops_within : (core : CoordCore P) (seen : Seen) (terms : Terms) (past : CoordPast) (n cut : ℕ) → n ≡ how_many (is_kept terms.protocols (Past.records past)) (recorded (Past.records past))
      → IsSound terms past → core.protocols ≡ terms.protocols → test core.policy ≡ terms.policy → ((tx : Tx) → noted core.begun.listed tx ≡ attempts_of past tx)
      → 1 ≤ length (back_calls past) → Keeps (was_found past) tells seen core.store (after_calls coord_frame (Past.disk past) (take 1 (back_calls past) ++ Stops cut ∷ [])) None
      → is_up core.store.standing ≡ false → is_down past ≡ true → StopsWithin test tells core seen terms past Ev.Back
  stops_within core seen terms past n cut count sound sites policy begun some kept down is =
      let y = quiet (Ev.Trip 1 cut) Say.Set in
      let calls = take 1 (back_calls past) ++ Stops cut ∷ [] in
      let line : line_of terms (y ∷ past) Ev.Back ≡ stop_line (y ∷ past) Ev.Back calls =
      back_down terms (y ∷ past) is
      ∙ ap (unless_tripped (y ∷ past)) (back_goes terms.protocols past 1 cut ∙ back_is terms past n count)
      ∙ trips_is (y ∷ past) (up_line n past) (record { calls = 1; cut = cut }) refl some in
      let sound_y = sound_more terms past (Ev.Trip 1 cut) y sound (trip_line terms past 1 cut) tt sound.in_range in
      let stood = stands_stop test tells core seen terms (y ∷ past) Ev.Back calls line tt sound_y sites policy begun kept down in
      let told = subst (λ (h : CoordHappening). Stands test tells core seen terms (h ∷ y ∷ past)) (sym line) stood in
      let ends : stops (line_of terms (y ∷ past) Ev.Back).answer ≡ true = ap (λ (h : CoordHappening). stops h.answer) line in
      record {
        calls = 1;
        cut = cut;
        stops = subst (λ (h : CoordHappening). stops (line_of terms (h ∷ past) Ev.Back).answer ≡ true) (sym (trip_line terms past 1 cut)) ends;
        stood = subst (λ (h : CoordHappening). Stands test tells core seen terms (line_of terms (h ∷ past) Ev.Back ∷ h ∷ past)) (sym (trip_line terms past 1 cut)) told;
      }

  -- the records weren't read: the coordinator stays down, and the trip is disarmed
  pub read_failed : (old new : CoordCore P) (store : Store) (before after : Seen) (terms : Terms) (past : CoordPast) → Stands test tells old before terms past → is_up old.store.standing ≡ false
      → Keeps (was_found past) tells after store (Past.disk past) (Past.trip past) → store.standing ≡ old.store.standing → new ≡ record old { store = record store { trip = None } }
      → (most : ℕ) → HasCalledAtMost most before after → Fails test tells most before Err_is.Disk new after terms past Ev.Back
  read_failed old new store before after terms past k down kept standing same most few =
      let disarmed : Keeps (was_found past) tells after (record store { trip = None }) (Past.disk past) None = from_trip kept None refl tt in
      let core : CoordCore P = record old { store = record store { trip = None } } in
      subst (λ (c : CoordCore P). Fails test tells most before Err_is.Disk c after terms past Ev.Back) (sym same)
      (inl (stops_before core after terms past 0 k.holds.sound k.holds.protocols k.holds.policy k.holds.begun disarmed (ap is_up standing ∙ down) (down_is test tells old terms past k.holds down)), few)

  module _ (old new : CoordCore P) (before after : Seen) (terms : Terms) (past : CoordPast) (k : Stands test tells old before terms past) (down : is_up old.store.standing ≡ false)
      (n : ℕ) (count : n ≡ how_many (is_kept terms.protocols (Past.records past)) (recorded (Past.records past)))
      (sites : new.protocols ≡ old.protocols) (policy : new.policy ≡ old.policy) (begun : new.begun ≡ old.begun) where
    is : is_down past ≡ true
    is = down_is test tells old terms past k.holds down

    noted_as : (tx : Tx) → noted new.begun.listed tx ≡ attempts_of past tx
    noted_as tx = ap (λ b. noted b.listed tx) begun ∙ k.holds.begun tx

    -- it comes through
    pub back_done : (step : CoordStep) → Passes (Past.trip past) (length (back_calls past)) × Keeps (was_found past) tells after new.store (after_calls coord_frame (Past.disk past) (back_calls past)) (used (length (back_calls past)) (Past.trip past))
        → new.store.standing ≡ Up → IsServing new.tables terms (up_line n past ∷ past) → step.answer ≡ Say.UpCoord n → step.sends ≡ []
        → (beside : ℕ) → HasCalled (beside + length (back_calls past)) before after → Steps test tells beside before step new after terms past (line_of terms past Ev.Back)
    back_done step ends up serving said silent beside called =
        let x = up_line n past in
        let line : line_of terms past Ev.Back ≡ x = back_down terms past is ∙ ap (unless_tripped past) (back_is terms past n count) ∙ passes_is past x ends.0 in
        let T : Standing → Type 0 = λ s. TablesStand new.tables s terms (x ∷ past) in
        let H : ℕ → Type 0 = λ m. HasCalled (beside + m) before after in
        subst (λ (y : CoordHappening). Steps test tells beside before step new after terms past y) (sym line)
        (record {
          answer = said;
          sends = silent;
          stood = record {
            holds = record {
              protocols = sites ∙ k.holds.protocols;
              policy = ap test policy ∙ k.holds.policy;
              sound = sound_more terms past Ev.Back x k.holds.sound line tt k.holds.sound.in_range;
              records = kept_records tells after new.store (Past.disk (x ∷ past)) (Past.trip (x ∷ past)) ends.1;
              trip = ends.1.behind.trip;
              armed = ends.1.behind.armed;
              standing = sym (ap (λ s. not (is_up s)) up);
              tables = subst T (sym up) serving;
              begun = noted_as;
            };
            stored = from_later (opens x) ends.1;
          };
          called = subst H (sym (back_fail past)) called;
        })

    -- the trip comes within its calls
    pub back_stopped : (step : CoordStep) (kept : ℕ) → Ends {A = ℕ} coord_frame (Keeps (was_found past) tells after new.store) (Past.disk past) (Past.trip past) (back_calls past) (Err (Stopped kept))
        → is_up new.store.standing ≡ false → step.answer ≡ Say.Stopped kept → step.sends ≡ []
        → (beside : ℕ) → Called {A = ℕ} beside (Past.trip past) (back_calls past) before after (Err (Stopped kept)) → Steps test tells beside before step new after terms past (line_of terms past Ev.Back)
    back_stopped step kept (s, set, few, keeps, count_kept) off said silent beside called =
        let x = up_line n past in
        let stop = take s.calls x.calls ++ Stops s.cut ∷ [] in
        let line : line_of terms past Ev.Back ≡ stop_line past Ev.Back stop =
        back_down terms past is ∙ ap (unless_tripped past) (back_is terms past n count) ∙ trips_is past x s set few in
        subst (λ (y : CoordHappening). Steps test tells beside before step new after terms past y) (sym line)
        (record {
          answer = stop_prints terms.protocols past Ev.Back stop kept step.answer said count_kept;
          sends = silent;
          stood = stands_stop test tells new after terms past Ev.Back stop line tt k.holds.sound (sites ∙ k.holds.protocols) (ap test policy ∙ k.holds.policy) noted_as keeps off;
          called = called_stopped beside (Past.trip past) s (back_calls past) before after kept (back_fail past) set few called;
        })

    -- what a failed call leaves
    left_by_failure : Ends {A = ℕ} coord_frame (Keeps (was_found past) tells after new.store) (Past.disk past) (Past.trip past) (back_calls past) (Err Failed)
        → is_up new.store.standing ≡ false → StopsBefore test tells new after terms past ⊎ StopsWithin test tells new after terms past Ev.Back
    left_by_failure (m, cut, keeps) off = by_torn (is_torn coord_frame (Past.disk past)) refl m keeps where
      synced : (Past.disk past).synced ≡ (Past.disk past).length
      synced = settled old.store.standing old.store (Past.disk past) down k.stored.behind.in_order

      before_it : Keeps (was_found past) tells after new.store (after_calls coord_frame (Past.disk past) (Stops cut ∷ [])) None → StopsBefore test tells new after terms past ⊎ StopsWithin test tells new after terms past Ev.Back
      before_it j =
          let here = subst (λ (d : Disk CoordRecord). Keeps (was_found past) tells after new.store d None) (stop_same (Past.disk past) cut synced (all_within terms past k.holds.sound)) j in
          inl (stops_before new after terms past cut k.holds.sound (sites ∙ k.holds.protocols) (ap test policy ∙ k.holds.policy) noted_as here off is)

      by_torn : (b : Bool) → is_torn coord_frame (Past.disk past) ≡ b → (i : ℕ) → Keeps (was_found past) tells after new.store (after_calls coord_frame (Past.disk past) (take i (back_calls past) ++ Stops cut ∷ [])) None
          → StopsBefore test tells new after terms past ⊎ StopsWithin test tells new after terms past Ev.Back
      by_torn false e i j = before_it (subst (λ (cs : List (Call CoordRecord)). Keeps (was_found past) tells after new.store (after_calls coord_frame (Past.disk past) (cs ++ Stops cut ∷ [])) None) (ap (λ b. take i (cond b one_cut no_cut)) e ∙ nothing i) j) where
        nothing : (h : ℕ) → take h no_cut ≡ no_cut
        nothing zero = refl
        nothing (suc h) = refl
      by_torn true e zero j = before_it (subst (λ (cs : List (Call CoordRecord)). Keeps (was_found past) tells after new.store (after_calls coord_frame (Past.disk past) (cs ++ Stops cut ∷ [])) None) (ap (λ b. take 0 (cond b one_cut no_cut)) e) j)
      by_torn true e (suc i) j =
          let one : take (suc i) (back_calls past) ≡ take 1 (back_calls past) = ap (λ b. take (suc i) (cond b one_cut no_cut)) e ∙ nothing_more i ∙ sym (ap (λ b. take 1 (cond b one_cut no_cut)) e) in
          let some : length (back_calls past) ≡ 1 = ap (λ b. length (cond b one_cut no_cut)) e in
          inr (stops_within new after terms past n cut count k.holds.sound (sites ∙ k.holds.protocols) (ap test policy ∙ k.holds.policy) noted_as (omega (arith, some))
          (subst (λ (cs : List (Call CoordRecord)). Keeps (was_found past) tells after new.store (after_calls coord_frame (Past.disk past) (cs ++ Stops cut ∷ [])) None) one j) off is)
        where
          nothing_more : (h : ℕ) → take (suc h) one_cut ≡ one_cut
          nothing_more zero = refl
          nothing_more (suc h) = refl

    -- a call fails
    pub back_failed : Ends {A = ℕ} coord_frame (Keeps (was_found past) tells after new.store) (Past.disk past) (Past.trip past) (back_calls past) (Err Failed)
        → is_up new.store.standing ≡ false
        → (beside : ℕ) → HasCalledAtMost (beside + length (back_calls past)) before after → Fails test tells (beside + calls_for terms past Ev.Back) before Err_is.Disk new after terms past Ev.Back
    back_failed ends off beside few =
        let line = start_calls terms past (up_line n past) (back_is terms past n count) in
        (left_by_failure ends off, few_for terms past Ev.Back beside (back_calls past) before after line few)
