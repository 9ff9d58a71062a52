-- A Checkpoint: what the core stands for behind it.
use Rattle.std.proofs.Common.{◌≡◌, ℕ, ◌+◌, Bool, true, false, None, Err, List, [], ◌∷◌, ◌++◌, length, take, refl, sym, ap, ◌∙◌, subst, arith}
use Rattle.std.specs.Prelude.{nat_lt, option_to_list}
use Rattle.std.proofs.lemmas.Bool.{ltb-false}
use Rattle.mdb_base.specs.Words.{when}
use Rattle.fed_rules.specs.declared.answers.Answer.TheVariants as Say
use Rattle.fed_rules.specs.declared.events.SiteEvent.TheVariants as Ev
use Rattle.fed_rules.specs.declared.events.SiteStep.{SiteStep}
use Rattle.fed_rules.specs.declared.records.SiteRecord.{SiteRecord}
use Rattle.fed_rules.specs.declared.records.SiteRecord.TheVariants as Rec
use Rattle.fed_rules.specs.declared.sums.SiteSum.{SiteSum}
use Rattle.fed_rules.specs.Disk.{Call, Append, Sync, TrimFront, Stops, after_calls, longest}
use Rattle.fed_rules.specs.Happenings.{quiet, used}
use Rattle.fed_rules.specs.Runs as Lines
use Rattle.fed_rules.specs.Runs.{EngineLine}
use Rattle.fed_rules.specs.Site.{of_check, unless_tripped}
use Rattle.fed_rules.specs.SitePast.{SiteHappening, SitePast, engine_lines, epoch_start, is_closed}
use Rattle.fed_rules.specs.SitePast as Past
use Rattle.fed_rules.specs.SiteRecords.{Home, local_of, site_frame, site_payload}
use Rattle.fed_rules.specs.SiteSums.{site_sum}
use Rattle.journal_disk.specs.Disk.{HasCalled, HasCalledAtMost, Seen}
use Rattle.journal_disk.specs.Frames.{IsPayload}
use Rattle.site_journal.specs.Spelling.{spelling}
use Rattle.actor_store.specs.declared.errors.StepErr.TheVariants as Err_is
use Rattle.actor_store.specs.declared.store.Break.TheVariants.{Stopped, Failed}
use Rattle.actor_store.specs.declared.store.Standing.{Standing}
use Rattle.actor_store.specs.declared.store.Standing.TheVariants.{Up, Down, Failing}
use Rattle.actor_store.specs.Store.{Called, Passes, is_up}
use Rattle.actor_store.proofs.ForCallers.{called_stopped}
use Rattle.site_book.specs.Book.{begun_in}
use Rattle.site_core.specs.declared.site.SiteCore.{SiteCore}
use Rattle.site_core.specs.Stands.{Answers, Breaks, Carries, IsIn, IsOfKind, IsUp, Stands, calls_for}
use Rattle.site_core.specs.Made.{was_found}
use Rattle.site_core.specs.Store.{Ends, Keeps}
use Rattle.site_core.proofs.CalledLaws.{check_calls}
use Rattle.site_core.proofs.LineLaws.{check_up}
use Rattle.site_core.proofs.NotesLaws.{notes_same}
use Rattle.site_core.proofs.OnceLaws.{once_stopped}
use Rattle.site_core.proofs.RememberLaws.{IsPlain, answers_as, answers_quiet, carries_line, carries_same, carries_stop, is_up_at, kind_at, passes_is, stop_line, trips_is, up_is}
use Rattle.site_core.proofs.SetUpLaws.{payload_of}
use Rattle.site_core.proofs.StopLaws.{GoesOn, breaks_up, trip_line}
use Rattle.site_core.proofs.UpLaws.{adds_quiet, closed_same, up_line}

-- one that isn't too long fits a frame
pub checkpoint_fits : (sum : SiteSum) → nat_lt longest (site_payload (Rec.Checkpoint sum)) ≡ false → IsPayload (spelling (Rec.Checkpoint sum))
checkpoint_fits sum small = let most = ltb-false longest (site_payload (Rec.Checkpoint sum)) small in payload_of (Rec.Checkpoint sum) (omega (arith, most))

-- its line
abbrev pub check_line : SiteSum → SiteHappening
check_line sum = record { event = Ev.Check; answer = Say.Checked; sends = []; calls = Append (Rec.Checkpoint sum) ∷ Sync ∷ TrimFront ∷ []; lines = [] }

pub check_is : (home : Home) (past : SitePast) (sum : SiteSum) → sum ≡ site_sum home (Past.records home past) → nat_lt longest (site_payload (Rec.Checkpoint sum)) ≡ false → of_check home past ≡ check_line sum
unfolding of_check when
check_is home past sum is small =
    ap (λ (s : SiteSum). when (nat_lt longest (site_payload (Rec.Checkpoint s))) (quiet Ev.Check Say.Large)
    (record { event = Ev.Check; answer = Say.Checked; sends = []; calls = Append (Rec.Checkpoint s) ∷ Sync ∷ TrimFront ∷ []; lines = [] })) (sym is)
    ∙ rw small refl

pub large_is : (home : Home) (past : SitePast) (sum : SiteSum) → sum ≡ site_sum home (Past.records home past) → nat_lt longest (site_payload (Rec.Checkpoint sum)) ≡ true → of_check home past ≡ quiet Ev.Check Say.Large
unfolding of_check when
large_is home past sum is large =
    ap (λ (s : SiteSum). when (nat_lt longest (site_payload (Rec.Checkpoint s))) (quiet Ev.Check Say.Large)
    (record { event = Ev.Check; answer = Say.Checked; sends = []; calls = Append (Rec.Checkpoint s) ∷ Sync ∷ TrimFront ∷ []; lines = [] })) (sym is)
    ∙ rw large refl

check_goes : (home : Home) (past : SitePast) (calls cut : ℕ) → of_check home (trip_line calls cut ∷ past) ≡ of_check home past
unfolding of_check
check_goes home past calls cut = refl

module _ {E : Type 0} (stands : E → Lines.Start → List EngineLine → Type 0) (tells : Bool) where
  pub check_large : (core : SiteCore E) (step : SiteStep) (disk : Seen) (home : Home) (past : SitePast) (sum : SiteSum) → Stands stands tells core disk home past → core.store.standing ≡ Up
      → sum ≡ site_sum home (Past.records home past) → nat_lt longest (site_payload (Rec.Checkpoint sum)) ≡ true → step ≡ record { answer = Say.Large; sends = None }
      → Answers stands tells 0 disk step core disk home past (unless_tripped home past (of_check home past))
  check_large core step disk home past sum k up is large says =
      answers_quiet stands tells step core core disk home past _ (quiet Ev.Check Say.Large) k refl refl (ap (unless_tripped home past) (large_is home past sum is large))
      (adds_quiet stands core home past step Ev.Check Say.Large k.holds up refl refl refl (λ t. refl) (λ tx. refl) says)

  pub check_done : (old new : SiteCore E) (step : SiteStep) (disk disk' : Seen) (home : Home) (past : SitePast) (sum : SiteSum) → Stands stands tells old disk home past → old.store.standing ≡ Up
      → sum ≡ site_sum home (Past.records home past) → nat_lt longest (site_payload (Rec.Checkpoint sum)) ≡ false
      → Passes (Past.trip past) 3 × Keeps (was_found past) tells disk' new.store (after_calls site_frame (Past.disk home past) (check_line sum).calls) (used 3 (Past.trip past))
      → new.store.standing ≡ Up → new ≡ record old { store = new.store } → step ≡ record { answer = Say.Checked; sends = None } → HasCalled 3 disk disk'
      → Answers stands tells 0 disk step new disk' home past (unless_tripped home past (of_check home past))
  check_done old new step disk disk' home past sum k up is small ends now same says called =
      let y = check_line sum in
      let m = k.holds.memory in
      let u = is_up_at stands old home past m up in
      let p : IsPlain y = record { goes = refl; stays = refl; sets = refl } in
      let notes = notes_same old.book (epoch_start home past) (epoch_start home past) (engine_lines past) (engine_lines past) (is_closed past) (is_closed (y ∷ past)) (local_of (Past.records home past)) (local_of (Past.records home (y ∷ past))) past y
      u.notes refl refl (λ v. closed_same past y v refl refl refl) (λ tx. refl) in
      let here : IsUp stands (record old { store = new.store }) home (y ∷ past) = up_line stands old (record old { store = new.store }) home past y p u u.engine notes refl (λ t. refl) refl refl in
      let P : SiteCore E → Type 0 = λ c. IsUp stands c home (y ∷ past) in
      answers_as stands tells 0 disk step new disk' home past _ y (ap (unless_tripped home past) (check_is home past sum is small) ∙ passes_is home past y ends.0)
      (record {
        answer = ap (λ (s : SiteStep). s.answer) says;
        sends = ap (λ (s : SiteStep). option_to_list s.sends) says;
        carries = carries_line stands tells old new disk' home past y m up ends.1 now p (subst P (sym same) here) (λ tx. ap (λ (c : SiteCore E). begun_in c.book tx) same ∙ m.begun tx) (ap (λ (c : SiteCore E). c.protocol) same) tt;
        called = called;
      })

  pub check_stopped : (old new : SiteCore E) (step : SiteStep) (disk disk' : Seen) (home : Home) (past : SitePast) (sum : SiteSum) (kept : ℕ) → Stands stands tells old disk home past → old.store.standing ≡ Up
      → sum ≡ site_sum home (Past.records home past) → nat_lt longest (site_payload (Rec.Checkpoint sum)) ≡ false
      → Ends {A = ℕ} (Keeps (was_found past) tells disk' new.store) (Past.disk home past) (Past.trip past) (check_line sum).calls (Err (Stopped kept))
      → is_up new.store.standing ≡ false → new ≡ record old { store = new.store } → step ≡ record { answer = Say.Stopped kept; sends = None }
      → Called {A = ℕ} 0 (Past.trip past) (check_line sum).calls disk disk' (Err (Stopped kept))
      → Answers stands tells 0 disk step new disk' home past (unless_tripped home past (of_check home past))
  check_stopped old new step disk disk' home past sum kept k up is small (set, trip, within, keeps, count) down same says called =
      let y = check_line sum in
      let m = k.holds.memory in
      let calls : List (Call SiteRecord) = take set.calls y.calls ++ Stops set.cut ∷ [] in
      let K : E → Type 0 = λ e. IsOfKind stands e home.engine in
      answers_as stands tells 0 disk step new disk' home past _ (stop_line home past y.event calls) (ap (unless_tripped home past) (check_is home past sum is small) ∙ trips_is home past y set trip within)
      (record {
        answer = ap (λ (s : SiteStep). s.answer) says ∙ ap (λ (n : ℕ). Say.Stopped n) count;
        sends = ap (λ (s : SiteStep). option_to_list s.sends) says;
        carries = carries_stop stands tells new disk' home past y.event calls keeps down (subst K (sym (ap (λ (c : SiteCore E). c.engine) same)) (kind_at stands old home past m))
            (λ tx. ap (λ (c : SiteCore E). begun_in c.book tx) same ∙ m.begun tx) (ap (λ (c : SiteCore E). c.protocol) same ∙ m.protocol) (once_stopped (Past.disk home past) set.calls set.cut y.calls tt m.once);
        called = called_stopped 0 (Past.trip past) set y.calls disk disk' kept refl trip within called;
      })

  pub check_failed : (old new : SiteCore E) (disk disk' : Seen) (home : Home) (past : SitePast) (sum : SiteSum) → Stands stands tells old disk home past → old.store.standing ≡ Up
      → sum ≡ site_sum home (Past.records home past) → nat_lt longest (site_payload (Rec.Checkpoint sum)) ≡ false
      → Ends {A = ℕ} (Keeps (was_found past) tells disk' new.store) (Past.disk home past) (Past.trip past) (check_line sum).calls (Err Failed)
      → is_up new.store.standing ≡ false → new ≡ record old { store = new.store } → HasCalledAtMost 3 disk disk'
      → Breaks stands tells (0 + calls_for home past Ev.Check) disk Err_is.Disk new disk' home past Ev.Check
  check_failed old new disk disk' home past sum k up is small ends down same called =
      let m = k.holds.memory in
      let here = up_is stands old home past m up in
      let K : E → Type 0 = λ e. IsOfKind stands e home.engine in
      let goes : GoesOn home past Ev.Check (check_line sum) = λ calls cut.
      check_up home (trip_line calls cut ∷ past) here ∙ ap (unless_tripped home (trip_line calls cut ∷ past)) (check_goes home past calls cut ∙ check_is home past sum is small) in
      let M : List (Call SiteRecord) → Type 0 = λ calls. HasCalledAtMost (0 + length calls) disk disk' in
      breaks_up stands tells (0 + calls_for home past Ev.Check) disk new disk' home past Ev.Check (check_line sum) here goes ends down (subst K (sym (ap (λ (c : SiteCore E). c.engine) same)) (kind_at stands old home past m))
      (λ tx. ap (λ (c : SiteCore E). begun_in c.book tx) same ∙ m.begun tx) (ap (λ (c : SiteCore E). c.protocol) same ∙ m.protocol) tt m.once
      (subst M (sym (check_calls home past (check_line sum) (check_is home past sum is small))) called)

  -- a store with more room, where nothing else changed
  pub roomier : (old new : SiteCore E) (disk disk' : Seen) (home : Home) (past : SitePast) → Stands stands tells old disk home past
      → Keeps (was_found past) tells disk' new.store (Past.disk home past) (Past.trip past) → new.store.standing ≡ old.store.standing → new ≡ record old { store = new.store } → Carries stands tells new disk' home past
  roomier old new disk disk' home past k kept standing same =
      let m = k.holds.memory in
      carries_same stands tells old new disk' home past m kept standing (from old.store.standing m.standing_in) (λ tx. ap (λ (c : SiteCore E). begun_in c.book tx) same) (ap (λ (c : SiteCore E). c.protocol) same) where
        from : (standing : Standing) → IsIn stands old standing home past → IsIn stands new standing home past
        from Up r =
            let P : SiteCore E → Type 0 = λ c. IsUp stands c home past in
            subst P (sym same) (record { engine = r.engine; notes = r.notes; doubts = r.doubts; epoch = r.epoch })
        from Down r =
            let K : E → Type 0 = λ e. IsOfKind stands e home.engine in
            record { engine = subst K (sym (ap (λ (c : SiteCore E). c.engine) same)) r.engine; start = r.start; lines = r.lines }
        from Failing r =
            let K : E → Type 0 = λ e. IsOfKind stands e home.engine in
            record { engine = subst K (sym (ap (λ (c : SiteCore E). c.engine) same)) r.engine; start = r.start; lines = r.lines }
