-- A core with a sealed attempt whose record is forced: what it stands for where the disk calls are stopped or fail, and where the sealing is
-- taken back.
use Rattle.std.proofs.Common.{◌≡◌, ℕ, ◌+◌, Bool, false, Some, None, Err, List, [], ◌∷◌, ◌++◌, length, take, sym, ap, ◌∙◌, subst}
use Rattle.std.specs.Prelude.{option_to_list}
use Rattle.mdb_base.specs.declared.names.Tid.{Tid}
use Rattle.fed_rules.specs.declared.answers.Answer.TheVariants as Say
use Rattle.fed_rules.specs.declared.events.SiteEvent.{SiteEvent}
use Rattle.fed_rules.specs.declared.events.SiteStep.{SiteStep}
use Rattle.fed_rules.specs.declared.records.SiteRecord.{SiteRecord}
use Rattle.fed_rules.specs.declared.runs.Sealed.{Sealed}
use Rattle.fed_rules.specs.Disk.{Call, Stops}
use Rattle.fed_rules.specs.Runs as Lines
use Rattle.fed_rules.specs.Runs.{EngineLine, run_at}
use Rattle.fed_rules.specs.Site.{answered, unless_tripped}
use Rattle.fed_rules.specs.SitePast.{SiteHappening, SitePast, engine_lines, epoch_start}
use Rattle.fed_rules.specs.SitePast as Past
use Rattle.fed_rules.specs.SiteRecords.{Home}
use Rattle.journal_disk.specs.Disk.{HasCalledAtMost, Seen}
use Rattle.journal_rules.specs.Calls.{can_fail}
use Rattle.actor_store.specs.declared.errors.StepErr.TheVariants as Err_is
use Rattle.actor_store.specs.declared.store.Break.TheVariants.{Stopped, Failed}
use Rattle.actor_store.specs.declared.store.Standing.{Standing}
use Rattle.actor_store.specs.declared.store.Standing.TheVariants.{Up}
use Rattle.actor_store.specs.Store.{Called, is_up}
use Rattle.actor_store.proofs.ForCallers.{called_stopped}
use Rattle.site_book.specs.Book.{begun_in}
use Rattle.site_history.proofs.ForCallers.{live_is}
use Rattle.site_core.specs.declared.site.SiteCore.{SiteCore}
use Rattle.site_core.specs.Sealing.{StandsSealing}
use Rattle.site_core.specs.Stands.{Answers, Breaks, Carries, IsIn, IsOfKind, IsUp, calls_for}
use Rattle.site_core.specs.Made.{was_found}
use Rattle.site_core.specs.Store.{Ends, Keeps}
use Rattle.site_core.proofs.OnceLaws.{AppendsOnce, once_stopped}
use Rattle.site_core.proofs.RememberLaws.{answers_as, carries_same, carries_stop, epoch_kind, is_up_at, stop_line, trips_is, up_is}
use Rattle.site_core.proofs.StopLaws.{GoesOn, breaks_up}

module _ {E : Type 0} (stands : E → Lines.Start → List EngineLine → Type 0) (tells : Bool) (tid : Tid) (sealed : Sealed) where
  -- the core before the sealing, whose site is up
  pub before_up : (core : SiteCore E) (disk : Seen) (home : Home) (past : SitePast) (k : StandsSealing stands tells tid sealed core disk home past) → core.store.standing ≡ Up → IsUp stands (record core { engine = k.engine }) home past
  before_up core disk home past k up = is_up_at stands (record core { engine = k.engine }) home past k.stood.holds.memory up

  kind : (core : SiteCore E) (disk : Seen) (home : Home) (past : SitePast) → StandsSealing stands tells tid sealed core disk home past → IsOfKind stands core.engine home.engine
  kind core disk home past k = record { start = _; lines = _; stood = k.sealing; of_kind = epoch_kind home past }

  -- the run that it sealed
  pub sealed_run : (core : SiteCore E) (disk : Seen) (home : Home) (past : SitePast) (k : StandsSealing stands tells tid sealed core disk home past) → run_at (epoch_start home past) (engine_lines past) tid ≡ Some k.seals.run
  sealed_run core disk home past k = (live_is (run_at (epoch_start home past) (engine_lines past) tid) k.seals.run k.seals.live).0

  -- a trip comes within the disk calls of the line
  pub sealed_stopped : (old new : SiteCore E) (step : SiteStep) (disk disk' : Seen) (home : Home) (past : SitePast) (x y : SiteHappening) (kept : ℕ) (k : StandsSealing stands tells tid sealed old disk home past)
      → x ≡ y → AppendsOnce (Past.disk home past) y.calls
      → Ends {A = ℕ} (Keeps (was_found past) tells disk' new.store) (Past.disk home past) (Past.trip past) y.calls (Err (Stopped kept))
      → is_up new.store.standing ≡ false → new ≡ record old { store = new.store }
      → step ≡ record { answer = Say.Stopped kept; sends = None } → can_fail y.calls ≡ length y.calls → Called {A = ℕ} 0 (Past.trip past) y.calls disk disk' (Err (Stopped kept))
      → Answers stands tells 0 disk step new disk' home past (unless_tripped home past x)
  sealed_stopped old new step disk disk' home past x y kept k line appends (set, trip, within, keeps, count) down is says all called =
      let m = k.stood.holds.memory in
      let calls : List (Call SiteRecord) = take set.calls y.calls ++ Stops set.cut ∷ [] in
      let K : E → Type 0 = λ e. IsOfKind stands e home.engine in
      answers_as stands tells 0 disk step new disk' home past (unless_tripped home past x) (stop_line home past y.event calls) (ap (unless_tripped home past) line ∙ trips_is home past y set trip within)
      (record {
        answer = ap (λ (s : SiteStep). s.answer) says ∙ ap (λ (n : ℕ). Say.Stopped n) count;
        sends = ap (λ (s : SiteStep). option_to_list s.sends) says;
        carries = carries_stop stands tells new disk' home past y.event calls keeps down (subst K (sym (ap (λ (c : SiteCore E). c.engine) is)) (kind old disk home past k))
            (λ tx. ap (λ (c : SiteCore E). begun_in c.book tx) is ∙ m.begun tx) (ap (λ (c : SiteCore E). c.protocol) is ∙ m.protocol)
            (once_stopped (Past.disk home past) set.calls set.cut y.calls appends m.once);
        called = called_stopped 0 (Past.trip past) set y.calls disk disk' kept all trip within called;
      })

  -- one of them fails
  pub sealed_failed : (old new : SiteCore E) (disk disk' : Seen) (home : Home) (past : SitePast) (event : SiteEvent) (y : SiteHappening) (k : StandsSealing stands tells tid sealed old disk home past)
      → old.store.standing ≡ Up → GoesOn home past event y → AppendsOnce (Past.disk home past) y.calls
      → Ends {A = ℕ} (Keeps (was_found past) tells disk' new.store) (Past.disk home past) (Past.trip past) y.calls (Err Failed)
      → is_up new.store.standing ≡ false → new ≡ record old { store = new.store } → (answered home past event).calls ≡ y.calls → HasCalledAtMost (0 + length y.calls) disk disk'
      → Breaks stands tells (0 + calls_for home past event) disk Err_is.Disk new disk' home past event
  sealed_failed old new disk disk' home past event y k up goes appends ends down is line called =
      let m = k.stood.holds.memory in
      let here = up_is stands (record old { engine = k.engine }) home past m up in
      let K : E → Type 0 = λ e. IsOfKind stands e home.engine in
      let M : List (Call SiteRecord) → Type 0 = λ calls. HasCalledAtMost (0 + length calls) disk disk' in
      breaks_up stands tells (0 + calls_for home past event) disk new disk' home past event y here goes ends down (subst K (sym (ap (λ (c : SiteCore E). c.engine) is)) (kind old disk home past k))
      (λ tx. ap (λ (c : SiteCore E). begun_in c.book tx) is ∙ m.begun tx) (ap (λ (c : SiteCore E). c.protocol) is ∙ m.protocol) appends m.once (subst M (sym line) called)

  -- where there is no memory for the record, the sealing was taken back
  pub unsealed_stands : (old new : SiteCore E) (disk disk' : Seen) (home : Home) (past : SitePast) (k : StandsSealing stands tells tid sealed old disk home past)
      → old.store.standing ≡ Up → Keeps (was_found past) tells disk' new.store (Past.disk home past) (Past.trip past) → new.store.standing ≡ Up
      → new ≡ record old { engine = new.engine; store = new.store } → stands new.engine (epoch_start home past) (engine_lines past)
      → Carries stands tells new disk' home past
  unsealed_stands old new disk disk' home past k up kept now is engine =
      let before : SiteCore E = record old { engine = k.engine } in
      let u = before_up old disk home past k up in
      let m = k.stood.holds.memory in
      let here : IsUp stands (record old { engine = new.engine; store = new.store }) home past = record { engine = engine; notes = u.notes; doubts = u.doubts; epoch = u.epoch } in
      let P : SiteCore E → Type 0 = λ c. IsUp stands c home past in
      let Q : Standing → Type 0 = λ s. IsIn stands new s home past in
      carries_same stands tells before new disk' home past m kept (now ∙ sym up) (subst Q (sym up) (subst P (sym is) here)) (λ tx. ap (λ (c : SiteCore E). begun_in c.book tx) is) (ap (λ (c : SiteCore E). c.protocol) is)
