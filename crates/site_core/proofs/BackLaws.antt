-- What a core stands for after a start: where it comes through, where a trip stops it, and where a disk call fails.
use Rattle.std.proofs.Common.{◌≡◌, ℕ, ◌+◌, Bool, true, false, cond, not, ◌||◌, ◌⊎◌, is_some, Option, Some, None, Err, List, [], ◌∷◌, ◌++◌, length, map, take, inl, inr, refl, sym, ap, ap₂, ◌∙◌, subst}
use Rattle.std.specs.Prelude.{option_to_list}
use Rattle.mdb_base.specs.declared.names.Engine.{Engine}
use Rattle.mdb_base.specs.declared.names.Tid.{Tid}
use Rattle.mdb_base.specs.declared.names.Tx.{Tx}
use Rattle.mdb_base.specs.declared.rows.Put.{Put}
use Rattle.mdb_base.specs.Words.{map_some, some_of, when}
use Rattle.fed_rules.specs.declared.answers.Answer.TheVariants as Say
use Rattle.fed_rules.specs.declared.events.SiteEvent.TheVariants as Ev
use Rattle.fed_rules.specs.declared.events.SiteStep.{SiteStep}
use Rattle.fed_rules.specs.declared.records.SiteRecord.{SiteRecord}
use Rattle.fed_rules.specs.declared.records.SiteRecord.TheVariants as Rec
use Rattle.fed_rules.specs.declared.runs.Kept.{Kept}
use Rattle.fed_rules.specs.declared.sums.SiteSum.{SiteSum}
use Rattle.fed_rules.specs.Disk.{Call, Append, Sync, CutBack, Stops, Disk, after_calls, is_torn}
use Rattle.fed_rules.specs.EngineLines.{IsStart}
use Rattle.fed_rules.specs.Happenings.{comes_up, is_down, stops, used}
use Rattle.fed_rules.specs.Runs as Lines
use Rattle.fed_rules.specs.Runs.{EngineLine, Run, restored, restored_at}
use Rattle.fed_rules.specs.Site.{of_back, site_line, unless_tripped}
use Rattle.fed_rules.specs.SitePast.{SiteHappening, SitePast, attempts_of, engine_lines, epoch, epoch_start, is_closed, live_one}
use Rattle.fed_rules.specs.SitePast as Past
use Rattle.fed_rules.specs.SiteRecords.{Held, Home, doubt_of, doubts, epoch_of, kept_held, local_of, site_frame, start_of}
use Rattle.fed_rules.specs.SiteSums.{site_sum}
use Rattle.engine_contract.specs.Calls.{start_from}
use Rattle.journal_disk.specs.Disk.{HasCalled, HasCalledAtMost, Seen}
use Rattle.journal_rules.specs.Calls.{can_fail}
use Rattle.journal_rules.proofs.ForCallers.{starting_calls}
use Rattle.prepared_state.specs.Book.{AreApart, doubt_about}
use Rattle.journal_sums.specs.Starts.{doubt_held}
use Rattle.site_journal.specs.Exact.{spelled_is_read}
use Rattle.site_journal.specs.Frames.{frame_has_size}
use Rattle.site_journal.specs.Spelling.{spelling, reading, IsRecord}
use Rattle.actor_store.specs.declared.errors.StepErr.TheVariants as Err_is
use Rattle.actor_store.specs.declared.store.Break.TheVariants.{Stopped, Failed}
use Rattle.actor_store.specs.declared.store.Standing.{Standing}
use Rattle.actor_store.specs.declared.store.Standing.TheVariants.{Up, Down, Failing}
use Rattle.actor_store.specs.Store.{Called, Passes, is_up}
use Rattle.actor_store.proofs.ForCallers.{called_stopped, from_later, from_trip, settled}
use Rattle.fed_rules.proofs.ForCallers.{epoch_same}
use Rattle.engine_laws.proofs.ForCallers.{once_doubts}
use Rattle.site_history.proofs.ForCallers.{all_within}
use Rattle.site_book.specs.Book.{Book, begun_in, committed_in, restarted}
use Rattle.site_book.specs.Follows.{Follows, progress_by}
use Rattle.site_core.specs.Order.{IsInOrder}
use Rattle.site_book.proofs.ForCallers as Book_starts
use Rattle.site_core.specs.declared.site.SiteCore.{SiteCore}
use Rattle.site_core.specs.Made.{IsGoingOn, opens, was_found}
use Rattle.site_core.specs.Notes.{Notes}
use Rattle.site_core.specs.Recovered.{held_tid}
use Rattle.site_core.specs.Stands.{Answers, Breaks, Carries, IsIn, IsOfKind, IsStopped, IsUp, Remembers, Stands, calls_for}
use Rattle.site_core.specs.Store.{Ends, Keeps, Store, cut_calls}
use Rattle.commit_laws.proofs.ForCallers.{restored-sealed}
use Rattle.journal_sums.proofs.ForCallers.{apart_once}
use Rattle.site_core.proofs.CalledLaws.{start_calls}
use Rattle.site_core.proofs.MadeLaws.{made_starts}
use Rattle.site_core.proofs.NotesLaws.{IsKnown, order_restarted}
use Rattle.site_core.proofs.OnceLaws.{AppendsOnce, once_calls, once_stopped}
use Rattle.site_core.proofs.RememberLaws.{answers_as, carries_same, carries_stop, down_is, kept_records, passes_is, stop_line, stopped_at, trips_is}
use Rattle.site_core.proofs.StopLaws.{GoesOn, breaks_down, breaks_start, trip_line}
use Rattle.site_core.proofs.SumLaws.{committed_from, doubts_about}

-- the disk calls of a start
abbrev pub back_calls : ℕ → Disk SiteRecord → List (Call SiteRecord)
back_calls n rules = cut_calls rules ++ Append (Rec.Start n) ∷ Sync ∷ []

-- the line of a start of this epoch, with so many in doubt
abbrev pub up_line : (n doubtful : ℕ) → Home → SitePast → SiteHappening
up_line n doubtful home past = record { event = Ev.Back; answer = Say.UpSite n doubtful; sends = []; calls = back_calls n (Past.disk home past); lines = [] }

-- they add the Start record
back_records : (n : ℕ) (rules : Disk SiteRecord) → (after_calls site_frame rules (back_calls n rules)).records ≡ Rec.Start n ∷ rules.records
back_records n rules = by_test (is_torn site_frame rules) where
  by_test : (t : Bool) → (after_calls site_frame rules (cond t (CutBack ∷ []) [] ++ Append (Rec.Start n) ∷ Sync ∷ [])).records ≡ Rec.Start n ∷ rules.records
  by_test true = refl
  by_test false = refl

back_appends : (n : ℕ) (rules : Disk SiteRecord) → AppendsOnce rules (back_calls n rules)
back_appends n rules = by_test (is_torn site_frame rules) where
  by_test : (t : Bool) → AppendsOnce rules (cond t (CutBack ∷ []) [] ++ Append (Rec.Start n) ∷ Sync ∷ [])
  by_test true = tt
  by_test false = tt

-- each of them can fail
back_fail : (n : ℕ) (rules : Disk SiteRecord) → can_fail (back_calls n rules) ≡ length (back_calls n rules)
back_fail n rules = starting_calls (is_torn site_frame rules) (Append (Rec.Start n) ∷ Sync ∷ []) refl

-- the rule's line
back_is : (home : Home) (past : SitePast) (n doubtful : ℕ) → n ≡ epoch home past + 1 → doubtful ≡ length (doubts (Past.records home past)) → of_back home past ≡ up_line n doubtful home past
unfolding of_back
back_is home past n doubtful next count = sym (ap₂ (λ (m k : ℕ). up_line m k home past) next count)

back_down : (home : Home) (past : SitePast) → is_down past ≡ true → site_line home past Ev.Back ≡ unless_tripped home past (of_back home past)
unfolding site_line when
back_down home past d = rw d refl

back_goes : (home : Home) (past : SitePast) (calls cut : ℕ) → of_back home (trip_line calls cut ∷ past) ≡ of_back home past
unfolding of_back
back_goes home past calls cut = refl

kept_tids : (helds : List Held) → map held_tid helds ≡ map (λ (kept : Kept). kept.tid) (map kept_held helds)
kept_tids [] = refl
kept_tids (held ∷ helds) = ap (λ (ts : List Tid). held.tid ∷ ts) (kept_tids helds)

-- what a start of a site that events made begins from is good, and its doubts are apart
pub start_good : (home : Home) (past : SitePast) → IsGoingOn home past → IsStart (start_of home (Past.records home past))
start_good home past made = (made_starts home past made).restart (Past.records home past) ([], refl)

pub doubts_apart_here : (home : Home) (past : SitePast) → AreApart (map doubt_held (doubts (Past.records home past)))
doubts_apart_here home past = apart_once (doubts (Past.records home past)) (once_doubts (Past.records home past))

-- the epoch that was read
pub epoch_read : (home : Home) (past : SitePast) (sum : SiteSum) → sum ≡ site_sum home (Past.records home past) → sum.epoch ≡ epoch home past
epoch_read home past sum is = ap (λ (s : SiteSum). s.epoch) is ∙ epoch_same (Past.records home past)

-- an engine follows its rule, also where it starts anew
pub kind_kept : {E : Type 0} (stands : E → Lines.Start → List EngineLine → Type 0) (old new : E) (kind : Engine) → IsOfKind stands old kind
    → ((start : Lines.Start) (lines : List EngineLine) → stands old start lines → stands new start lines) → IsOfKind stands new kind
kind_kept stands old new kind k keeps = record { start = k.start; lines = k.lines; stood = keeps k.start k.lines k.stood; of_kind = k.of_kind }

pub started_kind : {E : Type 0} (stands : E → Lines.Start → List EngineLine → Type 0) (old new : E) (kind : Engine) {rows : List Put} {doubtful : List Kept} {counter published : ℕ} {owner : Option Tid} → IsOfKind stands old kind
    → ((start : Lines.Start) (lines : List EngineLine) → stands old start lines → stands new (start_from start.kind rows doubtful counter published owner) []) → IsOfKind stands new kind
started_kind stands old new kind k starts = record { start = _; lines = []; stood = starts k.start k.lines k.stood; of_kind = k.of_kind }

module _ {E : Type 0} (stands : E → Lines.Start → List EngineLine → Type 0) where
  -- what was recovered is a site that is up, once its Start record stands
  pub recovered_up : (old new : SiteCore E) (home : Home) (past : SitePast) (sum : SiteSum) (x : SiteHappening) → Remembers stands old home past → sum ≡ site_sum home (Past.records home past)
      → Past.records home (x ∷ past) ≡ Rec.Start new.epoch ∷ Past.records home past → x.answer ≡ Say.UpSite new.epoch (length sum.doubtful)
      → stands new.engine (start_from home.engine sum.rows (map kept_held sum.doubtful) sum.counter sum.published sum.owner) []
      → new.book ≡ restarted sum.locals (map held_tid sum.doubtful) old.book
      → ((tid : Tid) → doubt_about tid new.doubts.doubts ≡ doubt_about tid (map doubt_held sum.doubtful))
      → IsUp stands new home (x ∷ past)
  recovered_up old new home past sum x m is records_are says engine book doubts_are =
      let rs = Past.records home past in
      let start : epoch_start home (x ∷ past) ≡ start_of home rs = ap (λ a. cond (stops a || comes_up a) (start_of home (Past.records home (x ∷ past))) (epoch_start home past)) says ∙ ap (start_of home) records_are in
      let lines : engine_lines (x ∷ past) ≡ [] = ap (λ a. cond (stops a || comes_up a) [] (x.lines ++ engine_lines past)) says in
      let closed : (u : Tid) → is_closed (x ∷ past) u ≡ false = λ u. ap (λ a. cond (comes_up a) false (Past.decides_on u x.event || some_of (Past.ends u) x.lines || is_closed past u)) says in
      let S : SiteSum → Type 0 = λ s. stands new.engine (start_from home.engine s.rows (map kept_held s.doubtful) s.counter s.published s.owner) [] in
      let here : stands new.engine (start_of home rs) [] = subst S is engine in
      let made_so : new.book ≡ restarted (site_sum home rs).locals (map held_tid (doubts rs)) old.book = book ∙ ap (λ (s : SiteSum). restarted s.locals (map held_tid s.doubtful) old.book) is in
      let follows : Follows new.book (start_of home rs) [] (λ u. false) = Book_starts.starts_well old.book new.book (start_of home rs) (site_sum home rs).locals (map held_tid (doubts rs)) made_so (kept_tids (doubts rs)) in
      let local : (tx : Tx) → local_of (Past.records home (x ∷ past)) tx ≡ local_of rs tx = λ tx. ap (λ r. local_of r tx) records_are in
      let notes : Notes new.book (start_of home rs) [] (is_closed (x ∷ past)) (local_of (Past.records home (x ∷ past))) (x ∷ past) = record {
        follows = record { attempts = (λ u. follows.attempts u ∙ sym (ap (progress_by (restored_at (map kept_held (doubts rs)) u)) (closed u))) };
        order = subst IsInOrder (sym made_so) (order_restarted (site_sum home rs).locals (map held_tid (doubts rs)) old.book);
        committed_is = (λ tx. ap (λ (b : Book). committed_in b tx) made_so ∙ committed_from rs tx m.once ∙ sym (local tx));
        known = (λ u at. unknown u at (closed u));
        few = (λ u run e. absurd (none_is run (sym (restored-sealed (map kept_held (doubts rs)) u) ∙ e)));
      } in
      let N : Lines.Start → List EngineLine → Type 0 = λ s l. Notes new.book s l (is_closed (x ∷ past)) (local_of (Past.records home (x ∷ past))) (x ∷ past) in
      let G : Lines.Start → List EngineLine → Type 0 = λ s l. stands new.engine s l in
      record {
        engine = subst (λ (s : Lines.Start). G s (engine_lines (x ∷ past))) (sym start) (subst (λ (l : List EngineLine). G (start_of home rs) l) (sym lines) here);
        notes = subst (λ (s : Lines.Start). N s (engine_lines (x ∷ past))) (sym start) (subst (λ (l : List EngineLine). N (start_of home rs) l) (sym lines) notes);
        doubts =
            (λ tid. doubts_are tid ∙ ap (λ (s : SiteSum). doubt_about tid (map doubt_held s.doubtful)) is ∙ doubts_about rs tid
            ∙ sym (ap (λ r. map_some doubt_held (doubt_of r tid)) records_are));
        epoch = sym (ap epoch_of records_are);
      } where
        none_is : (run : Run) → ◌≡◌ {A = Option Run} None (Some run) → ⊥
        none_is run e = cc

        unknown : (u : Tid) → (is_closed (x ∷ past) u ≡ true) ⊎ (is_some (live_one (restored_at (map kept_held (doubts (Past.records home past))) u)) ≡ true) → is_closed (x ∷ past) u ≡ false → IsKnown u (x ∷ past)
        unknown u (inl c) shut = cc
        unknown u (inr l) shut =
            let none : is_some (live_one (restored_at (map kept_held (doubts (Past.records home past))) u)) ≡ false = ap is_some (restored-sealed (map kept_held (doubts (Past.records home past))) u) in
            cc

module _ {E : Type 0} (stands : E → Lines.Start → List EngineLine → Type 0) (tells : Bool) where
  pub back_done : (old new : SiteCore E) (step : SiteStep) (disk disk' : Seen) (home : Home) (past : SitePast) (sum : SiteSum) (doubtful : ℕ) → Stands stands tells old disk home past → is_up old.store.standing ≡ false
      → sum ≡ site_sum home (Past.records home past) → doubtful ≡ length sum.doubtful → new.epoch ≡ sum.epoch + 1
      → Passes (Past.trip past) (length (back_calls new.epoch (Past.disk home past)))
      × Keeps (was_found past) tells disk' new.store (after_calls site_frame (Past.disk home past) (back_calls new.epoch (Past.disk home past))) (used (length (back_calls new.epoch (Past.disk home past))) (Past.trip past))
      → new.store.standing ≡ Up
      → stands new.engine (start_from home.engine sum.rows (map kept_held sum.doubtful) sum.counter sum.published sum.owner) []
      → new.book ≡ restarted sum.locals (map held_tid sum.doubtful) old.book
      → ((tid : Tid) → doubt_about tid new.doubts.doubts ≡ doubt_about tid (map doubt_held sum.doubtful))
      → new.protocol ≡ old.protocol → step ≡ record { answer = Say.UpSite new.epoch doubtful; sends = None }
      → (beside : ℕ) → HasCalled (beside + length (back_calls new.epoch (Past.disk home past))) disk disk'
      → Answers stands tells beside disk step new disk' home past (site_line home past Ev.Back)
  back_done old new step disk disk' home past sum doubtful k down is count next ends now engine book doubts_are protocol says beside called =
      let m = k.holds.memory in
      let n = new.epoch in
      let y = up_line n doubtful home past in
      let rs = Past.records home past in
      let next_is : n ≡ epoch home past + 1 = next ∙ ap (λ (e : ℕ). e + 1) (ap (λ (s : SiteSum). s.epoch) is ∙ epoch_same rs) in
      let count_is : doubtful ≡ length (doubts rs) = count ∙ ap (λ (s : SiteSum). length s.doubtful) is in
      let line = back_down home past (down_is stands old home past m down) ∙ ap (unless_tripped home past) (back_is home past n doubtful next_is count_is) in
      let records_are : Past.records home (y ∷ past) ≡ Rec.Start n ∷ rs = back_records n (Past.disk home past) in
      let here = recovered_up stands old new home past sum y m is records_are (ap (λ (d : ℕ). Say.UpSite n d) count) engine book doubts_are in
      let P : Standing → Type 0 = λ s. IsIn stands new s home (y ∷ past) in
      let H : ℕ → Type 0 = λ m. HasCalled (beside + m) disk disk' in
      answers_as stands tells beside disk step new disk' home past _ y (line ∙ passes_is home past y ends.0)
      (record {
        answer = ap (λ (s : SiteStep). s.answer) says;
        sends = ap (λ (s : SiteStep). option_to_list s.sends) says;
        carries = record {
          memory = record {
            records = kept_records tells disk' new.store _ _ ends.1;
            trip = ends.1.behind.trip;
            armed = ends.1.behind.armed;
            standing = sym (ap (λ s. not (is_up s)) now);
            standing_in = subst P (sym now) here;
            begun = (λ tx. ap (λ (b : Book). begun_in b tx) book ∙ m.begun tx);
            protocol = protocol ∙ m.protocol;
            once = once_calls (Past.disk home past) (back_calls n (Past.disk home past)) (back_appends n (Past.disk home past)) m.once;
          };
          stored = from_later (opens y) ends.1;
        };
        called = subst H (sym (back_fail n (Past.disk home past))) called;
      })

  -- a start that a trip stopped
  pub back_stopped : (old new : SiteCore E) (step : SiteStep) (disk disk' : Seen) (home : Home) (past : SitePast) (sum : SiteSum) (kept : ℕ) → Stands stands tells old disk home past → is_up old.store.standing ≡ false
      → sum ≡ site_sum home (Past.records home past) → new.epoch ≡ sum.epoch + 1
      → Ends {A = ℕ} (Keeps (was_found past) tells disk' new.store) (Past.disk home past) (Past.trip past) (back_calls new.epoch (Past.disk home past)) (Err (Stopped kept))
      → is_up new.store.standing ≡ false → IsOfKind stands new.engine home.engine → ((tx : Tx) → begun_in new.book tx ≡ begun_in old.book tx) → new.protocol ≡ old.protocol
      → step ≡ record { answer = Say.Stopped kept; sends = None }
      → (beside : ℕ) → Called {A = ℕ} beside (Past.trip past) (back_calls new.epoch (Past.disk home past)) disk disk' (Err (Stopped kept))
      → Answers stands tells beside disk step new disk' home past (site_line home past Ev.Back)
  back_stopped old new step disk disk' home past sum kept k down is next (set, trip, within, keeps, count) still engine begun protocol says beside called =
      let m = k.holds.memory in
      let n = new.epoch in
      let rs = Past.records home past in
      let next_is : n ≡ epoch home past + 1 = next ∙ ap (λ (e : ℕ). e + 1) (ap (λ (s : SiteSum). s.epoch) is ∙ epoch_same rs) in
      let line = back_down home past (down_is stands old home past m down) ∙ ap (unless_tripped home past) (back_is home past n (length (doubts rs)) next_is refl) in
      let all = back_calls n (Past.disk home past) in
      let calls : List (Call SiteRecord) = take set.calls all ++ Stops set.cut ∷ [] in
      answers_as stands tells beside disk step new disk' home past _ (stop_line home past Ev.Back calls) (line ∙ trips_is home past (up_line n (length (doubts rs)) home past) set trip within)
      (record {
        answer = ap (λ (s : SiteStep). s.answer) says ∙ ap (λ (j : ℕ). Say.Stopped j) count;
        sends = ap (λ (s : SiteStep). option_to_list s.sends) says;
        carries = carries_stop stands tells new disk' home past Ev.Back calls keeps still engine (λ tx. begun tx ∙ m.begun tx) (protocol ∙ m.protocol)
            (once_stopped (Past.disk home past) set.calls set.cut all (back_appends n (Past.disk home past)) m.once);
        called = called_stopped beside (Past.trip past) set all disk disk' kept (back_fail n (Past.disk home past)) trip within called;
      })

  -- a start whose disk call failed
  pub back_failed : (old new : SiteCore E) (disk disk' : Seen) (home : Home) (past : SitePast) (sum : SiteSum) → Stands stands tells old disk home past → is_up old.store.standing ≡ false
      → sum ≡ site_sum home (Past.records home past) → new.epoch ≡ sum.epoch + 1
      → Ends {A = ℕ} (Keeps (was_found past) tells disk' new.store) (Past.disk home past) (Past.trip past) (back_calls new.epoch (Past.disk home past)) (Err Failed)
      → is_up new.store.standing ≡ false → IsOfKind stands new.engine home.engine → ((tx : Tx) → begun_in new.book tx ≡ begun_in old.book tx) → new.protocol ≡ old.protocol
      → (beside : ℕ) → HasCalledAtMost (beside + length (back_calls new.epoch (Past.disk home past))) disk disk'
      → Breaks stands tells (beside + calls_for home past Ev.Back) disk Err_is.Disk new disk' home past Ev.Back
  back_failed old new disk disk' home past sum k down is next ends still engine begun protocol beside called =
      let m = k.holds.memory in
      let n = new.epoch in
      let rs = Past.records home past in
      let here = down_is stands old home past m down in
      let stopped = stopped_at stands old home past m down in
      let next_is : n ≡ epoch home past + 1 = next ∙ ap (λ (e : ℕ). e + 1) (ap (λ (s : SiteSum). s.epoch) is ∙ epoch_same rs) in
      let goes : GoesOn home past Ev.Back (up_line n (length (doubts rs)) home past) = λ calls cut.
      back_down home (trip_line calls cut ∷ past) here ∙ ap (unless_tripped home (trip_line calls cut ∷ past)) (back_goes home past calls cut ∙ back_is home past n (length (doubts rs)) next_is refl) in
      let M : List (Call SiteRecord) → Type 0 = λ cs. HasCalledAtMost (beside + length cs) disk disk' in
      let line = start_calls home past (up_line n (length (doubts rs)) home past) (back_is home past n (length (doubts rs)) next_is refl) in
      breaks_start stands tells (beside + calls_for home past Ev.Back) disk new disk' home past Ev.Back (up_line n (length (doubts rs)) home past) here goes
      (settled spelling reading IsRecord site_frame frame_has_size spelled_is_read old.store.standing old.store.journal (Past.disk home past) down k.stored.behind.in_order) (all_within home past)
      ends still engine stopped.start stopped.lines (λ tx. begun tx ∙ m.begun tx) (protocol ∙ m.protocol) (back_appends n (Past.disk home past)) m.once (subst M (sym line) called)

  -- a read of the records that failed: the site stays down, and the trip is disarmed
  pub read_failed : (old new : SiteCore E) (store : Store) (disk disk' : Seen) (home : Home) (past : SitePast) → Stands stands tells old disk home past → is_up old.store.standing ≡ false
      → Keeps (was_found past) tells disk' store (Past.disk home past) (Past.trip past) → store.standing ≡ old.store.standing → new ≡ record old { store = record store { trip = None } }
      → (most : ℕ) → HasCalledAtMost most disk disk' → Breaks stands tells most disk Err_is.Disk new disk' home past Ev.Back
  read_failed old new store disk disk' home past k down kept standing is most called =
      let m = k.holds.memory in
      let stopped = stopped_at stands old home past m down in
      let disarmed : Keeps (was_found past) tells disk' (record store { trip = None }) (Past.disk home past) None = from_trip kept None refl tt in
      let S : Store → Type 0 = λ s. Keeps (was_found past) tells disk' s (Past.disk home past) None in
      let store_is : new.store ≡ record store { trip = None } = ap (λ (c : SiteCore E). c.store) is in
      let K : E → Type 0 = λ e. IsOfKind stands e home.engine in
      breaks_down stands tells most disk new disk' home past Ev.Back (down_is stands old home past m down) (subst S (sym store_is) disarmed) (ap (λ (s : Store). is_up s.standing) store_is ∙ ap is_up standing ∙ down)
      (subst K (sym (ap (λ (c : SiteCore E). c.engine) is)) stopped.engine) stopped.start stopped.lines (λ tx. ap (λ (c : SiteCore E). begun_in c.book tx) is ∙ m.begun tx) (ap (λ (c : SiteCore E). c.protocol) is ∙ m.protocol) m.once called

  -- a site that stays down, in other memory and on a disk that keeps the same
  pub stays_down : (old new : SiteCore E) (disk disk' : Seen) (home : Home) (past : SitePast) → Stands stands tells old disk home past → is_up old.store.standing ≡ false
      → Keeps (was_found past) tells disk' new.store (Past.disk home past) (Past.trip past) → new.store.standing ≡ old.store.standing
      → IsOfKind stands new.engine home.engine → ((tx : Tx) → begun_in new.book tx ≡ begun_in old.book tx) → new.protocol ≡ old.protocol
      → Carries stands tells new disk' home past
  stays_down old new disk disk' home past k down kept standing engine begun protocol =
      let m = k.holds.memory in
      let stopped = stopped_at stands old home past m down in
      carries_same stands tells old new disk' home past m kept standing (from old.store.standing down (record { engine = engine; start = stopped.start; lines = stopped.lines })) begun protocol where
        from : (standing : Standing) → is_up standing ≡ false → IsStopped stands new home past → IsIn stands new standing home past
        from Up e r = cc
        from Down e r = r
        from Failing e r = r
