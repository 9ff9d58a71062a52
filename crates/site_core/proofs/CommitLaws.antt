-- A local commit: what its sealing hands out, the record that it forces, and what the core stands for after it.
use Rattle.std.proofs.Common.{◌≡◌, ℕ, ◌+◌, ◌≤◌, ◌||◌, Bool, true, false, cond, is_some, Option, Some, None, Err, List, [], ◌∷◌, ◌++◌, inr, length, refl, sym, ap, ap₂, ◌∙◌, subst, arith}
use Rattle.std.specs.Prelude.{option_to_list}
use Rattle.std.proofs.lemmas.Bool.{cond-true, cond-false, cond_both}
use Rattle.mdb_base.specs.declared.names.Tid.{Tid}
use Rattle.mdb_base.specs.declared.rows.Put.{Put}
use Rattle.mdb_base.specs.declared.replies.Why.{Why}
use Rattle.mdb_base.specs.Names.{same_key, same_tx}
use Rattle.mdb_base.specs.Rows.{with_row}
use Rattle.mdb_base.proofs.ForCallers.{or_false, same_tid-refl}
use Rattle.fed_rules.specs.declared.answers.Answer.TheVariants as Say
use Rattle.fed_rules.specs.declared.events.SiteEvent.TheVariants as Ev
use Rattle.fed_rules.specs.declared.events.SiteStep.{SiteStep}
use Rattle.fed_rules.specs.declared.records.SiteRecord.TheVariants as Rec
use Rattle.fed_rules.specs.declared.runs.Sealed.{Sealed}
use Rattle.fed_rules.specs.Disk.{Append, Sync, after_calls}
use Rattle.fed_rules.specs.Happenings.{used}
use Rattle.fed_rules.specs.Runs as Lines
use Rattle.fed_rules.specs.Runs.{Access, Got, Wrote, EngineLine, Commits, Refuses, Run, Seals, changed, puts_of, run_at}
use Rattle.fed_rules.specs.EngineLines.{IsRight}
use Rattle.fed_rules.specs.Replies.{seal_number, seal_stop}
use Rattle.fed_rules.specs.Site.{number_of, of_commit, seals_local, stop_of, unless_tripped}
use Rattle.fed_rules.specs.SitePast.{SiteHappening, SitePast, attempts_of, ends, engine_lines, epoch_start, is_closed, live, live_one}
use Rattle.fed_rules.specs.SitePast as Past
use Rattle.fed_rules.specs.SiteRecords.{Home, local_of, site_frame}
use Rattle.journal_disk.specs.Disk.{HasCalled, HasCalledAtMost, Seen}
use Rattle.journal_disk.specs.Frames.{IsPayload}
use Rattle.site_journal.specs.Spelling.{spelling}
use Rattle.engine_contract.specs.Calls.{SealsRun}
use Rattle.actor_store.specs.declared.errors.StepErr.TheVariants as Err_is
use Rattle.actor_store.specs.declared.store.Break.TheVariants.{Stopped, Failed}
use Rattle.actor_store.specs.declared.store.Standing.TheVariants.{Up}
use Rattle.actor_store.specs.Store.{Called, Passes, is_up}
use Rattle.site_book.specs.declared.progress.Standing.{Standing as Book_standing}
use Rattle.site_book.specs.declared.progress.Standing.TheVariants as Has
use Rattle.site_book.specs.Book.{Book, begun_in, commits_local, committed_part, live_in, running_in, running_part, standing_of}
use Rattle.site_book.proofs.ForCallers.{commits_well}
use Rattle.site_core.specs.declared.site.SiteCore.{SiteCore}
use Rattle.site_core.specs.Made.{was_global, was_found}
use Rattle.site_core.specs.Notes.{Notes}
use Rattle.site_core.specs.Sealing.{SealsLive, StandsSealing}
use Rattle.site_core.specs.Stands.{Answers, Breaks, Stands, calls_for}
use Rattle.site_core.specs.Store.{Ends, Keeps}
use Rattle.site_core.proofs.CalledLaws.{commit_calls}
use Rattle.site_core.proofs.LineLaws.{HasLive, commit_seals, commit_up, local_runs}
use Rattle.site_core.proofs.NotesLaws.{committed_commits, known_before, notes_change, order_commits}
use Rattle.site_core.proofs.OnceLaws.{AppendsOnce}
use Rattle.site_core.proofs.RememberLaws.{IsPlain, answers_as, carries_line, epoch_kind, passes_is, up_is}
use Rattle.site_core.proofs.SealingLaws.{before_up, sealed_failed, sealed_stopped}
use Rattle.site_core.proofs.SetUpLaws.{payload_of}
use Rattle.site_core.proofs.StopLaws.{GoesOn, trip_line}
use Rattle.site_core.proofs.UpLaws.{closed_by, up_line}

-- a run writes at most as many rows as it has accesses
with_row-length : (row : Put) (rows : List Put) → length (with_row row rows) ≤ length rows + 1
with_row-length row [] = omega arith
with_row-length row (other ∷ rows) =
    let rest = with_row-length row rows in
    cond_both (same_key other.key row.key) (row ∷ rows) _ (λ (xs : List Put). length xs ≤ length (other ∷ rows) + 1) (λ e. omega arith)
    (λ e. cond_both _ (other ∷ with_row row rows) (row ∷ other ∷ rows) (λ (xs : List Put). length xs ≤ length (other ∷ rows) + 1) (λ f. omega arith) (λ f. omega arith))

pub puts_of-length : (acts : List Access) → length (puts_of acts) ≤ length acts
puts_of-length [] = omega arith
puts_of-length (Got key value ∷ acts) = let rest = puts_of-length acts in omega arith
puts_of-length (Wrote key value ∷ acts) =
    let rest = puts_of-length acts in
    let more = with_row-length (record { key = key; value = value }) (puts_of acts) in
    omega arith

-- so its record fits a frame
pub local_fits : (tid : Tid) (number : ℕ) (writes : List Put) (acts : List Access) → writes ≡ puts_of acts → length acts ≤ 32 → IsPayload (spelling (Rec.Local tid number writes))
local_fits tid number writes acts e few =
    let short = puts_of-length acts in
    let same : length writes ≡ length (puts_of acts) = ap length e in
    payload_of (Rec.Local tid number writes) (omega arith)

-- the rule's stop and its number by the home's engine
pub stop_here : (home : Home) (past : SitePast) (run : Run) (o : Option Why) → seal_stop (epoch_start home past).kind (epoch_start home past) (engine_lines past) run ≡ o → stop_of home past run ≡ o
stop_here home past run o e = ap (λ k. seal_stop k (epoch_start home past) (engine_lines past) run) (sym (epoch_kind home past)) ∙ e

number_here : (home : Home) (past : SitePast) (run : Run) (n : ℕ) → n ≡ seal_number (epoch_start home past).kind (epoch_start home past) (engine_lines past) run → n ≡ number_of home past run
number_here home past run n e = e ∙ ap (λ k. seal_number k (epoch_start home past) (engine_lines past) run) (epoch_kind home past)

some_run : (a b : Run) → ◌≡◌ {A = Option Run} (Some a) (Some b) → a ≡ b
some_run a b e = cc

-- what a sealing of a live run hands out is the rule's
pub seals_live : (book : Book) (home : Home) (past : SitePast) (tid : Tid) (sealed : Sealed) (l : HasLive book home past tid)
    → IsRight (epoch_start home past) (Seals tid sealed.number ∷ engine_lines past) → SealsRun tid sealed (epoch_start home past) (engine_lines past) → SealsLive tid sealed home past
seals_live book home past tid sealed l right given =
    let (other, (lives, passes, number)) = right.0 in
    let same : other ≡ l.run = some_run other l.run (sym lives.0 ∙ l.is.0) in
    let hands = given l.run l.is.0 in
    record {
      run = l.run;
      live = l.live;
      passes = stop_here home past l.run None (ap (seal_stop (epoch_start home past).kind (epoch_start home past) (engine_lines past)) (sym same) ∙ passes);
      number = number_here home past l.run sealed.number (number ∙ ap (seal_number (epoch_start home past).kind (epoch_start home past) (engine_lines past)) same);
      ticket = hands.ticket;
      writes = hands.writes;
    }

-- the line of the commit with the sealed record in it
abbrev pub commit_line : Tid → Sealed → SiteHappening
commit_line tid sealed = record {
  event = Ev.Commit tid;
  answer = Say.Sealed tid sealed.number;
  sends = [];
  calls = Append (Rec.Local tid sealed.number sealed.writes) ∷ Sync ∷ [];
  lines = Commits tid ∷ Seals tid sealed.number ∷ [];
}

commit_is : (tid : Tid) (sealed : Sealed) (home : Home) (past : SitePast) → SealsLive tid sealed home past → of_commit home past tid ≡ commit_line tid sealed
unfolding seals_local
commit_is tid sealed home past s =
    commit_seals home past tid s.run s.live s.passes
    ∙ sym (ap₂ (λ m w. record { event = Ev.Commit tid; answer = Say.Sealed tid m; sends = []; calls = Append (Rec.Local tid m w) ∷ Sync ∷ []; lines = Commits tid ∷ Seals tid m ∷ [] }) s.number s.writes)

-- a trip that is set before it changes nothing of it
commit_goes : (tid : Tid) (home : Home) (past : SitePast) (calls cut : ℕ) → of_commit home (trip_line calls cut ∷ past) tid ≡ of_commit home past tid
unfolding of_commit seals_local
commit_goes tid home past calls cut = refl

module _ {E : Type 0} (stands : E → Lines.Start → List EngineLine → Type 0) (tells : Bool) (tid : Tid) (sealed : Sealed) where
  -- the record fits a frame
  pub record_fits : (core : SiteCore E) (disk : Seen) (home : Home) (past : SitePast) (k : StandsSealing stands tells tid sealed core disk home past) → core.store.standing ≡ Up → IsPayload (spelling (Rec.Local tid sealed.number sealed.writes))
  record_fits core disk home past k up = local_fits tid sealed.number sealed.writes k.seals.run.acts k.seals.writes ((before_up stands tells tid sealed core disk home past k up).notes.few tid k.seals.run k.seals.live)

  -- no attempt of its transaction is committed
  none_committed : (core : SiteCore E) (disk : Seen) (home : Home) (past : SitePast) (k : StandsSealing stands tells tid sealed core disk home past) → core.store.standing ≡ Up → was_global tid.tx past ≡ false
      → (running_in core.book tid.tx ≡ Some tid) × (local_of (Past.records home past) tid.tx ≡ None)
  none_committed core disk home past k up local =
      let u = before_up stands tells tid sealed core disk home past k up in
      let runs = local_runs core.book home past tid u.notes k.stood.holds.memory.begun local (ap is_some k.seals.live) in
      (runs, sym (u.notes.committed_is tid.tx) ∙ not_both (standing_of core.book tid.tx) runs)
    where
      not_both : (s : Option Book_standing) → running_part s ≡ Some tid → committed_part s ≡ None
      not_both None e = refl
      not_both (Some (Has.Running t)) e = refl
      not_both (Some (Has.Committed t)) e = cc

  pub runs_here : (core : SiteCore E) (disk : Seen) (home : Home) (past : SitePast) (k : StandsSealing stands tells tid sealed core disk home past) → core.store.standing ≡ Up → was_global tid.tx past ≡ false
      → running_in core.book tid.tx ≡ Some tid
  runs_here core disk home past k up local = (none_committed core disk home past k up local).0

  appends : (core : SiteCore E) (disk : Seen) (home : Home) (past : SitePast) (k : StandsSealing stands tells tid sealed core disk home past) → core.store.standing ≡ Up → was_global tid.tx past ≡ false
      → AppendsOnce (Past.disk home past) (commit_line tid sealed).calls
  appends core disk home past k up local = ((none_committed core disk home past k up local).1, tt)

  -- the forced record ends as the line says
  pub commit_done : (old new : SiteCore E) (step : SiteStep) (disk disk' : Seen) (home : Home) (past : SitePast) (k : StandsSealing stands tells tid sealed old disk home past)
      → old.store.standing ≡ Up → was_global tid.tx past ≡ false
      → Passes (Past.trip past) 2 × Keeps (was_found past) tells disk' new.store (after_calls site_frame (Past.disk home past) (commit_line tid sealed).calls) (used 2 (Past.trip past))
      → new.store.standing ≡ Up → new ≡ record old { engine = new.engine; book = commits_local tid old.book; store = new.store }
      → stands new.engine (epoch_start home past) (Commits tid ∷ Seals tid sealed.number ∷ engine_lines past)
      → step ≡ record { answer = Say.Sealed tid sealed.number; sends = None } → HasCalled 2 disk disk'
      → Answers stands tells 0 disk step new disk' home past (unless_tripped home past (of_commit home past tid))
  commit_done old new step disk disk' home past k up local ends now is engine says called =
      let y = commit_line tid sealed in
      let before : SiteCore E = record old { engine = k.engine } in
      let u = before_up stands tells tid sealed old disk home past k up in
      let m = k.stood.holds.memory in
      let p : IsPlain y = record { goes = refl; stays = refl; sets = refl } in
      let (runs, uncommitted) = none_committed old disk home past k up local in
      let lives : is_some (live_in old.book tid) ≡ true = u.notes.order.live tid.tx tid runs in
      let closing : (v : Tid) → is_closed (y ∷ past) v ≡ (Past.ends v (Commits tid) || is_closed past v) = λ v. closed_by past y v refl refl ∙ ap (λ b. b || is_closed past v) (or_false (Past.ends v (Commits tid))) in
      let follows = commits_well old.book (commits_local tid old.book) (epoch_start home past) (engine_lines past) tid sealed.number (is_closed past) (is_closed (y ∷ past)) u.notes.follows lives closing refl in
      let notes : Notes (commits_local tid old.book) (epoch_start home past) (y.lines ++ engine_lines past) (is_closed (y ∷ past)) (local_of (Past.records home (y ∷ past))) (y ∷ past) =
      notes_change old.book (commits_local tid old.book) (epoch_start home past) (engine_lines past) (y.lines ++ engine_lines past) (is_closed past) (is_closed (y ∷ past)) (local_of (Past.records home past)) (local_of (Past.records home (y ∷ past))) past y tid
      u.notes follows (order_commits old.book tid u.notes.order runs) (λ tx. committed_commits old.book tid u.notes.order runs tx ∙ ap (λ (o : Option Tid). cond (same_tx tid.tx tx) (Some tid) o) (u.notes.committed_is tx))
      (λ v e. cond-false _ _ _ e ∙ cond-false _ _ _ e)
      (λ v e. closing v ∙ ap (λ b. b || is_closed past v) e)
      (known_before y past tid (u.notes.known tid (inr (ap is_some k.seals.live))))
      (λ run e. absurd (none_is run (sym (ap live_one (cond-true _ _ _ (same_tid-refl tid) ∙ commits_none (run_at (epoch_start home past) (Seals tid sealed.number ∷ engine_lines past) tid))) ∙ e))) in
      let book : new.book ≡ commits_local tid old.book = ap (λ (c : SiteCore E). c.book) is in
      let N : Book → Type 0 = λ b. Notes b (epoch_start home past) (y.lines ++ engine_lines past) (is_closed (y ∷ past)) (local_of (Past.records home (y ∷ past))) (y ∷ past) in
      answers_as stands tells 0 disk step new disk' home past (unless_tripped home past (of_commit home past tid)) y (ap (unless_tripped home past) (commit_is tid sealed home past k.seals) ∙ passes_is home past y ends.0)
      (record {
        answer = ap (λ (s : SiteStep). s.answer) says;
        sends = ap (λ (s : SiteStep). option_to_list s.sends) says;
        carries = carries_line stands tells before new disk' home past y m up ends.1 now p
            (up_line stands before new home past y p u engine (subst N (sym book) notes) (ap (λ (c : SiteCore E). c.doubts) is) (λ t. refl) (ap (λ (c : SiteCore E). c.epoch) is) refl)
            (λ tx. ap (λ (b : Book). begun_in b tx) book ∙ m.begun tx) (ap (λ (c : SiteCore E). c.protocol) is) (uncommitted, tt);
        called = called;
      }) where
        commits_none : (o : Option Run) → changed (Commits tid) o ≡ None
        commits_none None = refl
        commits_none (Some run) = refl

        none_is : (run : Run) → ◌≡◌ {A = Option Run} None (Some run) → ⊥
        none_is run e = cc

  pub commit_stopped : (old new : SiteCore E) (step : SiteStep) (disk disk' : Seen) (home : Home) (past : SitePast) (kept : ℕ) (k : StandsSealing stands tells tid sealed old disk home past)
      → old.store.standing ≡ Up → was_global tid.tx past ≡ false
      → Ends {A = ℕ} (Keeps (was_found past) tells disk' new.store) (Past.disk home past) (Past.trip past) (commit_line tid sealed).calls (Err (Stopped kept))
      → is_up new.store.standing ≡ false → new ≡ record old { store = new.store }
      → step ≡ record { answer = Say.Stopped kept; sends = None } → Called {A = ℕ} 0 (Past.trip past) (commit_line tid sealed).calls disk disk' (Err (Stopped kept))
      → Answers stands tells 0 disk step new disk' home past (unless_tripped home past (of_commit home past tid))
  commit_stopped old new step disk disk' home past kept k up local ends down is says called =
      sealed_stopped stands tells tid sealed old new step disk disk' home past (of_commit home past tid) (commit_line tid sealed) kept k (commit_is tid sealed home past k.seals)
      (appends old disk home past k up local) ends down is says refl called

  pub commit_failed : (old new : SiteCore E) (disk disk' : Seen) (home : Home) (past : SitePast) (k : StandsSealing stands tells tid sealed old disk home past)
      → old.store.standing ≡ Up → was_global tid.tx past ≡ false
      → Ends {A = ℕ} (Keeps (was_found past) tells disk' new.store) (Past.disk home past) (Past.trip past) (commit_line tid sealed).calls (Err Failed)
      → is_up new.store.standing ≡ false → new ≡ record old { store = new.store } → HasCalledAtMost 2 disk disk'
      → Breaks stands tells (0 + calls_for home past (Ev.Commit tid)) disk Err_is.Disk new disk' home past (Ev.Commit tid)
  commit_failed old new disk disk' home past k up local ends down is called =
      let here = up_is stands (record old { engine = k.engine }) home past k.stood.holds.memory up in
      let goes : GoesOn home past (Ev.Commit tid) (commit_line tid sealed) = λ calls cut.
      commit_up home (trip_line calls cut ∷ past) tid here ∙ ap (unless_tripped home (trip_line calls cut ∷ past)) (commit_goes tid home past calls cut ∙ commit_is tid sealed home past k.seals) in
      sealed_failed stands tells tid sealed old new disk disk' home past (Ev.Commit tid) (commit_line tid sealed) k up goes (appends old disk home past k up local) ends down is
      (commit_calls home past tid (commit_line tid sealed) (commit_is tid sealed home past k.seals)) called

-- a refusal is the rule's for the live run
pub refused_by : (book : Book) (home : Home) (past : SitePast) (tid : Tid) (why : Why) (l : HasLive book home past tid) → IsRight (epoch_start home past) (Refuses tid why ∷ engine_lines past) → stop_of home past l.run ≡ Some why
refused_by book home past tid why l right =
    let (other, (lives, stops)) = right.0 in
    let same : other ≡ l.run = some_run other l.run (sym lives.0 ∙ l.is.0) in
    stop_here home past l.run (Some why) (ap (seal_stop (epoch_start home past).kind (epoch_start home past) (engine_lines past)) (sym same) ∙ stops)

-- a core whose engine has sealed a live attempt
pub sealing_stands : {E : Type 0} (stands : E → Lines.Start → List EngineLine → Type 0) (tells : Bool) (tid : Tid) (sealed : Sealed) (core : SiteCore E) (engine : E) (disk : Seen) (home : Home) (past : SitePast)
    → Stands stands tells core disk home past → HasLive core.book home past tid → stands engine (epoch_start home past) (Seals tid sealed.number ∷ engine_lines past)
    → IsRight (epoch_start home past) (Seals tid sealed.number ∷ engine_lines past) → SealsRun tid sealed (epoch_start home past) (engine_lines past)
    → StandsSealing stands tells tid sealed (record core { engine = engine }) disk home past
sealing_stands stands tells tid sealed core engine disk home past k l stood right given =
    record { engine = core.engine; stood = k; sealing = stood; seals = seals_live core.book home past tid sealed l right given }
