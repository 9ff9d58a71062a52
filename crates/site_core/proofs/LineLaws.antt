-- The next line of a site that is up, for each case of an event of a local attempt; and what the book says of live attempts.
use Rattle.std.proofs.Common.{◌≡◌, ℕ, zero, suc, ◌≤◌, ◌⊎◌, ◌==◌, Bool, true, false, cond, not, ◌&&◌, ◌||◌, is_some, IsSome, Option, Some, None, List, [], ◌∷◌, length, refl, sym, ap, ap₂, ◌∙◌, inl, inr, arith}
use Rattle.std.proofs.lemmas.Bool.{cond-true, cond-false, and_parts, and_from}
use Rattle.std.specs.Borrow.{Bor}
use Rattle.std.specs.Option.{option_copied}
use Rattle.std.specs.FinMap.{get}
use Rattle.mdb_base.specs.declared.acts.PlainAct.{PlainAct}
use Rattle.mdb_base.specs.declared.names.Tid.{Tid}
use Rattle.mdb_base.specs.declared.names.Tx.{Tx}
use Rattle.mdb_base.specs.declared.replies.Why.{Why}
use Rattle.mdb_base.specs.Names.{same_tx}
use Rattle.mdb_base.specs.Words.{first_where, given, map_some, when}
use Rattle.mdb_base.proofs.ForCallers.{same_tid-equal, same_tx-equal, same_tx-refl}
use Rattle.fed_rules.specs.declared.answers.Answer.{Answer}
use Rattle.fed_rules.specs.declared.answers.Answer.TheVariants as Say
use Rattle.fed_rules.specs.declared.events.SiteEvent.TheVariants as Ev
use Rattle.fed_rules.specs.EngineLines.{IsLive, IsRight}
use Rattle.fed_rules.specs.Disk.{Stops}
use Rattle.fed_rules.specs.Happenings.{is_down, quiet, stopped}
use Rattle.fed_rules.specs.Runs.{Start, EngineLine, Begins, Acts, Aborts, Refuses, Run, is_sealed, run_at, unended}
use Rattle.fed_rules.specs.Site.{act_answer, answered, next_number, of_abort, of_act, of_begin, of_check, of_commit, of_fate, refusal_answer, reply_to, seals_local, site_line, stop_of, unless_tripped, with_lines}
use Rattle.fed_rules.specs.SitePast.{SiteHappening, SitePast, attempts_of, begins_tx, disk, engine_lines, epoch_start, live, live_of_tx, live_one, records}
use Rattle.fed_rules.specs.SiteRecords.{Home, local_of, site_frame, start_of}
use Rattle.engine_laws.proofs.ForCallers.{tid_is}
use Rattle.run_book.proofs.ForCallers.{Is, is-unended, unended-is}
use Rattle.site_book.specs.declared.progress.Progress.{Progress}
use Rattle.site_book.specs.declared.progress.Progress.TheVariants as Is
use Rattle.site_book.specs.Noted.{Noted, noted_of}
use Rattle.site_book.specs.Book.{Book, begun_in, count_of, live_in, live_part, running_in}
use Rattle.site_book.specs.Follows.{Follows, progress_by}
use Rattle.commit_laws.proofs.ForCallers.{restored-sealed}
use Rattle.site_core.specs.Made.{begins_tid, was_begun, was_global}
use Rattle.site_core.specs.Notes.{Notes, NotesPast}

module _ (home : Home) (past : SitePast) where
  pub begin_committed : (tid committed : Tid) → local_of (records home past) tid.tx ≡ Some committed → of_begin home past tid ≡ quiet (Ev.Begin tid) (Say.Committed committed)
  unfolding of_begin given
  begin_committed tid committed a = rw a refl

  pub begin_running : (tid running : Tid) → local_of (records home past) tid.tx ≡ None → live_of_tx home past tid.tx ≡ Some running → of_begin home past tid ≡ quiet (Ev.Begin tid) (Say.Running running)
  unfolding of_begin given
  begin_running tid running a b = rw (a, b) refl

  pub begin_begun : (tid : Tid) → local_of (records home past) tid.tx ≡ None → live_of_tx home past tid.tx ≡ None
      → of_begin home past tid ≡ with_lines (Ev.Begin tid) (Say.Begun tid) (Begins tid (next_number home past) ∷ [])
  unfolding of_begin given
  begin_begun tid a b = rw (a, b) refl

  pub act_idle : (tid : Tid) (act : PlainAct) → live home past tid ≡ None → of_act home past tid act ≡ quiet (Ev.Act tid act) Say.Idle
  unfolding of_act given
  act_idle tid act a = rw a refl

  pub act_acts : (tid : Tid) (act : PlainAct) (run : Run) → live home past tid ≡ Some run
      → of_act home past tid act ≡ with_lines (Ev.Act tid act) (act_answer tid (reply_to home past run act) act) (Acts tid act (reply_to home past run act) ∷ [])
  unfolding of_act given
  act_acts tid act run a = rw a refl

  pub abort_idle : (tid : Tid) → live home past tid ≡ None → of_abort home past tid ≡ quiet (Ev.Abort tid) Say.Idle
  unfolding of_abort given
  abort_idle tid a = rw a refl

  pub abort_aborts : (tid : Tid) (run : Run) → live home past tid ≡ Some run → of_abort home past tid ≡ with_lines (Ev.Abort tid) (Say.Aborted tid) (Aborts tid ∷ [])
  unfolding of_abort given
  abort_aborts tid run a = rw a refl

  pub fate_committed : (tx : Tx) (committed : Tid) → local_of (records home past) tx ≡ Some committed → of_fate home past tx ≡ quiet (Ev.Fate tx) (Say.Committed committed)
  unfolding of_fate given
  fate_committed tx committed a = rw a refl

  pub fate_running : (tx : Tx) (running : Tid) → local_of (records home past) tx ≡ None → live_of_tx home past tx ≡ Some running → of_fate home past tx ≡ quiet (Ev.Fate tx) (Say.Running running)
  unfolding of_fate given
  fate_running tx running a b = rw (a, b) refl

  pub fate_unbegun : (tx : Tx) → local_of (records home past) tx ≡ None → live_of_tx home past tx ≡ None → (attempts_of past tx == 0) ≡ true → of_fate home past tx ≡ quiet (Ev.Fate tx) Say.Unbegun
  unfolding of_fate given
  fate_unbegun tx a b n = rw (a, b) (ap (λ answer. quiet (Ev.Fate tx) answer) (cond-true _ _ _ n))

  pub fate_ended : (tx : Tx) → local_of (records home past) tx ≡ None → live_of_tx home past tx ≡ None → (attempts_of past tx == 0) ≡ false → of_fate home past tx ≡ quiet (Ev.Fate tx) Say.Ended
  unfolding of_fate given
  fate_ended tx a b n = rw (a, b) (ap (λ answer. quiet (Ev.Fate tx) answer) (cond-false _ _ _ n))

  pub commit_idle : (tid : Tid) → live home past tid ≡ None → of_commit home past tid ≡ quiet (Ev.Commit tid) Say.Idle
  unfolding of_commit given
  commit_idle tid a = rw a refl

  pub commit_refused : (tid : Tid) (run : Run) (why : Why) → live home past tid ≡ Some run → stop_of home past run ≡ Some why
      → of_commit home past tid ≡ with_lines (Ev.Commit tid) (refusal_answer why) (Refuses tid why ∷ [])
  unfolding of_commit given
  commit_refused tid run why a b = rw (a, b) refl

  pub commit_seals : (tid : Tid) (run : Run) → live home past tid ≡ Some run → stop_of home past run ≡ None → of_commit home past tid ≡ seals_local home past tid run
  unfolding of_commit given
  commit_seals tid run a b = rw (a, b) refl

-- a live run by the lines, where the book has one, and none where it has none
noted_by : (o : Option Run) (c : Bool) → live_part (progress_by o c) ≡ map_some noted_of (live_one o)
noted_by None true = refl
noted_by None false = refl
noted_by (Some run) c = by_sealed (is_sealed run) where
  by_sealed : (b : Bool) → live_part (Some (cond b Is.Sealed (Is.Live (noted_of run)))) ≡ map_some noted_of (cond b None (Some run))
  by_sealed true = refl
  by_sealed false = refl

pub noted_live : (book : Book) (start : Start) (lines : List EngineLine) (closed : Tid → Bool) → Follows book start lines closed → (u : Tid) → live_in book u ≡ map_some noted_of (live_one (run_at start lines u))
noted_live book start lines closed f u = ap live_part (f.attempts u) ∙ noted_by (run_at start lines u) (closed u)

-- what the book has as not live isn't
pub live_none : (book : Book) (home : Home) (past : SitePast) (tid : Tid) → NotesPast book home past → live_in book tid ≡ None → live home past tid ≡ None
live_none book home past tid n e = from (live home past tid) (sym (noted_live book _ _ _ n.follows tid) ∙ e) where
  from : (o : Option Run) → map_some noted_of o ≡ None → o ≡ None
  from None e = refl
  from (Some run) e = cc

-- a live run with what is noted of it
pub record HasLive (book : Book) (home : Home) (past : SitePast) (tid : Tid) : Type 0 where
  pub run : Run
  pub live : live home past tid ≡ Some run
  pub is : IsLive (epoch_start home past) (engine_lines past) tid run
  pub noted : live_in book tid ≡ Some (noted_of run)

pub live_some : (book : Book) (home : Home) (past : SitePast) (tid : Tid) → NotesPast book home past → is_some (live_in book tid) ≡ true → HasLive book home past tid
live_some book home past tid n e = from (run_at (epoch_start home past) (engine_lines past) tid) refl (noted_live book _ _ _ n.follows tid) where
  from : (o : Option Run) → run_at (epoch_start home past) (engine_lines past) tid ≡ o → live_in book tid ≡ map_some noted_of (live_one o) → HasLive book home past tid
  from None is noted = let none : is_some (live_in book tid) ≡ false = ap is_some noted in cc
  from (Some run) is noted = by_sealed run.sealed refl noted where
    by_sealed : (s : Option ℕ) → run.sealed ≡ s → live_in book tid ≡ map_some noted_of (live_one (Some run)) → HasLive book home past tid
    by_sealed (Some k) sealed noted =
        let none : live_one (Some run) ≡ None = cond-true _ _ _ (ap is_some sealed) in
        let none_noted : is_some (live_in book tid) ≡ false = ap is_some (noted ∙ ap (map_some noted_of) none) in
        cc
    by_sealed None unsealed noted =
        let lives : live_one (Some run) ≡ Some run = cond-false _ _ _ (ap is_some unsealed) in
        record { run = run; live = ap live_one is ∙ lives; is = (is, unsealed); noted = noted ∙ ap (map_some noted_of) lives }

-- what is asked of a look-up in the book
pub is_there : {A : Type 0} (o : Option (Bor A)) (p : Option A) (t : Bool) → option_copied o ≡ p → is_some o ≡ not t → is_some p ≡ not t
is_there o p t copied tested = ap is_some (sym copied) ∙ same o ∙ tested where
  same : {A : Type 0} (o : Option (Bor A)) → is_some (option_copied o) ≡ is_some o
  same None = refl
  same (Some r) = refl

-- an attempt that was begun is counted
begins_counted : (u : Tid) (answer : Answer) → begins_tid u answer ≡ true → begins_tx u.tx answer ≡ true
begins_counted u (Say.Begun begun) e = (and_parts _ _ e).0
begins_counted u answer e = cc

pub begun_counted : (past : SitePast) (u : Tid) → was_begun u past ≡ true → 1 ≤ attempts_of past u.tx
begun_counted [] u e = cc
begun_counted (x ∷ past) u e = from (begins_tid u x.answer) refl (begins_tx u.tx x.answer) refl (begun_counted past u) where
  from : (b : Bool) → begins_tid u x.answer ≡ b → (c : Bool) → begins_tx u.tx x.answer ≡ c → (was_begun u past ≡ true → 1 ≤ attempts_of past u.tx) → 1 ≤ cond (begins_tx u.tx x.answer) (suc (attempts_of past u.tx)) (attempts_of past u.tx)
  from b is true c rest = rw c (omega arith)
  from true is false c rest = let same = begins_counted u x.answer is in cc
  from false is false c rest = rw c (rest (sym (ap (λ (t : Bool). t || was_begun u past) is) ∙ e))

pub some_again : (o : Option ℕ) → 1 ≤ count_of o → IsSome o
some_again None e = absurd (omega arith)
some_again (Some n) e = refl

-- the first of a list that passes a test
first-none : {A : Type 0} (test : A → Bool) (xs : List A) → ((x : A) → Is x xs → test x ≡ false) → first_where test xs ≡ None
first-none test [] none = refl
first-none test (x ∷ xs) none = cond-false _ _ _ (none x (inl refl)) ∙ first-none test xs (λ y y_in. none y (inr y_in))

first-some : {A : Type 0} (test : A → Bool) (xs : List A) (x : A) → Is x xs → test x ≡ true → (y : A) × (Is y xs × (test y ≡ true) × (first_where test xs ≡ Some y))
first-some test [] x x_in passes = absurd x_in
first-some test (z ∷ zs) x x_in passes = by_test (test z) refl x_in (λ rest. first-some test zs x rest passes) where
  by_test : (t : Bool) → test z ≡ t → Is x (z ∷ zs) → (Is x zs → (y : _) × (Is y zs × (test y ≡ true) × (first_where test zs ≡ Some y))) → (y : _) × (Is y (z ∷ zs) × (test y ≡ true) × (cond (test z) (Some z) (first_where test zs) ≡ Some y))
  by_test true e x_in rest = (z, (inl refl, e, cond-true _ _ _ e))
  by_test false e (inl same) rest = let bad : test z ≡ true = ap test same ∙ passes in cc
  by_test false e (inr more) rest = let (y, (y_in, y_passes, first)) = rest more in (y, (inr y_in, y_passes, cond-false _ _ _ e ∙ first))

-- a live attempt of a local transaction is its running one
pub local_runs : (book : Book) (home : Home) (past : SitePast) (u : Tid) → NotesPast book home past → ((tx : Tx) → begun_in book tx ≡ attempts_of past tx) → was_global u.tx past ≡ false
    → is_some (live home past u) ≡ true → running_in book u.tx ≡ Some u
local_runs book home past u n begun local lives = n.order.running u noted (some_again _ (by_known (n.known u (inr lives)))) where
  noted_some : (o : Option Run) → is_some o ≡ true → is_some (map_some noted_of o) ≡ true
  noted_some None e = cc
  noted_some (Some run) e = refl

  noted : is_some (live_in book u) ≡ true
  noted = ap is_some (noted_live book _ _ _ n.follows u) ∙ noted_some (live home past u) lives

  by_known : (was_begun u past ≡ true) ⊎ (was_global u.tx past ≡ true) → 1 ≤ begun_in book u.tx
  by_known (inl b) = let counted = begun_counted past u b in let same = begun u.tx in omega (arith, counted, same)
  by_known (inr g) = cc

module _ (book : Book) (home : Home) (past : SitePast) (n : NotesPast book home past) (right : IsRight (epoch_start home past) (engine_lines past))
    (begun : (tx : Tx) → begun_in book tx ≡ attempts_of past tx) (tx : Tx) (local : was_global tx past ≡ false) where
  -- a run of the transaction that isn't sealed
  abbrev test : Run → Bool
  test run = same_tx run.tid.tx tx && not (is_sealed run)

  named : (run : Run) → Is run (unended (epoch_start home past) (engine_lines past)) → run_at (epoch_start home past) (engine_lines past) run.tid ≡ Some run
  named run run_in =
      let (u, is) = unended-is (epoch_start home past) (engine_lines past) run run_in in
      ap (run_at (epoch_start home past) (engine_lines past)) (tid_is (epoch_start home past) (engine_lines past) right u run is) ∙ is

  -- it runs
  running_one : (run : Run) → Is run (unended (epoch_start home past) (engine_lines past)) → test run ≡ true → running_in book tx ≡ Some run.tid
  running_one run run_in passes =
      let (same, unsealed) = and_parts (same_tx run.tid.tx tx) (not (is_sealed run)) passes in
      let tx_is = same_tx-equal run.tid.tx tx same in
      let lives : live home past run.tid ≡ Some run = ap live_one (named run run_in) ∙ cond-false _ _ _ (not_true (is_sealed run) unsealed) in
      ap (running_in book) (sym tx_is) ∙ local_runs book home past run.tid n begun (ap (λ (t : Tx). was_global t past) tx_is ∙ local) (ap is_some lives)
    where
      not_true : (b : Bool) → not b ≡ true → b ≡ false
      not_true true e = cc
      not_true false e = refl

  some_tid : (a b : Tid) → ◌≡◌ {A = Option Tid} (Some a) (Some b) → a ≡ b
  some_tid a b e = cc

  running_from : (o : Option Tid) → running_in book tx ≡ o → live_of_tx home past tx ≡ o
  running_from None e = ap (map_some (λ (run : Run). run.tid)) (first-none test (unended (epoch_start home past) (engine_lines past)) none) where
    none : (run : Run) → Is run (unended (epoch_start home past) (engine_lines past)) → test run ≡ false
    none run run_in = by_test (test run) refl where
      by_test : (t : Bool) → test run ≡ t → test run ≡ false
      by_test false f = f
      by_test true f = let some = running_one run run_in f in cc
  running_from (Some t) e =
      let own : t.tx ≡ tx = n.order.own tx t e in
      let l = live_some book home past t n (n.order.live tx t e) in
      let run_in = is-unended (epoch_start home past) (engine_lines past) t l.run right l.is.0 in
      let tid : l.run.tid ≡ t = tid_is (epoch_start home past) (engine_lines past) right t l.run l.is.0 in
      let passes : test l.run ≡ true = and_from _ _ (ap (λ (u : Tid). same_tx u.tx tx) tid ∙ (ap (λ (x : Tx). same_tx x tx) own ∙ same_tx-refl tx)) (ap not (ap is_some l.is.1)) in
      let (y, (y_in, y_passes, first)) = first-some test (unended (epoch_start home past) (engine_lines past)) l.run run_in passes in
      ap (map_some (λ (r : Run). r.tid)) first ∙ (sym (running_one y y_in y_passes) ∙ e)

  -- the attempt of a local transaction that the book has running is the one that is live
  pub running_is : live_of_tx home past tx ≡ running_in book tx
  running_is = running_from (running_in book tx) refl

-- the line of a site that is up
pub begin_up : (home : Home) (past : SitePast) (tid : Tid) → is_down past ≡ false → site_line home past (Ev.Begin tid) ≡ unless_tripped home past (of_begin home past tid)
unfolding site_line answered when
begin_up home past tid u = rw u refl

pub act_up : (home : Home) (past : SitePast) (tid : Tid) (act : PlainAct) → is_down past ≡ false → site_line home past (Ev.Act tid act) ≡ unless_tripped home past (of_act home past tid act)
unfolding site_line answered when
act_up home past tid act u = rw u refl

pub commit_up : (home : Home) (past : SitePast) (tid : Tid) → is_down past ≡ false → site_line home past (Ev.Commit tid) ≡ unless_tripped home past (of_commit home past tid)
unfolding site_line answered when
commit_up home past tid u = rw u refl

pub abort_up : (home : Home) (past : SitePast) (tid : Tid) → is_down past ≡ false → site_line home past (Ev.Abort tid) ≡ unless_tripped home past (of_abort home past tid)
unfolding site_line answered when
abort_up home past tid u = rw u refl

pub fate_up : (home : Home) (past : SitePast) (tx : Tx) → is_down past ≡ false → site_line home past (Ev.Fate tx) ≡ unless_tripped home past (of_fate home past tx)
unfolding site_line answered when
fate_up home past tx u = rw u refl

pub halt_up : (home : Home) (past : SitePast) (cut : ℕ) → is_down past ≡ false → site_line home past (Ev.Halt cut) ≡ stopped site_frame (disk home past) (Ev.Halt cut) (Stops cut ∷ [])
unfolding site_line when
halt_up home past cut u = rw u refl

-- a trip is set in any case
pub trip_line : (home : Home) (past : SitePast) (calls cut : ℕ) → site_line home past (Ev.Trip calls cut) ≡ quiet (Ev.Trip calls cut) Say.Set
unfolding site_line
trip_line home past calls cut = refl

pub commit_answered : (home : Home) (past : SitePast) (tid : Tid) → answered home past (Ev.Commit tid) ≡ of_commit home past tid
unfolding answered
commit_answered home past tid = refl

pub back_up : (home : Home) (past : SitePast) → is_down past ≡ false → site_line home past Ev.Back ≡ quiet Ev.Back Say.Awake
unfolding site_line when
back_up home past u = rw u refl

pub check_up : (home : Home) (past : SitePast) → is_down past ≡ false → site_line home past Ev.Check ≡ unless_tripped home past (of_check home past)
unfolding site_line answered when
check_up home past u = rw u refl

-- so no attempt is live while the site is down
pub down_dead : (home : Home) (past : SitePast) (tid : Tid) → epoch_start home past ≡ start_of home (records home past) → engine_lines past ≡ [] → live home past tid ≡ None
down_dead home past tid start lines = ap₂ (λ (s : Start) (l : List EngineLine). live_one (run_at s l tid)) start lines ∙ restored-sealed (start_of home (records home past)).doubtful tid

-- lines that neither call the disk nor send anything
abbrev IsQuiet : SiteHappening → Type 0
IsQuiet x = (x.calls ≡ []) × (x.sends ≡ [])

given_quiet : {A : Type 0} (o : Option A) (none : SiteHappening) (some : A → SiteHappening) → IsQuiet none → ((x : A) → IsQuiet (some x)) → IsQuiet (given o some none)
unfolding given
given_quiet None none some n s = n
given_quiet (Some x) none some n s = s x

pub begin_quiet : (home : Home) (past : SitePast) (tid : Tid) → IsQuiet (of_begin home past tid)
unfolding of_begin
begin_quiet home past tid = given_quiet (local_of (records home past) tid.tx) _ _ (given_quiet (live_of_tx home past tid.tx) _ _ (refl, refl) (λ r. (refl, refl))) (λ c. (refl, refl))

pub act_quiet : (home : Home) (past : SitePast) (tid : Tid) (act : PlainAct) → IsQuiet (of_act home past tid act)
unfolding of_act
act_quiet home past tid act = given_quiet (live home past tid) _ _ (refl, refl) (λ run. (refl, refl))

pub abort_quiet : (home : Home) (past : SitePast) (tid : Tid) → IsQuiet (of_abort home past tid)
unfolding of_abort
abort_quiet home past tid = given_quiet (live home past tid) _ _ (refl, refl) (λ run. (refl, refl))

pub fate_quiet : (home : Home) (past : SitePast) (tx : Tx) → IsQuiet (of_fate home past tx)
unfolding of_fate
fate_quiet home past tx = given_quiet (local_of (records home past) tx) _ _ (given_quiet (live_of_tx home past tx) _ _ (refl, refl) (λ r. (refl, refl))) (λ c. (refl, refl))
