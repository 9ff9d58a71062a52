-- The committed runs of several epochs are serial, since each restart commits as before.
use Rattle.std.proofs.Common.{◌≡◌, ℕ, ◌<◌, ◌≤◌, ◌⊎◌, Bool, true, false, cond, not, Some, List, [], ◌∷◌, ◌++◌, map, refl, sym, ap, ◌∙◌, subst, inl, inr, arith, ltb-false, le-ltb, lt-ltb}
use Rattle.std.specs.Prelude.{nat_lt}
use Rattle.mdb_base.specs.declared.names.Tid.{Tid}
use Rattle.mdb_base.specs.declared.names.Key.{Key}
use Rattle.mdb_base.specs.Names.{same_tid}
use Rattle.mdb_base.specs.Rows.{Table, look_up}
use Rattle.mdb_base.specs.Words.{Each, those, inserted}
use Rattle.mdb_base.proofs.ForCallers.{append_each, each_all, each_append, each_filtered, each_map, same_tid-equal, those_all, those_nothing}
use Rattle.fed_rules.specs.Runs.{Start, EngineLine, Commits, Run, run_at, number, committed, published, restored_at, table_of, by_number}
use Rattle.fed_rules.specs.Replies.{access_key}
use Rattle.fed_rules.specs.EngineLines.{IsRight, IsStart, IsNumbered, AllApart}
use Rattle.fed_rules.specs.SerialRuns.{IsSerial, NumbersFall, TicketsFall, HasLowerTicket}
use Rattle.engine_laws.specs.Epochs.{Epoch, StartsAfter, AreEpochs, first_rows, new_runs, restored_tids, all_committed, EpochsAreSerial}
use Rattle.engine_laws.specs.Laws.{HasTicketTo, with_commits, AreSealed}
use Rattle.engine_laws.proofs.Tables.{reads_on, after_same}
use Rattle.engine_laws.proofs.ByNumber.{is_later}
use Rattle.engine_laws.proofs.Commits.{commits_right, run_beside}
use Rattle.engine_laws.proofs.Runs.{each_committed, number_is}
use Rattle.engine_laws.proofs.Stops.{restored_of}
use Rattle.engine_laws.proofs.Counted.{counted}
use Rattle.engine_laws.proofs.EachRule.{always_serial, always_tickets, always_may_restart}
use Rattle.engine_laws.proofs.Origins.{IsFrom, committed_origins, published_from}

-- more runs before ones that leave the same table leave the same table
table_before : (items firsts : Table) (new old more : List Run)
    → ((key : Key) → table_of items old key ≡ table_of firsts more key)
    → (key : Key) → table_of items (new ++ old) key ≡ table_of firsts (new ++ more) key
table_before items firsts [] old more same key = same key
table_before items firsts (run ∷ new) old more same key =
    after_same run.acts (table_of items (new ++ old)) (table_of firsts (new ++ more)) key
    (table_before items firsts new old more same key)

-- and read alike
serial_before : (items firsts : Table) (new old more : List Run)
    → ((key : Key) → table_of items old key ≡ table_of firsts more key)
    → IsSerial items (new ++ old) → IsSerial firsts more → IsSerial firsts (new ++ more)
serial_before items firsts [] old more same serial rest = rest
serial_before items firsts (run ∷ new) old more same serial rest = (
  reads_on run.acts (table_of items (new ++ old)) (table_of firsts (new ++ more))
      (each_all (λ access. table_of items (new ++ old) (access_key access) ≡ table_of firsts (new ++ more) (access_key access))
      (λ access. table_before items firsts new old more same (access_key access)) run.acts)
      serial.0,
  serial_before items firsts new old more same serial.1 rest,
)

falls_before : (c : ℕ) (new old more : List Run) → NumbersFall (new ++ old) → Each (λ run. c < number run) new
    → Each (λ run. number run ≤ c) more
    → NumbersFall more → NumbersFall (new ++ more)
falls_before c [] old more falls greater kept rest = rest
falls_before c (run ∷ new) old more falls greater kept rest = (
  append_each (λ other. number other < number run) new more
      (each_append (λ other. number other < number run) new old falls.0).0
      (each_map _ (λ other. number other < number run) (λ other most. let more_than = greater.0 in omega arith) more kept),
  falls_before c new old more falls.1 greater.1 kept rest,
)

tickets_before : (p : ℕ) (new old more : List Run) → TicketsFall (new ++ old)
    → Each (λ run. (t : ℕ) → run.ticket ≡ Some t → p < t) new → Each (HasTicketTo p) more
    → TicketsFall more → TicketsFall (new ++ more)
tickets_before p [] old more falls greater kept rest = rest
tickets_before p (run ∷ new) old more falls greater kept rest = (
  append_each (HasLowerTicket run) new more
      (each_append (HasLowerTicket run) new old falls.0).0
      (each_map _ (HasLowerTicket run) (λ other most t u taken its. let x = greater.0 t taken in let y =
      most u its in omega arith) more kept),
  tickets_before p new old more falls.1 greater.1 kept rest,
)

abbrev old_runs : Start → List Run → List Run
old_runs start runs = those (λ run. not (nat_lt start.counter (number run))) runs

-- numbers that fall are first those above, then those not above
split_runs : (start : Start) (runs : List Run) → NumbersFall runs → runs ≡ new_runs start runs ++ old_runs start runs
split_runs start [] falls = refl
split_runs start (run ∷ runs) falls = by_test (nat_lt start.counter (number run)) refl (split_runs start runs falls.1)
  where
    by_test : (b : Bool) → nat_lt start.counter (number run) ≡ b → runs ≡ new_runs start runs ++ old_runs start runs
        → run ∷ runs ≡ cond b (run ∷ new_runs start runs) (new_runs start runs) ++ cond (not b) (run ∷ old_runs start runs)
        (old_runs start runs)
    by_test true is rest = ap (λ xs. run ∷ xs) rest
    by_test false is rest =
        let below = each_map _ (λ other. nat_lt start.counter (number other) ≡ false)
        (λ other less. le-ltb start.counter (number other) (let most = ltb-false start.counter (number run) is in omega arith))
        runs falls.0 in
        let none : new_runs start runs ≡ [] = those_nothing (λ other. nat_lt start.counter (number other)) runs below in
        let all : old_runs start runs ≡ runs = those_all (λ other. not (nat_lt start.counter (number other))) runs
        (each_map _ (λ other. not (nat_lt start.counter (number other)) ≡ true) (λ other e. ap not e) runs below) in
        ap (λ xs. run ∷ xs) (sym all) ∙ ap (λ xs. xs ++ (run ∷ old_runs start runs)) (sym none)

-- a committed run, as the epoch's counter tells it: restored or new
record IsOld (start : Start) (run : Run) : Type 0 where
  restored : restored_at start.doubtful run.tid ≡ Some run
  sealed : run.sealed ≡ Some (number run)

record IsTicketNew (start : Start) (run : Run) : Type 0 where
  above : start.counter < number run
  ticket : (t : ℕ) → run.ticket ≡ Some t → start.published < t

-- who isn't above the start's counter was restored, and who is, is new
old_or_new : (start : Start) (run : Run) → IsStart start → IsFrom start run → run.sealed ≡ Some (number run)
    → ((nat_lt start.counter (number run) ≡ true) × IsTicketNew start run)
    ⊎ ((nat_lt start.counter (number run) ≡ false) × IsOld start run)
old_or_new start run begun (inl (at, kept)) sealed =
    let most = ((counted start [] begun tt).unended run.tid run at).sealed (number run) sealed in
    inr (le-ltb start.counter (number run) (omega (arith, most.1)), record { restored = at; sealed = sealed })
old_or_new start run begun (inr new) sealed =
    let greater = new.sealed (number run) sealed in
    inl (lt-ltb start.counter (number run) greater, record { above = greater; ticket = new.ticket })

each_old : (start : Start) (runs : List Run) → IsStart start → Each (IsFrom start) runs
    → Each (λ run. run.sealed ≡ Some (number run)) runs → Each (IsOld start) (old_runs start runs)
each_old start [] begun from sealed = tt
each_old start (run ∷ runs) begun from sealed =
    by_origin (old_or_new start run begun from.0 sealed.0) (each_old start runs begun from.1 sealed.1)
  where
    by_origin : ((nat_lt start.counter (number run) ≡ true) × IsTicketNew start run)
        ⊎ ((nat_lt start.counter (number run) ≡ false) × IsOld start run)
        → Each (IsOld start) (old_runs start runs)
        → Each (IsOld start) (cond (not (nat_lt start.counter (number run))) (run ∷ old_runs start runs) (old_runs start runs))
    by_origin (inl (is, new)) rest = subst (λ b. Each (IsOld start)
        (cond (not b) (run ∷ old_runs start runs) (old_runs start runs))) (sym is) rest
    by_origin (inr (is, old)) rest = subst (λ b. Each (IsOld start)
        (cond (not b) (run ∷ old_runs start runs) (old_runs start runs))) (sym is) (old, rest)

each_new : (start : Start) (runs : List Run) → IsStart start → Each (IsFrom start) runs
    → Each (λ run. run.sealed ≡ Some (number run)) runs → Each (IsTicketNew start) (new_runs start runs)
each_new start [] begun from sealed = tt
each_new start (run ∷ runs) begun from sealed =
    by_origin (old_or_new start run begun from.0 sealed.0) (each_new start runs begun from.1 sealed.1)
  where
    by_origin : ((nat_lt start.counter (number run) ≡ true) × IsTicketNew start run)
        ⊎ ((nat_lt start.counter (number run) ≡ false) × IsOld start run)
        → Each (IsTicketNew start) (new_runs start runs)
        → Each (IsTicketNew start) (cond (nat_lt start.counter (number run)) (run ∷ new_runs start runs) (new_runs start runs))
    by_origin (inl (is, new)) rest = subst (λ b. Each (IsTicketNew start)
        (cond b (run ∷ new_runs start runs) (new_runs start runs))) (sym is) (new, rest)
    by_origin (inr (is, old)) rest = subst (λ b. Each (IsTicketNew start)
        (cond b (run ∷ new_runs start runs) (new_runs start runs))) (sym is) rest

abbrev tids_of : List Run → List Tid
tids_of runs = map (λ run. run.tid) runs

-- restored runs of falling numbers are of different attempts
others_apart : (start : Start) (run : Run) (runs : List Run) → IsOld start run → Each (IsOld start) runs
    → Each (λ other. number other < number run) runs
    → Each (λ other. same_tid run.tid other ≡ false) (tids_of runs)
others_apart start run [] old olds less = tt
others_apart start run (other ∷ runs) old olds less =
    (by_test (same_tid run.tid other.tid) refl, others_apart start run runs old olds.1 less.1)
  where
    by_test : (b : Bool) → same_tid run.tid other.tid ≡ b → same_tid run.tid other.tid ≡ false
    by_test false is = is
    by_test true is =
        let both : Some run ≡ Some other = sym old.restored
        ∙ ap (restored_at start.doubtful) (same_tid-equal run.tid other.tid is) ∙ olds.0.restored in
        let one : run ≡ other = cc in
        let same : number run ≡ number other = ap number one in
        absurd (omega (arith, less.0))

-- at the start they are sealed, and their commits give them by their numbers
sealed_olds : (start : Start) (runs : List Run) → Each (IsOld start) runs → NumbersFall runs → AreSealed start [] (tids_of runs)
sealed_olds start [] olds falls = tt
sealed_olds start (run ∷ runs) olds falls = (
  run,
  number run,
  (olds.0.restored, olds.0.sealed),
  others_apart start run runs olds.0 olds.1 falls.0,
  sealed_olds start runs
      olds.1 falls.1,
)

first_inserted : (run : Run) (runs : List Run) → Each (λ other. number other < number run) runs
    → inserted is_later run runs ≡ run ∷ runs
first_inserted run [] less = refl
first_inserted run (other ∷ runs) less =
    ap (λ b. cond b (other ∷ inserted is_later run runs) (run ∷ other ∷ runs))
    (le-ltb (number run) (number other) (omega (arith, less.0)))

committed_olds : (start : Start) (runs : List Run) → Each (IsOld start) runs → NumbersFall runs
    → committed start (with_commits (tids_of runs) []) ≡ runs
committed_olds start [] olds falls = refl
committed_olds start (run ∷ runs) olds falls =
    let apart = others_apart start run runs olds.0 olds.1 falls.0 in
    ap (λ o. by_number o (committed start (with_commits (tids_of runs) [])))
    (run_beside start [] run.tid (tids_of runs) apart ∙ olds.0.restored)
    ∙ ap (inserted is_later run) (committed_olds start runs olds.1 falls.1)
    ∙ first_inserted run runs falls.0

falls_behind : (xs ys : List Run) → NumbersFall (xs ++ ys) → NumbersFall ys
falls_behind [] ys falls = falls
falls_behind (x ∷ xs) ys falls = falls_behind xs ys falls.1

-- the committed runs of an epoch: the new ones, and behind them the restored ones, whose commits alone give them
record IsSplit (start : Start) (runs : List Run) : Type 0 where
  whole : runs ≡ new_runs start runs ++ old_runs start runs
  new : Each (IsTicketNew start) (new_runs start runs)
  sealed : AreSealed start [] (restored_tids start runs)
  committed : committed start (with_commits (restored_tids start runs) []) ≡ old_runs start runs

split_at : (start : Start) (lines : List EngineLine) → IsStart start → IsRight start lines → IsSplit start (committed start lines)
split_at start lines begun right =
    let runs = committed start lines in
    let site = always_serial start lines begun right in
    let from = committed_origins start lines right in
    let sealed = each_map _ (λ run. run.sealed ≡ Some (number run)) (λ run was. was.sealed) runs
    (counted start lines begun right).committed in
    let whole = split_runs start runs site.numbers in
    let olds = each_old start runs begun from sealed in
    let falls = falls_behind (new_runs start runs) (old_runs start runs) (subst NumbersFall whole site.numbers) in
    record {
      whole = whole;
      new = each_new start runs begun from sealed;
      sealed = sealed_olds start (old_runs start runs) olds falls;
      committed = committed_olds start (old_runs start runs) olds falls;
    }

-- every epoch has a good start and right lines
good_epoch : (epoch : Epoch) (earlier : List Epoch) → AreEpochs epoch earlier
    → IsStart epoch.start × IsRight epoch.start epoch.lines
good_epoch epoch [] first = (
  record {
    numbered = subst (Each (IsNumbered epoch.start)) (sym first.nothing) tt;
    apart =
        subst AllApart (sym first.nothing) tt;
  },
  first.right,
)
good_epoch epoch (before ∷ more) (after_it, right, rest) =
    let good = good_epoch before more rest in
    ((always_may_restart before.start before.lines good.0 good.1 epoch.start after_it.restart).0, right)

-- commits publish nothing
published_with : (start : Start) (lines : List EngineLine) (tids : List Tid)
    → published start (with_commits tids lines) ≡ published start lines
published_with start lines [] = refl
published_with start lines (tid ∷ tids) = published_with start lines tids

-- commits of runs that the next start restores keep the numbers at most its counter
numbers_with : (epoch : Epoch) (next : Start) → IsStart next → StartsAfter epoch next → IsRight epoch.start epoch.lines
    → (tids : List Tid) → AreSealed next [] tids → AreSealed epoch.start epoch.lines tids
    → Each (λ run. number run ≤ next.counter) (committed epoch.start (with_commits tids epoch.lines))
numbers_with epoch next good after_it right [] sealed before = after_it.numbers
numbers_with epoch next good after_it right (tid ∷ tids) (run, n, is_sealed, apart, more)
    (old, m, was_sealed, was_apart, more_before) =
    let it = restored_of epoch.start epoch.lines next.doubtful tid run after_it.restart.left is_sealed.0 in
    let most = ((counted next [] good tt).unended tid run is_sealed.0).sealed it.kept.number (ap (λ r. r.sealed) (sym it.is)) in
    let right_line = (commits_right epoch.start epoch.lines (tid ∷ tids) right (old, m, was_sealed, was_apart, more_before)).0 in
    each_committed epoch.start (with_commits tids epoch.lines) (Commits tid) (λ r. number r ≤ next.counter) right_line
    (λ r k is at.
    let at_left : run_at epoch.start (with_commits tids epoch.lines) tid ≡ Some it.left.run =
    run_beside epoch.start epoch.lines tid tids apart ∙ ap (run_at epoch.start epoch.lines) (sym it.tid_same)
    ∙ it.left.sealed.0 in
    let both : Some r ≡ Some it.left.run = sym at.0 ∙ at_left in
    let one : r ≡ it.left.run = cc in
    let same : number r ≡ it.kept.number = ap number one ∙ number_is it.left.run it.kept.number it.left.sealed.1 in
    omega (arith, most.1))
    (numbers_with epoch next good after_it right tids more more_before)

tickets_with : (epoch : Epoch) (next : Start) → StartsAfter epoch next → IsStart epoch.start → IsRight epoch.start epoch.lines
    → (tids : List Tid) → AreSealed epoch.start epoch.lines tids
    → Each (HasTicketTo next.published) (committed epoch.start (with_commits tids epoch.lines))
tickets_with epoch next after_it begun right tids sealed =
    let tickets = always_tickets epoch.start (with_commits tids epoch.lines) begun
    (commits_right epoch.start epoch.lines tids right sealed) in
    let same = published_with epoch.start epoch.lines tids in
    let most = after_it.restart.published in
    each_map _ (HasTicketTo next.published) (λ run to t taken. let le = to t taken in omega arith)
    (committed epoch.start (with_commits tids epoch.lines)) tickets.of_committed

-- the numbers and the tickets of all committed runs are at most those of the next start
record IsKept (next : Start) (run : Run) : Type 0 where
  number : number run ≤ next.counter
  ticket : HasTicketTo next.published run

kept_both : (next : Start) (runs : List Run) → Each (λ run. number run ≤ next.counter) runs
    → Each (HasTicketTo next.published) runs → Each (IsKept next) runs
kept_both next [] numbers tickets = tt
kept_both next (run ∷ runs) numbers tickets =
    (record { number = numbers.0; ticket = tickets.0 }, kept_both next runs numbers.1 tickets.1)

all_kept : (epoch : Epoch) (earlier : List Epoch) (next : Start) → AreEpochs epoch earlier → IsStart next → StartsAfter epoch next
    → (tids : List Tid) → AreSealed next [] tids → AreSealed epoch.start epoch.lines tids
    → Each (IsKept next) (all_committed tids epoch earlier)
all_kept epoch [] next first good after_it tids sealed before =
    let here = good_epoch epoch [] first in
    kept_both next (committed epoch.start (with_commits tids epoch.lines))
    (numbers_with epoch next good after_it here.1 tids sealed before) (tickets_with epoch next after_it here.0 here.1 tids before)
all_kept epoch (last ∷ more) next (after_last, right, rest) good after_it tids sealed before =
    let here = good_epoch epoch (last ∷ more) (after_last, right, rest) in
    let lines = with_commits tids epoch.lines in
    let runs = committed epoch.start lines in
    let split = split_at epoch.start lines here.0 (commits_right epoch.start epoch.lines tids right before) in
    let olds = restored_tids epoch.start runs in
    let back = good_epoch last more rest in
    let again = (always_may_restart last.start last.lines back.0 back.1 epoch.start after_last.restart).1 olds split.sealed in
    append_each (IsKept next) (new_runs epoch.start runs) (all_committed olds last more)
    (each_filtered (IsKept next) (λ run. nat_lt epoch.start.counter (number run)) runs
    (kept_both next runs (numbers_with epoch next good after_it right tids sealed before)
    (tickets_with epoch next after_it here.0 right tids before)))
    (each_map _ (IsKept next)
    (λ run kept. record {
      number = let x = kept.number in let y = after_it.counter in omega arith;
      ticket = λ t taken.
          let x = kept.ticket t taken in
          let y = published_from epoch.start epoch.lines in
          let z = after_it.restart.published in omega arith;
    })
    (all_committed olds last more) (all_kept last more epoch.start rest here.0 after_last olds split.sealed again.0))

-- the committed runs of all epochs are serial
pub history : EpochsAreSerial
history epoch [] first tids sealed =
    let here = good_epoch epoch [] first in
    let right = commits_right epoch.start epoch.lines tids here.1 sealed in
    let site = always_serial epoch.start (with_commits tids epoch.lines) here.0 right in
    let tickets = always_tickets epoch.start (with_commits tids epoch.lines) here.0 right in
    record { numbers = site.numbers; alone = site.alone; tickets = tickets.among_committed; left = λ key. refl }
history epoch (before ∷ more) (after_it, right, rest) tids sealed =
    let here = good_epoch epoch (before ∷ more) (after_it, right, rest) in
    let back = good_epoch before more rest in
    let lines = with_commits tids epoch.lines in
    let lines_right = commits_right epoch.start epoch.lines tids right sealed in
    let runs = committed epoch.start lines in
    let site = always_serial epoch.start lines here.0 lines_right in
    let tickets = always_tickets epoch.start lines here.0 lines_right in
    let split = split_at epoch.start lines here.0 lines_right in
    let olds = restored_tids epoch.start runs in
    let again = (always_may_restart before.start before.lines back.0 back.1 epoch.start after_it.restart).1 olds split.sealed in
    let past = history before more rest olds again.0 in
    let items = look_up epoch.start.rows in
    let firsts = look_up (first_rows before more) in
    let new = new_runs epoch.start runs in
    let old = old_runs epoch.start runs in
    let all = all_committed olds before more in
    let kept = all_kept before more epoch.start rest here.0 after_it olds split.sealed again.0 in
    let same : (key : Key) → table_of items old key ≡ table_of firsts all key =
    λ key. ap (λ xs. table_of items xs key) (sym split.committed) ∙ again.1 key ∙ sym (past.left key) in
    record {
      numbers = falls_before epoch.start.counter new old all (subst NumbersFall split.whole site.numbers)
          (each_map _ (λ run. epoch.start.counter < number run) (λ run is. is.above) new split.new)
          (each_map _ (λ run. number run ≤ epoch.start.counter) (λ run is. is.number) all kept) past.numbers;
      alone = serial_before items firsts new old all same (subst (IsSerial items) split.whole site.alone) past.alone;
      tickets = tickets_before epoch.start.published new old all (subst TicketsFall split.whole tickets.among_committed)
          (each_map _ (λ run. (t : ℕ) → run.ticket ≡ Some t → epoch.start.published < t) (λ run is. is.ticket) new split.new)
          (each_map _ (HasTicketTo epoch.start.published) (λ run is. is.ticket) all kept) past.tickets;
      left = λ key. sym (table_before items firsts new old all same key) ∙ ap (λ xs. table_of items xs key) (sym split.whole);
    }
