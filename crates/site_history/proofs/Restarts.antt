-- A start of a site from backed records is a restart after the epochs that back them, and these with it back the records.
use Rattle.std.proofs.Common.{◌≡◌, ◌≤◌, ◌⊎◌, Bool, true, false, cond, Option, Some, None, List, [], ◌∷◌, map, refl, sym, ap, ◌∙◌, subst, inl, inr, arith, ltb-false, le-ltb}
use Rattle.std.specs.Prelude.{nat_lt}
use Rattle.mdb_base.specs.declared.names.Key.{Key}
use Rattle.mdb_base.specs.declared.names.Tid.{Tid}
use Rattle.mdb_base.specs.Rows.{look_up}
use Rattle.mdb_base.specs.Words.{Each, or_else}
use Rattle.order_laws.specs.Chains.{In}
use Rattle.fed_rules.specs.declared.records.SiteRecord.{SiteRecord}
use Rattle.fed_rules.specs.declared.records.SiteRecord.TheVariants.{Setup, Start, Prepared, Ended, Local, Checkpoint}
use Rattle.fed_rules.specs.EngineLines.{AllApart, IsNumbered, IsStart}
use Rattle.fed_rules.specs.Runs as Runs
use Rattle.fed_rules.specs.Runs.{EngineLine, Access, Run, committed, number, published, restored, run_at, table, table_of}
use Rattle.fed_rules.specs.SiteRecords.{Home, Held, doubt_of, doubts, installs, kept_held, last_number, rows_after, start_of}
use Rattle.engine_laws.specs.Epochs.{Epoch, AreEpochs, StartsAfter, all_committed}
use Rattle.engine_laws.specs.Laws.{IsLeft}
use Rattle.engine_laws.proofs.ForCallers.{always_may_restart, doubt_tid, each_doubt, history, once_doubts}
use Rattle.site_history.specs.Lines.{Agrees}
use Rattle.site_history.specs.Records.{BindOnce}
use Rattle.site_history.proofs.AsSealed.{IsRunOf, all_in, as_sealed, as_was, in_all, newest_right, WasCommitted}
use Rattle.site_history.proofs.Backing.{IsBacked, IsKeptAs, IsKeptRun}
use Rattle.site_history.proofs.EpochLines.{epoch_of_lines}
use Rattle.site_history.proofs.Installs.{installs_distinct}
use Rattle.site_history.proofs.Records.{HasNumber, doubt_number, number_most}
use Rattle.site_history.proofs.SameLists.{install_of, installs_fall, rows_of_runs, same_list}
use Rattle.site_history.proofs.Starts.{HasRisingWrites, restored_doubt, restored_held, start_agrees}

-- the committed runs of backed records, by falling numbers, are their installs
pub installs_are : (home : Home) (acts : Tid → List Access) (records : List SiteRecord) (start : Runs.Start) (lines : List EngineLine)
    (earlier : List Epoch) → IsBacked home acts records start lines earlier → BindOnce records
    → map install_of (all_committed [] (epoch_of_lines start lines) earlier) ≡ installs records
installs_are home acts records start lines earlier b once =
    same_list runs (installs records) (history epoch earlier b.epochs [] tt).numbers (installs_fall records) (installs_distinct records once)
    (λ run i. to run (in_all [] epoch earlier run b.epochs i))
    (λ i j.
    let h = b.installed i j in
    record { item = h.run; among = all_in [] epoch earlier h.run b.epochs (inl h.was); image = h.is })
  where
    epoch : Epoch
    epoch = epoch_of_lines start lines

    runs : List Run
    runs = all_committed [] (epoch_of_lines start lines) earlier

    to : (run : Run) → WasCommitted (epoch_of_lines start lines) earlier run
        ⊎ IsRunOf (as_sealed (epoch_of_lines start lines) earlier) [] run
        → In (install_of run) (installs records)
    to run (inl w) = (b.committed run w).installed
    to run (inr r) = elim r.among [ ]

-- the rows that the records give are those of the table
pub rows_are : (home : Home) (acts : Tid → List Access) (records : List SiteRecord) (start : Runs.Start) (lines : List EngineLine)
    (earlier : List Epoch) → IsBacked home acts records start lines earlier → BindOnce records
    → (key : Key) → look_up (rows_after home.items (installs records)) key ≡ table start lines key
rows_are home acts records start lines earlier b once key =
    let epoch = epoch_of_lines start lines in
    let runs = all_committed [] epoch earlier in
    ap (λ xs. look_up (rows_after home.items xs) key) (sym (installs_are home acts records start lines earlier b once))
    ∙ rows_of_runs home.items runs key
    ∙ ap (λ items. table_of (look_up items) runs key) (sym b.first)
    ∙ (history epoch earlier b.epochs [] tt).left key

-- what is in doubt was left sealed
pub left_sealed : (start : Runs.Start) (lines : List EngineLine) (tid : Tid) (held : Held) (o : Option Run) → held.tid ≡ tid
    → run_at start lines tid ≡ o → Agrees (Some held) o → IsLeft start lines (kept_held held)
left_sealed start lines tid held None of_tid at a = elim a [ ]
left_sealed start lines tid held (Some run) of_tid at a = record {
  run = run;
  sealed = (ap (run_at start lines) of_tid ∙ at, a.0);
  ticket = a.1;
  writes = a.2;
}

-- the serial number of a kept run
kept_number : (run : Run) (kept : SiteRecord) → IsKeptAs run kept → HasNumber (number run) kept
kept_number run (Prepared tid epoch n ticket writes) is = sym (ap (λ o. or_else o 0) is.1)
kept_number run (Local tid n writes) is = sym (ap (λ o. or_else o 0) is.1)
kept_number run (Setup site engine protocol items) is = is
kept_number run (Checkpoint sum) is = is
kept_number run (Start epoch) is = is
kept_number run (Ended tid decision) is = is

-- the numbers of the committed runs are at most the last one
numbers_most : (home : Home) (acts : Tid → List Access) (records : List SiteRecord) (start : Runs.Start) (lines : List EngineLine)
    (earlier : List Epoch) → IsBacked home acts records start lines earlier → (runs : List Run)
    → ((run : Run) → In run runs → In run (committed start lines)) → Each (λ run. number run ≤ last_number records) runs
numbers_most home acts records start lines earlier b [] sub = tt
numbers_most home acts records start lines earlier b (run ∷ runs) sub = (
  by_test (nat_lt start.counter (number run)) refl,
  numbers_most home acts records start lines earlier b runs (λ r i. sub r (inr i)),
)
  where
    was_here : (es : List Epoch) → nat_lt start.counter (number run) ≡ true → In run (committed start lines)
        → WasCommitted (epoch_of_lines start lines) es run
    was_here [] is i = i
    was_here (before ∷ more) is i = inl (is, i)

    by_test : (c : Bool) → nat_lt start.counter (number run) ≡ c → number run ≤ last_number records
    by_test true is =
        let h = b.committed run (was_here earlier is (sub run (inl refl))) in
        number_most records h.kept (number run) h.among (kept_number run h.kept h.is)
    by_test false is = let most = ltb-false start.counter (number run) is in let c = b.counter in omega arith

-- the start comes after the epoch before it
pub starts_after : (home : Home) (acts : Tid → List Access) (records : List SiteRecord) (start : Runs.Start) (lines : List EngineLine)
    (earlier : List Epoch) → IsBacked home acts records start lines earlier → BindOnce records
    → StartsAfter (epoch_of_lines start lines) (start_of home records)
starts_after home acts records start lines earlier b once = record {
  restart = record {
    kind = sym b.kind;
    rows = rows_are home acts records start lines earlier b once;
    left = each_doubt (IsLeft start lines) records
        (λ tid held e. left_sealed start lines tid held (run_at start lines tid) (doubt_tid records tid held e) refl
        (subst (λ o. Agrees o (run_at start lines tid)) e (b.agrees tid)));
    once = once_doubts records;
    counter = each_doubt (λ kept. kept.number ≤ last_number records) records (λ tid held e. doubt_number records tid held e);
    published = b.published;
  };
  counter = b.counter;
  numbers = numbers_most home acts records start lines earlier b (committed start lines) (λ run i. i);
}

-- and with it the epochs back the records
pub backed_restart : (home : Home) (acts : Tid → List Access) (records : List SiteRecord) (start : Runs.Start) (lines : List EngineLine)
    (earlier : List Epoch) → IsBacked home acts records start lines earlier → BindOnce records → Each HasRisingWrites records
    → IsBacked home acts records (start_of home records) [] (epoch_of_lines start lines ∷ earlier)
backed_restart home acts records start lines earlier b once rising = record {
  epochs = (starts_after home acts records start lines earlier b once, tt, b.epochs);
  first = b.first;
  kind = refl;
  agrees = start_agrees home records rising;
  doubts = λ tid held e.
      let h = b.doubts tid held e in
      record { run = h.run; was = as_before tid held h.run e h.was; is = h.is; had = h.had };
  committed = λ run w. by_origin run w;
  installed = λ i j.
      let h = b.installed i j in
      record { run = h.run; was = inr (inr h.was); is = h.is };
  counter = omega arith;
  published = omega arith;
}
  where
    next : Runs.Start
    next = start_of home records

    as_before : (tid : Tid) (held : Held) (run : Run) → doubt_of records tid ≡ Some held → as_sealed (epoch_of_lines start lines) earlier tid ≡ Some run
        → as_sealed (epoch_of_lines (start_of home records) []) (epoch_of_lines start lines ∷ earlier) tid ≡ Some run
    as_before tid held run e was =
        ap (λ o. as_was next o (as_sealed (epoch_of_lines start lines) earlier tid)) (restored_doubt records tid ∙ ap restored_held e)
        ∙ ap (λ b. cond b (Some (restored (kept_held held))) (as_sealed (epoch_of_lines start lines) earlier tid))
        (le-ltb (last_number records) held.number (doubt_number records tid held e))
        ∙ was

    by_origin : (run : Run) → WasCommitted (epoch_of_lines (start_of home records) []) (epoch_of_lines start lines ∷ earlier) run
        → IsKeptRun acts records run
    by_origin run (inl (is, i)) = elim i [ ]
    by_origin run (inr (inl r)) = elim r.among [ ]
    by_origin run (inr (inr w)) = b.committed run w

-- the newest epoch has a good start
pub good_newest : (epoch : Epoch) (earlier : List Epoch) → AreEpochs epoch earlier → IsStart epoch.start
good_newest epoch [] first = record {
  numbered = subst (Each (IsNumbered epoch.start)) (sym first.nothing) tt;
  apart = subst AllApart (sym first.nothing) tt;
}
good_newest epoch (before ∷ more) (after_it, right, rest) =
    (always_may_restart before.start before.lines (good_newest before more rest) (newest_right before more rest) epoch.start after_it.restart).0

-- records that bind nothing are backed by an epoch with no lines
pub backed_empty : (home : Home) (acts : Tid → List Access) (records : List SiteRecord)
    → ((tid : Tid) → doubt_of records tid ≡ None) → doubts records ≡ [] → installs records ≡ []
    → IsBacked home acts records (start_of home records) [] []
backed_empty home acts records none nothing installs_none = record {
  epochs = record { nothing = ap (map kept_held) nothing; right = tt };
  first = ap (rows_after home.items) installs_none;
  kind = refl;
  agrees = λ tid. subst (Agrees (doubt_of records tid)) (sym (restored_doubt records tid ∙ ap restored_held (none tid)))
      (subst (λ o. Agrees o None) (sym (none tid)) tt);
  doubts = λ tid held e. let clash = sym (none tid) ∙ e in cc;
  committed = λ run w. elim w [ ];
  installed = λ i j. elim (subst (In i) installs_none j) [ ];
  counter = omega arith;
  published = omega arith;
}
