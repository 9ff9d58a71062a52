-- Records that are backed by epochs: their installs are the runs that the epochs committed, and those in doubt the ones that they left sealed.
use Rattle.std.proofs.Common.{◌≡◌, ℕ, ◌<◌, ◌≤◌, Bool, true, false, cond, Some, None, List, [], ◌∷◌, refl, sym, ap, ◌∙◌, subst, inl, inr, arith, lt-ltb}
use Rattle.mdb_base.specs.declared.names.Tid.{Tid}
use Rattle.mdb_base.specs.Names.{same_tid}
use Rattle.mdb_base.proofs.ForCallers.{same_tid-equal, same_tid-refl}
use Rattle.order_laws.specs.Chains.{In}
use Rattle.fed_rules.specs.declared.records.SiteRecord.{SiteRecord}
use Rattle.fed_rules.specs.declared.records.SiteRecord.TheVariants.{Setup, Start, Prepared, Ended, Local, Checkpoint}
use Rattle.fed_rules.specs.EngineLines.{IsRight, IsLive}
use Rattle.fed_rules.specs.Runs as Runs
use Rattle.fed_rules.specs.Runs.{EngineLine, Seals, Access, Run, committed, number, published, puts_of, run_at, tid_of, changed}
use Rattle.fed_rules.specs.SiteRecords.{Home, Held, Install, doubt_of, installs, last_number, last_ticket}
use Rattle.engine_laws.specs.Epochs.{Epoch, AreEpochs, first_rows}
use Rattle.engine_laws.proofs.ForCallers.{IsFrom, IsNew, doubt_tid, origins}
use Rattle.site_history.specs.Lines.{Agrees}
use Rattle.site_history.specs.Records.{Binds, IsBound}
use Rattle.site_history.proofs.AsSealed.{as_sealed, as_was, WasCommitted}
use Rattle.site_history.proofs.EpochLines.{committed_stays, epoch_of_lines, sealed_stays}
use Rattle.site_history.proofs.Records.{bound_by, doubt_in, record_of}
use Rattle.site_history.proofs.SameLists.{install_of}
use Rattle.fed_rules.specs.declared.sums.SiteSum.{SiteSum}

-- the record is the one of the run
abbrev pub IsKeptAs : Run → SiteRecord → Type 0
IsKeptAs run (Prepared tid epoch n ticket writes) =
    (run.tid ≡ tid) × (run.sealed ≡ Some n) × (run.ticket ≡ Some ticket) × (writes ≡ puts_of run.acts)
IsKeptAs run (Local tid n writes) = (run.tid ≡ tid) × (run.sealed ≡ Some n) × (run.ticket ≡ None) × (writes ≡ puts_of run.acts)
IsKeptAs run other = ⊥

pub binds_kept : (run : Run) (kept : SiteRecord) → IsKeptAs run kept → Binds run.tid kept
binds_kept run (Prepared tid epoch n ticket writes) is = sym is.0
binds_kept run (Local tid n writes) is = sym is.0
binds_kept run (Setup site engine protocol items) is = is
binds_kept run (Checkpoint sum) is = is
binds_kept run (Start epoch) is = is
binds_kept run (Ended tid decision) is = is

-- one in doubt as it was sealed, with the accesses that it had
pub record IsHeldRun (acts : Tid → List Access) (epoch : Epoch) (earlier : List Epoch) (tid : Tid) (held : Held) : Type 0 where
  pub run : Run
  pub was : as_sealed epoch earlier tid ≡ Some run
  pub is : IsKeptAs run (record_of held)
  pub had : run.acts ≡ acts tid

-- a committed run has a record and an install
pub record IsKeptRun (acts : Tid → List Access) (records : List SiteRecord) (run : Run) : Type 0 where
  pub kept : SiteRecord
  pub among : In kept records
  pub is : IsKeptAs run kept
  pub had : run.acts ≡ acts run.tid
  pub installed : In (install_of run) (installs records)

-- an install is of a committed run
pub record IsInstalledRun (epoch : Epoch) (earlier : List Epoch) (i : Install) : Type 0 where
  pub run : Run
  pub was : WasCommitted epoch earlier run
  pub is : install_of run ≡ i

pub record IsBacked (home : Home) (acts : Tid → List Access) (records : List SiteRecord) (start : Runs.Start) (lines : List EngineLine)
    (earlier : List Epoch) : Type 0 where
  pub epochs : AreEpochs (epoch_of_lines start lines) earlier
  pub first : first_rows (epoch_of_lines start lines) earlier ≡ home.items
  pub kind : start.kind ≡ home.engine
  pub agrees : (tid : Tid) → Agrees (doubt_of records tid) (run_at start lines tid)
  pub doubts : (tid : Tid) (held : Held) → doubt_of records tid ≡ Some held → IsHeldRun acts (epoch_of_lines start lines) earlier tid held
  pub committed : (run : Run) → WasCommitted (epoch_of_lines start lines) earlier run → IsKeptRun acts records run
  pub installed : (i : Install) → In i (installs records) → IsInstalledRun (epoch_of_lines start lines) earlier i
  pub counter : start.counter ≤ last_number records
  pub published : published start lines ≤ last_ticket records

-- the accesses of other attempts don't matter
pub backed_acts : (home : Home) (acts now : Tid → List Access) (records : List SiteRecord) (start : Runs.Start) (lines : List EngineLine)
    (earlier : List Epoch) → ((tid : Tid) → IsBound tid records → now tid ≡ acts tid) → IsBacked home acts records start lines earlier
    → IsBacked home now records start lines earlier
backed_acts home acts now records start lines earlier same b = record {
  epochs = b.epochs;
  first = b.first;
  kind = b.kind;
  agrees = b.agrees;
  doubts = λ tid held e.
      let h = b.doubts tid held e in
      let bound = bound_by records (record_of held) tid (doubt_in records tid held e) (doubt_tid records tid held e) in
      record { run = h.run; was = h.was; is = h.is; had = h.had ∙ sym (same tid bound) };
  committed = λ run w.
      let h = b.committed run w in
      let bound = bound_by records h.kept run.tid h.among (binds_kept run h.kept h.is) in
      record { kept = h.kept; among = h.among; is = h.is; had = h.had ∙ sym (same run.tid bound); installed = h.installed };
  installed = b.installed;
  counter = b.counter;
  published = b.published;
}

-- the epochs with other right lines of the newest one
pub epochs_lines : (start : Runs.Start) (older newer : List EngineLine) (earlier : List Epoch) → AreEpochs (epoch_of_lines start older) earlier
    → IsRight start newer → AreEpochs (epoch_of_lines start newer) earlier
epochs_lines start older newer [] first right = record { nothing = first.nothing; right = right }
epochs_lines start older newer (before ∷ more) (after_it, was, rest) right = (after_it, right, rest)

pub first_lines : (start : Runs.Start) (older newer : List EngineLine) (earlier : List Epoch)
    → first_rows (epoch_of_lines start newer) earlier ≡ first_rows (epoch_of_lines start older) earlier
first_lines start older newer [] = refl
first_lines start older newer (before ∷ more) = refl

-- a line of another attempt leaves the run
pub run_beside_line : (start : Runs.Start) (lines : List EngineLine) (line : EngineLine) (tid : Tid) → same_tid (tid_of line) tid ≡ false
    → run_at start (line ∷ lines) tid ≡ run_at start lines tid
run_beside_line start lines line tid apart =
    ap (λ b. cond b (changed line (run_at start lines tid)) (run_at start lines tid)) apart

-- a line of an attempt that isn't in doubt is of another one than any in doubt
pub beside_doubt : (records : List SiteRecord) (mine tid : Tid) (held : Held) → doubt_of records mine ≡ None
    → doubt_of records tid ≡ Some held → same_tid mine tid ≡ false
beside_doubt records mine tid held none e = by_test (same_tid mine tid) refl
  where
    by_test : (b : Bool) → same_tid mine tid ≡ b → b ≡ false
    by_test true is = let clash = sym none ∙ ap (doubt_of records) (same_tid-equal mine tid is) ∙ e in cc
    by_test false is = refl

-- lines that commit and publish nothing, and leave the runs of those in doubt
pub backed_calm : (home : Home) (acts : Tid → List Access) (records : List SiteRecord) (start : Runs.Start) (older newer : List EngineLine)
    (earlier : List Epoch) → IsBacked home acts records start older earlier → IsRight start newer
    → ((tid : Tid) → Agrees (doubt_of records tid) (run_at start newer tid)) → committed start newer ≡ committed start older
    → published start newer ≡ published start older
    → ((tid : Tid) (held : Held) → doubt_of records tid ≡ Some held → run_at start newer tid ≡ run_at start older tid)
    → IsBacked home acts records start newer earlier
backed_calm home acts records start older newer earlier b right agrees same publishes stays = record {
  epochs = epochs_lines start older newer earlier b.epochs right;
  first = first_lines start older newer earlier ∙ b.first;
  kind = b.kind;
  agrees = agrees;
  doubts = λ tid held e.
      let h = b.doubts tid held e in
      record { run = h.run; was = sealed_stays start older newer earlier tid (stays tid held e) ∙ h.was; is = h.is; had = h.had };
  committed = λ run w. b.committed run (committed_stays start older newer earlier run same w);
  installed = λ i j.
      let h = b.installed i j in
      record { run = h.run; was = committed_stays start newer older earlier h.run (sym same) h.was; is = h.is };
  counter = b.counter;
  published = subst (λ n. n ≤ last_ticket records) (sym publishes) b.published;
}

-- the run of a sealing has a greater number than those of the start
pub sealed_above : (start : Runs.Start) (lines : List EngineLine) (tid : Tid) (n : ℕ) (run : Run) → IsRight start (Seals tid n ∷ lines)
    → IsLive start lines tid run → start.counter < n
sealed_above start lines tid n run right live =
    by_origin (origins start (Seals tid n ∷ lines) right tid (record run { sealed = Some n }) at)
    (by_old (origins start lines right.1 tid run live.0))
  where
    at : run_at start (Seals tid n ∷ lines) tid ≡ Some (record run { sealed = Some n })
    at = ap (λ b. cond b (changed (Seals tid n) (run_at start lines tid)) (run_at start lines tid)) (same_tid-refl tid)
        ∙ ap (changed (Seals tid n)) live.0

    by_old : IsFrom start run → IsNew start run
    by_old (inl (restored, (kept, is))) = let clash : Some kept.number ≡ None = ap (λ r. r.sealed) is ∙ live.1 in cc
    by_old (inr new) = new

    by_origin : IsFrom start (record run { sealed = Some n }) → IsNew start run → start.counter < n
    by_origin (inl (restored, (kept, is))) old =
        let age : kept.number ≡ run.age = ap (λ r. r.age) is in
        let sealed : Some kept.number ≡ Some n = ap (λ r. r.sealed) is in
        let same : kept.number ≡ n = cc in
        let above = old.age in omega arith
    by_origin (inr new) old = new.sealed n refl

-- the sealed run of a live one, as it was sealed
pub sealed_now : (start : Runs.Start) (lines : List EngineLine) (earlier : List Epoch) (tid : Tid) (n : ℕ) (run : Run)
    → IsRight start (Seals tid n ∷ lines) → IsLive start lines tid run
    → as_sealed (epoch_of_lines start (Seals tid n ∷ lines)) earlier tid ≡ Some (record run { sealed = Some n })
sealed_now start lines earlier tid n run right live = by_earlier earlier
  where
    now : Run
    now = record run { sealed = Some n }

    at : run_at start (Seals tid n ∷ lines) tid ≡ Some (record run { sealed = Some n })
    at = ap (λ b. cond b (changed (Seals tid n) (run_at start lines tid)) (run_at start lines tid)) (same_tid-refl tid)
        ∙ ap (changed (Seals tid n)) live.0

    by_earlier : (es : List Epoch)
        → as_sealed (epoch_of_lines start (Seals tid n ∷ lines)) es tid ≡ Some (record run { sealed = Some n })
    by_earlier [] = at
    by_earlier (before ∷ more) =
        ap (λ o. as_was start o (as_sealed before more tid)) at
        ∙ ap (λ b. cond b (Some now) (as_sealed before more tid)) (lt-ltb start.counter n (sealed_above start lines tid n run right live))

-- where a record of no attempt is appended
pub backed_start : (home : Home) (acts : Tid → List Access) (records : List SiteRecord) (start : Runs.Start) (lines : List EngineLine)
    (earlier : List Epoch) (n : ℕ) → IsBacked home acts records start lines earlier
    → IsBacked home acts (Start n ∷ records) start lines earlier
backed_start home acts records start lines earlier n b = record {
  epochs = b.epochs;
  first = b.first;
  kind = b.kind;
  agrees = b.agrees;
  doubts = b.doubts;
  committed = λ run w.
      let h = b.committed run w in
      record { kept = h.kept; among = inr h.among; is = h.is; had = h.had; installed = h.installed };
  installed = b.installed;
  counter = b.counter;
  published = b.published;
}

-- where a Checkpoint is appended
pub backed_sum : (home : Home) (acts : Tid → List Access) (records : List SiteRecord) (start : Runs.Start) (lines : List EngineLine)
    (earlier : List Epoch) (sum : SiteSum) → IsBacked home acts records start lines earlier
    → IsBacked home acts (Checkpoint sum ∷ records) start lines earlier
backed_sum home acts records start lines earlier sum b = record {
  epochs = b.epochs;
  first = b.first;
  kind = b.kind;
  agrees = b.agrees;
  doubts = b.doubts;
  committed = λ run w.
      let h = b.committed run w in
      record { kept = h.kept; among = inr h.among; is = h.is; had = h.had; installed = h.installed };
  installed = b.installed;
  counter = b.counter;
  published = b.published;
}
