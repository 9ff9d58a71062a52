-- Records that a line appends are backed by the epochs with its engine lines.
use Rattle.std.proofs.Common.{◌≡◌, ℕ, ◌≤◌, ◌⊎◌, max, Bool, true, false, cond, Some, None, List, ◌∷◌, refl, sym, ap, ap₂, ◌∙◌, subst, inl, inr, arith}
use Rattle.mdb_base.specs.declared.names.Tid.{Tid}
use Rattle.mdb_base.specs.Names.{same_tid}
use Rattle.mdb_base.specs.Words.{or_else}
use Rattle.mdb_base.proofs.ForCallers.{same_tid-equal}
use Rattle.order_laws.specs.Chains.{In}
use Rattle.presumptions.specs.declared.Decision.TheVariants as Decided
use Rattle.order_laws.proofs.ForCallers.{in_inserted}
use Rattle.fed_rules.specs.declared.records.SiteRecord.{SiteRecord}
use Rattle.fed_rules.specs.declared.records.SiteRecord.TheVariants.{Prepared, Ended, Local}
use Rattle.fed_rules.specs.EngineLines.{IsRight, IsLive}
use Rattle.fed_rules.specs.Runs as Runs
use Rattle.fed_rules.specs.Runs.{EngineLine, Seals, Commits, Aborts, Access, Run, committed, number, published, puts_of, run_at, ticket_of, tid_of}
use Rattle.fed_rules.specs.SiteRecords.{Home, Held, Install, doubt_of, install_held, installs, last_ticket}
use Rattle.engine_laws.specs.Epochs.{Epoch}
use Rattle.engine_laws.proofs.ForCallers.{doubt_tid, tid_is}
use Rattle.site_history.specs.Lines.{Agrees}
use Rattle.site_history.proofs.AsSealed.{as_sealed, inserted_in, WasCommitted}
use Rattle.site_history.proofs.Backing.{IsBacked, IsHeldRun, IsInstalledRun, IsKeptRun, beside_doubt, epochs_lines, first_lines, run_beside_line, sealed_now}
use Rattle.site_history.proofs.EpochLines.{commit_adds, commit_commits, commit_keeps, committed_stays, epoch_of_lines, sealed_stays}
use Rattle.site_history.proofs.Installs.{held_in, install_before}
use Rattle.site_history.proofs.Records.{doubt_in, due_install, record_of}
use Rattle.site_history.proofs.SameLists.{install_of}

-- a Prepared record, with the sealing of its run
pub backed_prepared : (home : Home) (acts : Tid → List Access) (records : List SiteRecord) (start : Runs.Start) (lines : List EngineLine)
    (earlier : List Epoch) (tid : Tid) (epoch n ticket : ℕ) (run : Run) → IsBacked home acts records start lines earlier
    → IsRight start (Seals tid n ∷ lines)
    → ((t : Tid) → Agrees (doubt_of (Prepared tid epoch n ticket (puts_of run.acts) ∷ records) t) (run_at start (Seals tid n ∷ lines) t))
    → IsLive start lines tid run → run.ticket ≡ Some ticket → run.acts ≡ acts tid
    → IsBacked home acts (Prepared tid epoch n ticket (puts_of run.acts) ∷ records) start (Seals tid n ∷ lines) earlier
backed_prepared home acts records start lines earlier tid epoch n ticket run b right agrees live took had = record {
  epochs = epochs_lines start lines (Seals tid n ∷ lines) earlier b.epochs right;
  first = first_lines start lines (Seals tid n ∷ lines) earlier ∙ b.first;
  kind = b.kind;
  agrees = agrees;
  doubts = λ t held e. by_test t held (same_tid tid t) refl e;
  committed = λ r w.
      let h = b.committed r (committed_stays start lines (Seals tid n ∷ lines) earlier r refl w) in
      record { kept = h.kept; among = inr h.among; is = h.is; had = h.had; installed = h.installed };
  installed = λ i j.
      let h = b.installed i j in
      record { run = h.run; was = committed_stays start (Seals tid n ∷ lines) lines earlier h.run refl h.was; is = h.is };
  counter = (let x = b.counter in omega arith);
  published = subst (λ o. max (ticket_of o) (published start lines) ≤ max ticket (last_ticket records)) (sym live.0)
      (subst (λ o. max (or_else o 0) (published start lines) ≤ max ticket (last_ticket records)) (sym took)
      (let x = b.published in omega arith));
}
  where
    mine : Held
    mine = record { tid = tid; epoch = epoch; number = n; ticket = ticket; writes = puts_of run.acts }

    now : Run
    now = record run { sealed = Some n }

    of_tid : run.tid ≡ tid
    of_tid = tid_is start lines right.1 tid run live.0

    by_test : (t : Tid) (held : Held) (c : Bool) → same_tid tid t ≡ c
        → cond c (Some (record { tid = tid; epoch = epoch; number = n; ticket = ticket; writes = puts_of run.acts })) (doubt_of records t) ≡ Some held
        → IsHeldRun acts (epoch_of_lines start (Seals tid n ∷ lines)) earlier t held
    by_test t held true is e =
        let same : mine ≡ held = cc in
        let one : tid ≡ t = same_tid-equal tid t is in
        subst (λ u. IsHeldRun acts (epoch_of_lines start (Seals tid n ∷ lines)) earlier u held) one
        (subst (λ h. IsHeldRun acts (epoch_of_lines start (Seals tid n ∷ lines)) earlier tid h) same
        (record { run = now; was = sealed_now start lines earlier tid n run right live; is = (of_tid, refl, took, refl); had = had }))
    by_test t held false is e =
        let h = b.doubts t held e in
        record {
          run = h.run;
          was = sealed_stays start lines (Seals tid n ∷ lines) earlier t (run_beside_line start lines (Seals tid n) t is) ∙ h.was;
          is = h.is;
          had = h.had;
        }

-- a Local record, with the sealing and the commit of its run
pub backed_local : (home : Home) (acts : Tid → List Access) (records : List SiteRecord) (start : Runs.Start) (lines : List EngineLine)
    (earlier : List Epoch) (tid : Tid) (n : ℕ) (run : Run) → IsBacked home acts records start lines earlier
    → IsRight start (Commits tid ∷ Seals tid n ∷ lines)
    → ((t : Tid) → Agrees (doubt_of records t) (run_at start (Commits tid ∷ Seals tid n ∷ lines) t))
    → IsLive start lines tid run → doubt_of records tid ≡ None → run.ticket ≡ None → run.acts ≡ acts tid
    → IsBacked home acts (Local tid n (puts_of run.acts) ∷ records) start (Commits tid ∷ Seals tid n ∷ lines) earlier
backed_local home acts records start lines earlier tid n run b right agrees live free ticketless had = record {
  epochs = epochs_lines start lines (Commits tid ∷ Seals tid n ∷ lines) earlier b.epochs right;
  first = first_lines start lines (Commits tid ∷ Seals tid n ∷ lines) earlier ∙ b.first;
  kind = b.kind;
  agrees = agrees;
  doubts = λ t held e.
      let h = b.doubts t held e in
      let apart = beside_doubt records tid t held free e in
      record {
        run = h.run;
        was = sealed_stays start lines (Commits tid ∷ Seals tid n ∷ lines) earlier t
            (run_beside_line start (Seals tid n ∷ lines) (Commits tid) t apart ∙ run_beside_line start lines (Seals tid n) t apart)
            ∙ h.was;
        is = h.is;
        had = h.had;
      };
  committed = λ r w. by_commit r (commit_adds start (Seals tid n ∷ lines) earlier tid r right.1 w);
  installed = λ i j. by_install i (in_inserted install_before mine i (installs records) j);
  counter = (let x = b.counter in omega arith);
  published = subst (λ o. max (ticket_of o) (published start lines) ≤ last_ticket records) (sym live.0)
      (subst (λ o. max (or_else o 0) (published start lines) ≤ last_ticket records) (sym ticketless)
      (let x = b.published in omega arith));
}
  where
    mine : Install
    mine = record { tid = tid; number = n; writes = puts_of run.acts }

    now : Run
    now = record run { sealed = Some n }

    of_tid : run.tid ≡ tid
    of_tid = tid_is start lines right.1.1 tid run live.0

    was : as_sealed (epoch_of_lines start (Seals tid n ∷ lines)) earlier tid ≡ Some now
    was = sealed_now start lines earlier tid n run right.1 live

    install_now : install_of now ≡ mine
    install_now = ap (λ t. record { tid = t; number = n; writes = puts_of run.acts }) of_tid

    by_commit : (r : Run) → WasCommitted (epoch_of_lines start (Seals tid n ∷ lines)) earlier r
        ⊎ (as_sealed (epoch_of_lines start (Seals tid n ∷ lines)) earlier tid ≡ Some r)
        → IsKeptRun acts (Local tid n (puts_of run.acts) ∷ records) r
    by_commit r (inl w) =
        let h = b.committed r (committed_stays start lines (Seals tid n ∷ lines) earlier r refl w) in
        record {
          kept = h.kept;
          among = inr h.among;
          is = h.is;
          had = h.had;
          installed = inserted_in install_before mine (install_of r) (installs records) (inr h.installed);
        }
    by_commit r (inr e) =
        let both : Some now ≡ Some r = sym was ∙ e in
        let same : now ≡ r = cc in
        subst (IsKeptRun acts (Local tid n (puts_of run.acts) ∷ records)) same
        (record {
          kept = Local tid n (puts_of run.acts);
          among = inl refl;
          is = (of_tid, refl, ticketless, refl);
          had = had ∙ ap acts (sym of_tid);
          installed = inserted_in install_before mine (install_of now) (installs records) (inl (sym install_now));
        })

    by_install : (i : Install) → (mine ≡ i) ⊎ In i (installs records)
        → IsInstalledRun (epoch_of_lines start (Commits tid ∷ Seals tid n ∷ lines)) earlier i
    by_install i (inl e) = record {
      run = now;
      was = commit_commits start (Seals tid n ∷ lines) earlier tid now right.1 was;
      is = install_now ∙ e;
    }
    by_install i (inr j) =
        let h = b.installed i j in
        record {
          run = h.run;
          was = commit_keeps start (Seals tid n ∷ lines) earlier tid h.run
              (committed_stays start (Seals tid n ∷ lines) lines earlier h.run refl h.was);
          is = h.is;
        }

-- who is in doubt behind an Ended record was so before, and is another one
record IsDoubtBefore (records : List SiteRecord) (tid t : Tid) (held : Held) : Type 0 where
  apart : same_tid tid t ≡ false
  before : doubt_of records t ≡ Some held

doubt_before : (records : List SiteRecord) (tid t : Tid) (held : Held) → cond (same_tid tid t) None (doubt_of records t) ≡ Some held
    → IsDoubtBefore records tid t held
doubt_before records tid t held e = by_test (same_tid tid t) refl e
  where
    by_test : (c : Bool) → same_tid tid t ≡ c → cond c None (doubt_of records t) ≡ Some held → IsDoubtBefore records tid t held
    by_test true is e = cc
    by_test false is e = record { apart = is; before = e }

-- an Ended record with a commit
pub backed_commit : (home : Home) (acts : Tid → List Access) (records : List SiteRecord) (start : Runs.Start) (lines : List EngineLine)
    (earlier : List Epoch) (tid : Tid) (held : Held) → IsBacked home acts records start lines earlier
    → IsRight start (Commits tid ∷ lines)
    → ((t : Tid) → Agrees (doubt_of (Ended tid Decided.Commit ∷ records) t) (run_at start (Commits tid ∷ lines) t))
    → doubt_of records tid ≡ Some held
    → IsBacked home acts (Ended tid Decided.Commit ∷ records) start (Commits tid ∷ lines) earlier
backed_commit home acts records start lines earlier tid held b right agrees doubt = record {
  epochs = epochs_lines start lines (Commits tid ∷ lines) earlier b.epochs right;
  first = first_lines start lines (Commits tid ∷ lines) earlier ∙ b.first;
  kind = b.kind;
  agrees = agrees;
  doubts = λ t other e.
      let d = doubt_before records tid t other e in
      let h = b.doubts t other d.before in
      record {
        run = h.run;
        was = sealed_stays start lines (Commits tid ∷ lines) earlier t (run_beside_line start lines (Commits tid) t d.apart) ∙ h.was;
        is = h.is;
        had = h.had;
      };
  committed = λ r w. by_commit r (commit_adds start lines earlier tid r right.1 w);
  installed = λ i j. by_install i (in_inserted install_before (due_install held) i (installs records)
      (subst (λ o. In i (install_held o (installs records))) doubt j));
  counter = b.counter;
  published = b.published;
}
  where
    mine : IsHeldRun acts (epoch_of_lines start lines) earlier tid held
    mine = b.doubts tid held doubt

    of_tid : held.tid ≡ tid
    of_tid = doubt_tid records tid held doubt

    numbered : number mine.run ≡ held.number
    numbered = ap (λ o. or_else o 0) mine.is.1

    install_mine : due_install held ≡ install_of mine.run
    install_mine =
        ap (λ t. record { tid = t; number = held.number; writes = held.writes }) (sym mine.is.0)
        ∙ ap₂ (λ n ws. record { tid = mine.run.tid; number = n; writes = ws }) (sym numbered) mine.is.3

    by_commit : (r : Run) → WasCommitted (epoch_of_lines start lines) earlier r ⊎ (as_sealed (epoch_of_lines start lines) earlier tid ≡ Some r)
        → IsKeptRun acts (Ended tid Decided.Commit ∷ records) r
    by_commit r (inl w) =
        let h = b.committed r w in
        record {
          kept = h.kept;
          among = inr h.among;
          is = h.is;
          had = h.had;
          installed = held_in (doubt_of records tid) (install_of r) (installs records) (inr h.installed);
        }
    by_commit r (inr e) =
        let both : Some mine.run ≡ Some r = sym mine.was ∙ e in
        let same : mine.run ≡ r = cc in
        subst (IsKeptRun acts (Ended tid Decided.Commit ∷ records)) same
        (record {
          kept = record_of held;
          among = inr (doubt_in records tid held doubt);
          is = mine.is;
          had = mine.had ∙ ap acts (sym (mine.is.0 ∙ of_tid));
          installed = held_in (doubt_of records tid) (install_of mine.run) (installs records) (inl (held, (doubt, install_mine)));
        })

    by_install : (i : Install) → (due_install held ≡ i) ⊎ In i (installs records)
        → IsInstalledRun (epoch_of_lines start (Commits tid ∷ lines)) earlier i
    by_install i (inl e) = record {
      run = mine.run;
      was = commit_commits start lines earlier tid mine.run right.1 mine.was;
      is = sym install_mine ∙ e;
    }
    by_install i (inr j) =
        let h = b.installed i j in
        record { run = h.run; was = commit_keeps start lines earlier tid h.run h.was; is = h.is }

-- an Ended record with an abort
pub backed_abort : (home : Home) (acts : Tid → List Access) (records : List SiteRecord) (start : Runs.Start) (lines : List EngineLine)
    (earlier : List Epoch) (tid : Tid) → IsBacked home acts records start lines earlier
    → IsRight start (Aborts tid ∷ lines)
    → ((t : Tid) → Agrees (doubt_of (Ended tid Decided.Abort ∷ records) t) (run_at start (Aborts tid ∷ lines) t))
    → IsBacked home acts (Ended tid Decided.Abort ∷ records) start (Aborts tid ∷ lines) earlier
backed_abort home acts records start lines earlier tid b right agrees = record {
  epochs = epochs_lines start lines (Aborts tid ∷ lines) earlier b.epochs right;
  first = first_lines start lines (Aborts tid ∷ lines) earlier ∙ b.first;
  kind = b.kind;
  agrees = agrees;
  doubts = λ t other e.
      let d = doubt_before records tid t other e in
      let h = b.doubts t other d.before in
      record {
        run = h.run;
        was = sealed_stays start lines (Aborts tid ∷ lines) earlier t (run_beside_line start lines (Aborts tid) t d.apart) ∙ h.was;
        is = h.is;
        had = h.had;
      };
  committed = λ r w.
      let h = b.committed r (committed_stays start lines (Aborts tid ∷ lines) earlier r refl w) in
      record { kept = h.kept; among = inr h.among; is = h.is; had = h.had; installed = h.installed };
  installed = λ i j.
      let h = b.installed i j in
      record { run = h.run; was = committed_stays start (Aborts tid ∷ lines) lines earlier h.run refl h.was; is = h.is };
  counter = b.counter;
  published = b.published;
}
