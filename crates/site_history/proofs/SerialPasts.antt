-- The committed attempts of a site are in a serial order, over all its stops and restarts.
use Rattle.order_laws.proofs.ForCallers.{distinct_reverse, each_from, those-in}
use Rattle.std.proofs.Common.{◌≡◌, ℕ, ◌<◌, ◌⊎◌, Bool, true, false, cond, ◌&&◌, Option, Some, None, List, [], ◌∷◌, map, reverse, refl, sym, ap, ◌∙◌, subst, inl, inr}
use Rattle.std.specs.Prelude.{is_some}
use Rattle.std.proofs.lemmas.Bool.{and_from, and_parts}
use Rattle.mdb_base.specs.declared.names.Tid.{Tid}
use Rattle.mdb_base.specs.declared.names.Tx.{Tx}
use Rattle.mdb_base.specs.Names.{same_tid}
use Rattle.mdb_base.specs.Rows.{look_up}
use Rattle.mdb_base.specs.Words.{Among, Each, or_else, those}
use Rattle.mdb_base.proofs.ForCallers.{same_tid-equal}
use Rattle.order_laws.specs.Chains.{In, Distinct}
use Rattle.order_laws.specs.Orders.{Before}
use Rattle.fed_rules.specs.declared.records.SiteRecord.{SiteRecord}
use Rattle.fed_rules.specs.declared.records.SiteRecord.TheVariants.{Prepared}
use Rattle.fed_rules.specs.Runs as Runs
use Rattle.fed_rules.specs.Runs.{Access, EngineLine, Run, number, run_at, table_of}
use Rattle.fed_rules.specs.SerialRuns.{IsSerial, TicketsFall}
use Rattle.fed_rules.specs.Site.{site_past}
use Rattle.fed_rules.specs.SitePast.{SitePast, epoch_start, engine_lines, records}
use Rattle.fed_rules.specs.SiteRecords.{Home, Held, Install, doubt_of, due_installs, installs, prepared_tids, rows_after, start_of}
use Rattle.engine_laws.specs.Epochs.{Epoch, all_committed}
use Rattle.engine_laws.specs.Laws.{AreSealed}
use Rattle.engine_laws.proofs.ForCallers.{doubt_among, doubt_tid, history}
use Rattle.site_history.specs.Accesses.{acts_at}
use Rattle.site_history.specs.Lines.{Agrees}
use Rattle.site_history.specs.Records.{BindOnce, IsPrepared, TellOutcomes}
use Rattle.site_history.specs.SiteOrders.{HasEpochs, IsSerialOrder, IsSerialPast, OfSortedPasts, SiteSerial, table_after}
use Rattle.site_history.proofs.AsSealed.{HasImage, IsRunOf, WasCommitted, all_in, as_sealed, in_all, those_in}
use Rattle.fed_rules.specs.Durable.{IsFrontOf}
use Rattle.fed_rules.specs.EngineLines.{IsStart}
use Rattle.site_history.proofs.Backed.{AllBacked, backed_front, each_front, first_backing, once_front}
use Rattle.site_history.proofs.Backing.{IsBacked, IsKeptAs, binds_kept}
use Rattle.site_history.proofs.EpochLines.{epoch_of_lines}
use Rattle.site_history.proofs.Histories.{IsHistory}
use Rattle.site_history.proofs.HistoryPasts.{history_past}
use Rattle.site_history.proofs.OrdersRun.{HasTicketOf, order_rising, order_serial, order_table}
use Rattle.site_history.proofs.Installs.{IsDoubtful, due_distinct, due_installed, installed_due, installs_distinct, prepared_due, tids_of}
use Rattle.site_history.proofs.Records.{doubt_in, due_install, once_record, prepared_once, record_of}
use Rattle.site_history.proofs.Restarts.{backed_restart, good_newest, installs_are}
use Rattle.site_history.proofs.SameLists.{due_fall, install_of, rows_of_runs, same_list}
use Rattle.site_history.proofs.Starts.{HasRisingWrites}

-- a committed run, or one in doubt, with its record and the accesses that it had
record IsMember (acts : Tid → List Access) (rs : List SiteRecord) (run : Run) : Type 0 where
  kept : SiteRecord
  among : In kept rs
  is : IsKeptAs run kept
  had : run.acts ≡ acts run.tid

-- which Prepared record the run has tells its ticket
member_ticket : (acts : Tid → List Access) (rs : List SiteRecord) (run : Run) → BindOnce rs → IsMember acts rs run → HasTicketOf rs run
member_ticket acts rs run once m ticket p =
    let same = once_record rs m.kept (Prepared run.tid p.epoch p.number ticket p.writes) run.tid once m.among p.kept
    (binds_kept run m.kept m.is) refl in
    (subst (IsKeptAs run) same m.is).2

-- the attempts of installs are those of the runs
tids_of_runs : (runs : List Run) → tids_of (map install_of runs) ≡ map (λ run. run.tid) runs
tids_of_runs [] = refl
tids_of_runs (run ∷ runs) = ap (λ tids. run.tid ∷ tids) (tids_of_runs runs)

-- serial runs that are these installs give a serial order
serial_order : (home : Home) (past : SitePast) (runs : List Run) (xs : List Install) → BindOnce (records home past)
    → map install_of runs ≡ xs → Distinct (tids_of xs) → IsSerial (look_up home.items) runs → TicketsFall runs
    → ((run : Run) → In run runs → IsMember (acts_at home past) (records home past) run)
    → IsSerialOrder home past (reverse (tids_of xs)) (rows_after home.items xs)
serial_order home past runs xs once same distinct serial falls member =
    let order : reverse (tids_of xs) ≡ reverse (map (λ run. run.tid) runs) = ap reverse (ap tids_of (sym same) ∙ tids_of_runs runs) in
    let had = each_from (λ run. run.acts ≡ acts_at home past run.tid) runs (λ run i. (member run i).had) in
    record {
      distinct = distinct_reverse (tids_of xs) distinct;
      rising = subst (λ tids. (a b : Tid) (j k : ℕ) → Before tids a b → IsPrepared (records home past) a j
          → IsPrepared (records home past) b k → j < k) (sym order)
          (order_rising (records home past) runs falls
          (each_from (HasTicketOf (records home past)) runs
          (λ run i. member_ticket (acts_at home past) (records home past) run once (member run i))));
      alone = subst (SiteSerial (acts_at home past) (look_up home.items)) (sym order)
          (order_serial (acts_at home past) (look_up home.items) runs had serial);
      left = λ key.
          ap (λ tids. table_after (acts_at home past) (look_up home.items) tids key) order
          ∙ ap (λ table. table key) (order_table (acts_at home past) (look_up home.items) runs had)
          ∙ sym (rows_of_runs home.items runs key)
          ∙ ap (λ is. look_up (rows_after home.items is) key) same;
    }

-- those in doubt whose outcome is commit
abbrev due_tids : (Tid → Bool) → List SiteRecord → List Tid
due_tids commits rs = those (λ tid. commits tid && is_some (doubt_of rs tid)) (prepared_tids rs)

record IsDueTid (commits : Tid → Bool) (rs : List SiteRecord) (tid : Tid) : Type 0 where
  commit : commits tid ≡ true
  held : Held
  doubt : doubt_of rs tid ≡ Some held

due_tid : (commits : Tid → Bool) (rs : List SiteRecord) (tid : Tid) → (commits tid && is_some (doubt_of rs tid)) ≡ true
    → IsDueTid commits rs tid
due_tid commits rs tid e = by_held (doubt_of rs tid) refl (and_parts (commits tid) (is_some (doubt_of rs tid)) e)
  where
    by_held : (o : Option Held) → doubt_of rs tid ≡ o → (commits tid ≡ true) × (is_some o ≡ true) → IsDueTid commits rs tid
    by_held None is parts = let clash = parts.1 in cc
    by_held (Some held) is parts = record { commit = parts.0; held = held; doubt = is }

tid_due : (commits : Tid → Bool) (rs : List SiteRecord) (tid : Tid) (held : Held) → commits tid ≡ true → doubt_of rs tid ≡ Some held
    → In tid (due_tids commits rs)
tid_due commits rs tid held commit doubt =
    those_in (λ t. commits t && is_some (doubt_of rs t)) tid (prepared_tids rs)
    (and_from (commits tid) (is_some (doubt_of rs tid)) commit (ap is_some doubt)) (by_place (doubt_among rs tid))
  where
    by_place : Among (λ u. u ≡ tid) (prepared_tids rs) ⊎ (doubt_of rs tid ≡ None) → In tid (prepared_tids rs)
    by_place (inl i) = i
    by_place (inr none) = let clash = sym none ∙ doubt in cc

-- they are sealed
sealed_tids : (start : Runs.Start) (lines : List EngineLine) (rs : List SiteRecord) → ((tid : Tid) → Agrees (doubt_of rs tid) (run_at start lines tid))
    → (test : Tid → Bool) (tids : List Tid) → Distinct tids → ((tid : Tid) → test tid ≡ true → (held : Held) × (doubt_of rs tid ≡ Some held))
    → AreSealed start lines (those test tids)
sealed_tids start lines rs agrees test [] distinct doubts = tt
sealed_tids start lines rs agrees test (tid ∷ tids) distinct doubts =
    by_test (test tid) refl (sealed_tids start lines rs agrees test tids distinct.1 doubts)
  where
    others : (us : List Tid) → ((u : Tid) → In u us → In u tids) → Each (λ other. same_tid tid other ≡ false) us
    others [] sub = tt
    others (u ∷ us) sub = (by_same (same_tid tid u) refl, others us (λ v i. sub v (inr i)))
      where
        by_same : (b : Bool) → same_tid tid u ≡ b → b ≡ false
        by_same true is = absurd (distinct.0 (subst (λ v. In v tids) (sym (same_tid-equal tid u is)) (sub u (inl refl))))
        by_same false is = refl

    by_run : (held : Held) (o : Option Run) → run_at start lines tid ≡ o → Agrees (Some held) o → AreSealed start lines (those test tids)
        → AreSealed start lines (tid ∷ those test tids)
    by_run held None at a rest = elim a [ ]
    by_run held (Some run) at a rest =
        (run, held.number, (at, a.0), others (those test tids) (λ u i. (those-in test u tids i).1), rest)

    by_test : (b : Bool) → test tid ≡ b → AreSealed start lines (those test tids)
        → AreSealed start lines (cond b (tid ∷ those test tids) (those test tids))
    by_test true is rest =
        let (held, doubt) = doubts tid is in
        by_run held (run_at start lines tid) refl (subst (λ o. Agrees o (run_at start lines tid)) doubt (agrees tid)) rest
    by_test false is rest = rest

-- the install of one in doubt is that of its run
held_install : (run : Run) (held : Held) → IsKeptAs run (record_of held) → install_of run ≡ due_install held
held_install run held is =
    ap (λ t. record { tid = t; number = number run; writes = Runs.puts_of run.acts }) is.0
    ∙ ap (λ n. record { tid = held.tid; number = n; writes = Runs.puts_of run.acts }) (ap (λ o. or_else o 0) is.1)
    ∙ ap (λ ws. record { tid = held.tid; number = held.number; writes = ws }) (sym is.3)

-- a run of the history of these commits, and the install that it makes
record IsDueRun (acts : Tid → List Access) (commits : Tid → Bool) (rs : List SiteRecord) (run : Run) : Type 0 where
  member : IsMember acts rs run
  due : In (install_of run) (due_installs commits rs)

due_run : (home : Home) (acts : Tid → List Access) (rs : List SiteRecord) (start : Runs.Start) (lines : List EngineLine) (earlier : List Epoch)
    (commits : Tid → Bool) (run : Run) → IsBacked home acts rs start lines earlier → TellOutcomes commits rs
    → WasCommitted (epoch_of_lines start lines) earlier run ⊎ IsRunOf (as_sealed (epoch_of_lines start lines) earlier) (due_tids commits rs) run
    → IsDueRun acts commits rs run
due_run home acts rs start lines earlier commits run b told (inl w) =
    let h = b.committed run w in
    record {
      member = record { kept = h.kept; among = h.among; is = h.is; had = h.had };
      due = installed_due commits rs (install_of run) told h.installed;
    }
due_run home acts rs start lines earlier commits run b told (inr r) =
    let parts = those-in (λ t. commits t && is_some (doubt_of rs t)) r.tid (prepared_tids rs) r.among in
    let d = due_tid commits rs r.tid parts.0 in
    let h = b.doubts r.tid d.held d.doubt in
    let both : Some h.run ≡ Some run = sym h.was ∙ r.is in
    let same : h.run ≡ run = cc in
    let of_tid : d.held.tid ≡ r.tid = doubt_tid rs r.tid d.held d.doubt in
    let kept : In (record_of d.held) rs = doubt_in rs r.tid d.held d.doubt in
    subst (IsDueRun acts commits rs) same
    (record {
      member = record { kept = record_of d.held; among = kept; is = h.is; had = h.had ∙ ap acts (sym (h.is.0 ∙ of_tid)) };
      due = subst (λ i. In i (due_installs commits rs)) (sym (held_install h.run d.held h.is))
          (prepared_due commits rs d.held kept (ap commits of_tid ∙ d.commit));
    })

due_image : (home : Home) (acts : Tid → List Access) (rs : List SiteRecord) (start : Runs.Start) (lines : List EngineLine) (earlier : List Epoch)
    (commits : Tid → Bool) (i : Install) → IsBacked home acts rs start lines earlier
    → In i (installs rs) ⊎ IsDoubtful commits rs i
    → HasImage install_of (all_committed (due_tids commits rs) (epoch_of_lines start lines) earlier) i
due_image home acts rs start lines earlier commits i b (inl j) =
    let h = b.installed i j in
    record {
      item = h.run;
      among = all_in (due_tids commits rs) (epoch_of_lines start lines) earlier h.run b.epochs (inl h.was);
      image = h.is;
    }
due_image home acts rs start lines earlier commits i b (inr d) =
    let h = b.doubts i.tid d.held d.doubt in
    record {
      item = h.run;
      among = all_in (due_tids commits rs) (epoch_of_lines start lines) earlier h.run b.epochs
          (inr (record { tid = i.tid; among = tid_due commits rs i.tid d.held d.commit d.doubt; is = h.was }));
      image = held_install h.run d.held h.is ∙ d.is;
    }

-- what they are due, as the runs of the history of these commits
due_sealed : (home : Home) (local : Tx → Bool) (past : SitePast) (commits : Tid → Bool) → IsHistory home local past
    → AreSealed (epoch_start home past) (engine_lines past) (due_tids commits (records home past))
due_sealed home local past commits h =
    sealed_tids (epoch_start home past) (engine_lines past) (records home past) h.now.agrees (λ t. commits t && is_some (doubt_of (records home past) t))
    (prepared_tids (records home past)) (prepared_once (records home past) h.once)
    (λ t e. let d = due_tid commits (records home past) t e in (d.held, d.doubt))

due_runs : (home : Home) (local : Tx → Bool) (past : SitePast) (commits : Tid → Bool) → (h : IsHistory home local past)
    → TellOutcomes commits (records home past)
    → map install_of (all_committed (due_tids commits (records home past)) (epoch_of_lines (epoch_start home past) (engine_lines past)) h.earlier)
    ≡ due_installs commits (records home past)
due_runs home local past commits h told =
    let rs = records home past in
    let tids = due_tids commits rs in
    let epoch = epoch_of_lines (epoch_start home past) (engine_lines past) in
    same_list (all_committed tids epoch h.earlier) (due_installs commits rs)
    (history epoch h.earlier h.now.epochs tids (due_sealed home local past commits h)).numbers (due_fall commits rs) (due_distinct commits rs h.once)
    (λ run i. (due_run home (acts_at home past) rs (epoch_start home past) (engine_lines past) h.earlier commits run h.now told
    (in_all tids epoch h.earlier run h.now.epochs i)).due)
    (λ i j. due_image home (acts_at home past) rs (epoch_start home past) (engine_lines past) h.earlier commits i h.now (due_installed commits rs i h.once told j))

-- with the prepared ones whose outcome is commit
due_order : (home : Home) (local : Tx → Bool) (past : SitePast) (commits : Tid → Bool) → IsHistory home local past
    → TellOutcomes commits (records home past)
    → IsSerialOrder home past (reverse (tids_of (due_installs commits (records home past))))
    (rows_after home.items (due_installs commits (records home past)))
due_order home local past commits h told =
    let rs = records home past in
    let tids = due_tids commits rs in
    let epoch = epoch_of_lines (epoch_start home past) (engine_lines past) in
    let runs = all_committed tids epoch h.earlier in
    let serial = history epoch h.earlier h.now.epochs tids (due_sealed home local past commits h) in
    serial_order home past runs (due_installs commits rs) h.once (due_runs home local past commits h told) (due_distinct commits rs h.once)
    (subst (λ items. IsSerial (look_up items) runs) h.now.first serial.alone) serial.tickets
    (λ run i. (due_run home (acts_at home past) rs (epoch_start home past) (engine_lines past) h.earlier commits run h.now told
    (in_all tids epoch h.earlier run h.now.epochs i)).member)

-- the committed ones alone
settled_serial : (home : Home) (local : Tx → Bool) (past : SitePast) → IsHistory home local past
    → IsSerialOrder home past (reverse (tids_of (installs (records home past)))) (rows_after home.items (installs (records home past)))
settled_serial home local past h =
    let rs = records home past in
    let epoch = epoch_of_lines (epoch_start home past) (engine_lines past) in
    let runs = all_committed [] epoch h.earlier in
    let serial = history epoch h.earlier h.now.epochs [] tt in
    serial_order home past runs (installs rs) h.once
    (installs_are home (acts_at home past) rs (epoch_start home past) (engine_lines past) h.earlier h.now h.once)
    (installs_distinct rs h.once)
    (subst (λ items. IsSerial (look_up items) runs) h.now.first serial.alone) serial.tickets
    (λ run i. of_origin run (in_all [] epoch h.earlier run h.now.epochs i))
  where
    of_origin : (run : Run) → WasCommitted (epoch_of_lines (epoch_start home past) (engine_lines past)) h.earlier run
        ⊎ IsRunOf (as_sealed (epoch_of_lines (epoch_start home past) (engine_lines past)) h.earlier) [] run
        → IsMember (acts_at home past) (records home past) run
    of_origin run (inl w) = let k = h.now.committed run w in record { kept = k.kept; among = k.among; is = k.is; had = k.had }
    of_origin run (inr r) = elim r.among [ ]

-- where no attempt whose outcome is commit is in doubt, no run is sealed for one
none_due : (commits : Tid → Bool) (rs : List SiteRecord) → ((tid : Tid) → commits tid ≡ true → doubt_of rs tid ≡ None) → (tids : List Tid)
    → those (λ tid. commits tid && is_some (doubt_of rs tid)) tids ≡ []
none_due commits rs none [] = refl
none_due commits rs none (tid ∷ tids) = by_test (commits tid) refl (none_due commits rs none tids) where
  by_test : (b : Bool) → commits tid ≡ b → those (λ t. commits t && is_some (doubt_of rs t)) tids ≡ []
      → cond (b && is_some (doubt_of rs tid)) (tid ∷ those (λ t. commits t && is_some (doubt_of rs t)) tids) (those (λ t. commits t && is_some (doubt_of rs t)) tids) ≡ []
  by_test false e rest = rest
  by_test true e rest =
      ap (λ o. cond (is_some o) (tid ∷ those (λ t. commits t && is_some (doubt_of rs t)) tids) (those (λ t. commits t && is_some (doubt_of rs t)) tids))
      (none tid e) ∙ rest

-- so those are due that are committed
settled_due : (home : Home) (local : Tx → Bool) (past : SitePast) (commits : Tid → Bool) → IsHistory home local past
    → TellOutcomes commits (records home past) → ((tid : Tid) → commits tid ≡ true → doubt_of (records home past) tid ≡ None)
    → due_installs commits (records home past) ≡ installs (records home past)
settled_due home local past commits h told none =
    let rs = records home past in
    let epoch = epoch_of_lines (epoch_start home past) (engine_lines past) in
    sym (due_runs home local past commits h told)
    ∙ ap (λ tids. map install_of (all_committed tids epoch h.earlier)) (none_due commits rs none (prepared_tids rs))
    ∙ installs_are home (acts_at home past) rs (epoch_start home past) (engine_lines past) h.earlier h.now h.once

pub pasts_serial : OfSortedPasts IsSerialPast
pasts_serial home local events sorted once =
    let h = history_past home local events sorted once in
    record {
      once = h.once;
      settled = settled_serial home local (site_past home events) h;
      due = λ commits told. due_order home local (site_past home events) commits h told;
      all_settled = λ commits told none. settled_due home local (site_past home events) commits h told none;
    }

-- whatever a stop may leave of the records makes a good start
kept_start : (home : Home) (local : Tx → Bool) (past : SitePast) → IsHistory home local past → (kept : List SiteRecord)
    → IsFrontOf (records home past) kept → IsStart (start_of home kept)
kept_start home local past h kept (newer, e) =
    let acts = acts_at home past in
    let first = first_backing home acts kept (backed_front home acts newer kept (subst (AllBacked home acts) e h.backed)) in
    let once = once_front newer kept (subst BindOnce e h.once) in
    let rising = each_front HasRisingWrites newer kept (subst (Each HasRisingWrites) e h.kept.rising) in
    let next = backed_restart home acts kept first.start first.lines first.earlier first.backed once rising in
    good_newest (epoch_of_lines (start_of home kept) []) (epoch_of_lines first.start first.lines ∷ first.earlier) next.epochs

pub pasts_epochs : OfSortedPasts HasEpochs
pasts_epochs home local events sorted once =
    let past = site_past home events in
    let h = history_past home local events sorted once in
    record {
      earlier = h.earlier;
      epochs = h.now.epochs;
      first = h.now.first;
      start = good_newest (epoch_of_lines (epoch_start home past) (engine_lines past)) h.earlier h.now.epochs;
      restart = kept_start home local past h;
    }
