-- The rows of a site's engine are those of its records, over all its stops, restarts and Checkpoints.
use Rattle.std.proofs.Common.{◌≡◌, Bool, true, false, cond, ◌||◌, Option, Some, None, List, [], ◌∷◌, ◌++◌, length, map, take, inl, inr, refl, sym, ◌∙◌, ap, subst}
use Rattle.std.specs.Prelude.{nat_le}
use Rattle.mdb_base.specs.declared.names.Tx.{Tx}
use Rattle.mdb_base.specs.declared.rows.Put.{Put}
use Rattle.mdb_base.specs.Rows.{with_rows}
use Rattle.mdb_base.specs.Words.{Each, when}
use Rattle.order_laws.specs.Chains.{In}
use Rattle.order_laws.proofs.ForCallers.{each_at, each_from, in_inserted}
use Rattle.presumptions.specs.declared.Decision.TheVariants as Decided
use Rattle.fed_rules.specs.declared.answers.Answer.TheVariants as Say
use Rattle.fed_rules.specs.declared.events.SiteEvent.{SiteEvent}
use Rattle.fed_rules.specs.declared.events.SiteEvent.TheVariants as Ev
use Rattle.fed_rules.specs.declared.records.SiteRecord.{SiteRecord}
use Rattle.fed_rules.specs.declared.records.SiteRecord.TheVariants as Rec
use Rattle.fed_rules.specs.Disk.{Call, Stops}
use Rattle.fed_rules.specs.Found.{Journal}
use Rattle.fed_rules.specs.Reopened.{all_named, opened_site, site_opening}
use Rattle.fed_rules.specs.Happenings.{Trip, comes_up, is_down, stopped, stops, tripped}
use Rattle.fed_rules.specs.Runs as Runs
use Rattle.fed_rules.specs.Runs.{Commits, EngineLine, Run, Seals, Start, committed, puts_of, rows, rows_of, run_at}
use Rattle.fed_rules.specs.Site.{answered, number_of, of_back, site_line, site_past_on, unless_tripped}
use Rattle.fed_rules.specs.SitePast.{SiteHappening, SitePast, disk, engine_lines, epoch_start, records, run_of, trip}
use Rattle.fed_rules.specs.SiteRecords.{Held, Home, Install, by_number, doubt_of, install_held, installs, rows_after, site_frame, site_rows, start_of}
use Rattle.fed_rules.proofs.ForCallers.{run_at_own}
use Rattle.fed_rules.specs.Sessions.{fresh}
use Rattle.engine_laws.proofs.ForCallers.{doubt_tid, number_is, tid_is}
use Rattle.site_history.specs.Events.{AreSorted, IsFresh, IsSorted}
use Rattle.site_history.specs.Lines.{Agrees}
use Rattle.site_history.specs.SiteOrders.{OfSortedEvents}
use Rattle.site_history.proofs.Agreement.{IsGoodLine, IsKept, still}
use Rattle.site_history.proofs.AsSealed.{inserted_in}
use Rattle.site_history.proofs.Backed.{appended}
use Rattle.site_history.proofs.Histories.{no_local_doubt}
use Rattle.site_history.proofs.HistoryMoves.{calm_committed, synced_append}
use Rattle.site_history.proofs.HistoryPasts.{move_records}
use Rattle.site_history.proofs.Installs.{install_before}
use Rattle.site_history.proofs.Moves.{IsMove, Moves, begins_local, begins_work, checks_sum, commits_local, goes_on, move_answered, prepares_run, rests, settles_held}
use Rattle.site_history.proofs.Records.{due_install}
use Rattle.site_history.proofs.RightLines.{good_answered, is_back}
use Rattle.site_history.proofs.WellKept.{IsWellKept, well_first, well_on}
use Rattle.site_history.specs.Sums.{ComeInOrder, HeldComes, StaysBelow}
use Rattle.site_history.proofs.InOrderPasts.{OrdersPast, orders_on, orders_past}
use Rattle.site_history.proofs.OpenedSites.{reopened}
use Rattle.site_history.specs.FoundSites.{OfFoundSites}
use Rattle.site_history.proofs.RowsOnTop.{rows_on_top}
use Rattle.site_history.proofs.RunInstalls.{install_of, installed_inserted}
use Rattle.site_history.specs.Tables.{HasItsTable}

-- the rows of the runs that committed are those of the records, and each of these runs is installed there
pub record IsTabled (home : Home) (rs : List SiteRecord) (start : Start) (lines : List EngineLine) : Type 0 where
  pub same : rows start lines ≡ site_rows home rs
  pub among : (i : Install) → In i (map install_of (committed start lines)) → In i (installs rs)

installed_rows : (items : List Put) (runs : List Run) → rows_of items runs ≡ rows_after items (map install_of runs)
installed_rows items [] = refl
installed_rows items (run ∷ runs) = ap (with_rows (puts_of run.acts)) (installed_rows items runs)

-- nothing is installed, and no run commits
tabled_same : (home : Home) (rs new : List SiteRecord) (start : Start) (lines next : List EngineLine) → installs new ≡ installs rs
    → committed start next ≡ committed start lines → IsTabled home rs start lines → IsTabled home new start next
tabled_same home rs new start lines next kept none t =
    record {
      same = ap (rows_of start.rows) none ∙ (t.same ∙ sym (ap (rows_after home.items) kept));
      among = λ i k. subst (In i) (sym kept) (t.among i (subst (λ (runs : List Run). In i (map install_of runs)) none k));
    }

-- a run commits, and is installed in the order of the numbers
tabled_more : (home : Home) (rs new : List SiteRecord) (start : Start) (lines next : List EngineLine) (run : Run) (one : Install) → install_of run ≡ one
    → installs new ≡ by_number one (installs rs) → committed start next ≡ Runs.by_number (Some run) (committed start lines) → Each (StaysBelow one) (installs rs)
    → IsTabled home rs start lines → IsTabled home new start next
tabled_more home rs new start lines next run one is more runs below t =
    let before = committed start lines in
    let some = each_from (StaysBelow one) (map install_of before) (λ i k. each_at (StaysBelow one) i (installs rs) below (t.among i k)) in
    let all : map install_of (committed start next) ≡ by_number one (map install_of before) =
    ap (map install_of) runs ∙ (installed_inserted run before ∙ ap (λ (i : Install). by_number i (map install_of before)) is) in
    record {
      same = installed_rows start.rows (committed start next)
          ∙ (ap (rows_after start.rows) all
          ∙ (rows_on_top one (map install_of before) start.rows some
          ∙ (ap (with_rows one.writes) (sym (installed_rows start.rows before) ∙ t.same)
          ∙ (sym (rows_on_top one (installs rs) home.items below) ∙ sym (ap (rows_after home.items) more)))));
      among = λ i k. subst (In i) (sym more) (inserted_in install_before one i (installs rs)
          (elim (in_inserted install_before one i (map install_of before) (subst (In i) all k)) [ inl e ↦ inl e | inr m ↦ inr (t.among i m) ]));
    }

-- a local run commits
tabled_local : (home : Home) (past : SitePast) (tid : _) (run : Run) → IsKept home past → run_at (epoch_start home past) (engine_lines past) tid ≡ Some run
    → ComeInOrder (Rec.Local tid (number_of home past run) (puts_of run.acts) ∷ records home past) → IsTabled home (records home past) (epoch_start home past) (engine_lines past)
    → IsTabled home (Rec.Local tid (number_of home past run) (puts_of run.acts) ∷ records home past) (epoch_start home past) (Commits tid ∷ Seals tid (number_of home past run) ∷ engine_lines past)
tabled_local home past tid run k own order t =
    let start = epoch_start home past in
    let lines = engine_lines past in
    let n = number_of home past run in
    let sealed : Run = record run { sealed = Some n } in
    let one : Install = record { tid = tid; number = n; writes = puts_of run.acts } in
    let same : install_of sealed ≡ one = ap (λ u. let i : Install = record { tid = u; number = n; writes = puts_of run.acts } in i) (tid_is start lines k.right tid run own) in
    tabled_more home (records home past) (Rec.Local tid n (puts_of run.acts) ∷ records home past) start lines (Commits tid ∷ Seals tid n ∷ lines) sealed one same refl
    (ap (λ o. Runs.by_number o (committed start lines)) (run_at_own start lines (Seals tid n) (Some run) own)) order.0 t

-- what is in doubt commits
tabled_held : (home : Home) (past : SitePast) (tid : _) (held : Held) → IsKept home past → doubt_of (records home past) tid ≡ Some held
    → ComeInOrder (Rec.Ended tid Decided.Commit ∷ records home past) → IsTabled home (records home past) (epoch_start home past) (engine_lines past)
    → IsTabled home (Rec.Ended tid Decided.Commit ∷ records home past) (epoch_start home past) (Commits tid ∷ engine_lines past)
tabled_held home past tid held k doubt order t = by_run (run_of home past tid) refl (subst (λ o. Agrees o (run_of home past tid)) doubt (k.agrees tid))
  where
    start : Start
    start = epoch_start home past

    lines : List EngineLine
    lines = engine_lines past

    by_run : (o : Option Run) → run_of home past tid ≡ o → Agrees (Some held) o → IsTabled home (Rec.Ended tid Decided.Commit ∷ records home past) (epoch_start home past) (Commits tid ∷ engine_lines past)
    by_run None own a = absurd a
    by_run (Some run) own a =
        let is_tid = tid_is (epoch_start home past) (engine_lines past) k.right tid run own ∙ sym (doubt_tid (records home past) tid held doubt) in
        let is_number = number_is run held.number a.0 in
        let is_writes = sym a.2 in
        let same : install_of run ≡ due_install held = λ i. record { tid = is_tid i; number = is_number i; writes = is_writes i } in
        tabled_more home (records home past) (Rec.Ended tid Decided.Commit ∷ records home past) (epoch_start home past) (engine_lines past) (Commits tid ∷ engine_lines past) run (due_install held) same
        (ap (λ o. install_held o (installs (records home past))) doubt) (ap (λ o. Runs.by_number o (committed (epoch_start home past) (engine_lines past))) own)
        (subst (λ o. HeldComes o (installs (records home past))) doubt order.0) t

-- behind the calls and the lines of a move
move_tabled : (home : Home) (past : SitePast) (local : Tx → Bool) (event : SiteEvent) (calls : List (Call SiteRecord)) (lines : List EngineLine) → IsKept home past
    → ComeInOrder (appended calls (records home past)) → IsTabled home (records home past) (epoch_start home past) (engine_lines past)
    → Moves home past local event calls lines → IsTabled home (appended calls (records home past)) (epoch_start home past) (lines ++ engine_lines past)
move_tabled home past local event calls lines k order t rests = t
move_tabled home past local event calls lines k order t (begins_local mine free none) = tabled_same home _ _ _ _ _ refl refl t
move_tabled home past local event calls lines k order t (begins_work others none fresh) = tabled_same home _ _ _ _ _ refl refl t
move_tabled home past local event calls lines k order t (goes_on {line = line} run here calm) =
    tabled_same home _ _ _ _ _ refl (calm_committed local (epoch_start home past) (engine_lines past) line calm) t
move_tabled home past local event calls lines k order t (commits_local {tid = tid} run mine here) = tabled_local home past tid run k here.live.0 order t
move_tabled home past local event calls lines k order t (prepares_run n run asked others here took) = tabled_same home _ _ _ _ _ refl refl t
move_tabled home past local event calls lines k order t (settles_held {tid = tid} {decision = Decided.Commit} {rest = rest} held doubt synced just) =
    let same = synced_append rest (Rec.Ended tid Decided.Commit ∷ records home past) synced in
    subst (λ (rs : List SiteRecord). IsTabled home rs (epoch_start home past) (Commits tid ∷ engine_lines past)) (sym same)
    (tabled_held home past tid held k doubt (subst ComeInOrder same order) t)
move_tabled home past local event calls lines k order t (settles_held {tid = tid} {decision = Decided.Abort} {rest = rest} held doubt synced just) =
    tabled_same home _ _ _ _ _ (ap installs (synced_append rest (Rec.Ended tid Decided.Abort ∷ records home past) synced)) refl t
move_tabled home past local event calls lines k order t (checks_sum is) = tabled_same home _ _ _ _ _ refl refl t

-- the past is so
pub record TabledPast (home : Home) (past : SitePast) : Type 0 where
  pub tabled : IsTabled home (records home past) (epoch_start home past) (engine_lines past)

-- so it is behind the line, if the installs come in order there
record TablesNext (home : Home) (past : SitePast) (x : SiteHappening) : Type 0 where
  next : ComeInOrder (records home (x ∷ past)) → TabledPast home (x ∷ past)

-- behind a stop or a start the engine starts from the rows of the records
anew : (home : Home) (past : SitePast) (x : SiteHappening) → (stops x.answer || comes_up x.answer) ≡ true → TablesNext home past x
anew home past x new =
    let rs = records home (x ∷ past) in
    record {
      next = λ order. record {
        tabled = subst (λ (t : Bool). IsTabled home rs (cond t (start_of home rs) (epoch_start home past)) (cond t [] (x.lines ++ engine_lines past))) (sym new)
            (record { same = refl; among = λ i k. absurd k });
      };
    }

whole : (home : Home) (local : Tx → Bool) (past : SitePast) (event : SiteEvent) (x : SiteHappening) → IsKept home past → TabledPast home past → IsGoodLine home past x
    → IsMove home past local event x → TablesNext home past x
whole home local past event x k t g m =
    let is = move_records home past local event x.calls x.lines m.moves in
    let rs = records home (x ∷ past) in
    record {
      next = λ order. record {
        tabled = subst (λ (b : Bool). IsTabled home rs (cond b (start_of home rs) (epoch_start home past)) (cond b [] (x.lines ++ engine_lines past))) (sym g.plain)
            (subst (λ (ks : List SiteRecord). IsTabled home ks (epoch_start home past) (x.lines ++ engine_lines past)) (sym is)
            (move_tabled home past local event x.calls x.lines k (subst ComeInOrder is order) t.tabled m.moves));
      };
    }

next_when : (home : Home) (past : SitePast) (b : Bool) (x y : SiteHappening) → TablesNext home past x → TablesNext home past y → TablesNext home past (when b x y)
unfolding when
next_when home past true x y p q = p
next_when home past false x y p q = q

next_stopped : (home : Home) (past : SitePast) (event : SiteEvent) (calls : List (Call SiteRecord)) → TablesNext home past (stopped site_frame (disk home past) event calls)
unfolding stopped
next_stopped home past event calls = anew home past (stopped site_frame (disk home past) event calls) refl

next_tripped : (home : Home) (past : SitePast) (o : Option Trip) (x : SiteHappening) → TablesNext home past x → TablesNext home past (tripped site_frame (disk home past) o x)
unfolding tripped
next_tripped home past None x n = n
next_tripped home past (Some t) x n =
    next_when home past (nat_le t.calls (length x.calls)) (stopped site_frame (disk home past) x.event (take t.calls x.calls ++ Stops t.cut ∷ [])) x
    (next_stopped home past x.event (take t.calls x.calls ++ Stops t.cut ∷ [])) n

quiet_line : (home : Home) (local : Tx → Bool) (past : SitePast) (event : SiteEvent) → IsKept home past → TabledPast home past
    → TablesNext home past (record { event = event; answer = Say.Down; sends = []; calls = []; lines = [] })
quiet_line home local past event k t =
    whole home local past event (record { event = event; answer = Say.Down; sends = []; calls = []; lines = [] }) k t (still home past event Say.Down [] k refl) (record { moves = rests })

up : (home : Home) (local : Tx → Bool) (past : SitePast) (event : SiteEvent) → IsWellKept home local past → TabledPast home past → IsSorted local event → IsFresh home past event
    → is_back event ≡ false
    → TablesNext home past (when (is_down past) (record { event = event; answer = Say.Down; sends = []; calls = []; lines = [] }) (unless_tripped home past (answered home past event)))
up home local past event h t sorted fresh b =
    let x = answered home past event in
    next_when home past (is_down past) (record { event = event; answer = Say.Down; sends = []; calls = []; lines = [] }) (unless_tripped home past x) (quiet_line home local past event h.kept t)
    (next_tripped home past (trip past) x
    (whole home local past event x h.kept t (good_answered home past event h.kept fresh b) (move_answered home past local event h.kept sorted fresh b)))

back_line : (home : Home) (past : SitePast) → TablesNext home past (unless_tripped home past (of_back home past))
unfolding of_back
back_line home past = next_tripped home past (trip past) (of_back home past) (anew home past (of_back home past) refl)

next_line : (home : Home) (local : Tx → Bool) (past : SitePast) (event : SiteEvent) → IsWellKept home local past → TabledPast home past → IsSorted local event
    → TablesNext home past (site_line home past event)
unfolding site_line
next_line home local past (Ev.Trip calls cut) h t sorted =
    whole home local past (Ev.Trip calls cut) (record { event = Ev.Trip calls cut; answer = Say.Set; sends = []; calls = []; lines = [] }) h.kept t
    (still home past (Ev.Trip calls cut) Say.Set [] h.kept refl) (record { moves = rests })
next_line home local past (Ev.Halt cut) h t sorted =
    next_when home past (is_down past) _ _ (quiet_line home local past (Ev.Halt cut) h.kept t) (next_stopped home past (Ev.Halt cut) (Stops cut ∷ []))
next_line home local past Ev.Back h t sorted =
    next_when home past (is_down past) _ _ (back_line home past)
    (whole home local past Ev.Back (record { event = Ev.Back; answer = Say.Awake; sends = []; calls = []; lines = [] }) h.kept t
    (still home past Ev.Back Say.Awake [] h.kept refl) (record { moves = rests }))
next_line home local past (Ev.Begin tid) h t sorted = up home local past (Ev.Begin tid) h t sorted (no_local_doubt local (records home past) tid h.sorted sorted) refl
next_line home local past (Ev.Act tid act) h t sorted = up home local past (Ev.Act tid act) h t sorted tt refl
next_line home local past (Ev.Commit tid) h t sorted = up home local past (Ev.Commit tid) h t sorted tt refl
next_line home local past (Ev.Abort tid) h t sorted = up home local past (Ev.Abort tid) h t sorted tt refl
next_line home local past (Ev.Fate tx) h t sorted = up home local past (Ev.Fate tx) h t sorted tt refl
next_line home local past (Ev.Give message) h t sorted = up home local past (Ev.Give message) h t sorted tt refl
next_line home local past (Ev.Ask tid) h t sorted = up home local past (Ev.Ask tid) h t sorted tt refl
next_line home local past (Ev.Drop tid) h t sorted = up home local past (Ev.Drop tid) h t sorted tt refl
next_line home local past Ev.Check h t sorted = up home local past Ev.Check h t sorted tt refl

in_order : (home : Home) (past : SitePast) → OrdersPast home past → ComeInOrder (records home past)
in_order home past o = o.orderly.all.order

-- behind a past that is well kept and in order
pub tabled_on : (home : Home) (local : Tx → Bool) (first : SitePast) → IsWellKept home local first → OrdersPast home first → TabledPast home first → (events : List SiteEvent) → AreSorted local events
    → TabledPast home (site_past_on home first events)
tabled_on home local first well orders t [] sorted = t
tabled_on home local first well orders t (event ∷ events) (now, before) =
    (next_line home local (site_past_on home first events) event (well_on home local first well events before) (tabled_on home local first well orders t events before) now).next
    (in_order home (site_past_on home first (event ∷ events)) (orders_on home local first well orders (event ∷ events) (now, before)))

-- at a new site
pub tabled_first : (home : Home) → TabledPast home []
tabled_first home = record { tabled = record { same = refl; among = λ i k. absurd k } }

-- and at one on whose disk a journal is found
pub tabled_opened : (home : Home) (journal : Journal SiteRecord) → OrdersPast home (opened_site journal) → TabledPast home (opened_site journal)
tabled_opened home journal orders = (anew home (all_named journal.records) (site_opening journal) refl).next (in_order home (opened_site journal) orders)

-- in every past that sorted events make
pub engine_rows : OfSortedEvents HasItsTable
engine_rows home local events sorted = (tabled_on home local [] (well_first home local) (orders_past home local [] tt) (tabled_first home) events sorted).tabled.same

-- and behind a journal that was found
pub found_rows : OfFoundSites HasItsTable
found_rows home local journal found events sorted =
    let first = reopened home local journal found in
    (tabled_on home local (opened_site journal) first.well first.orders (tabled_opened home journal first.orders) events sorted).tabled.same
