-- At a site installs come in order: whichever is installed has a greater number than those before that wrote one of its keys.
use Rattle.engine_laws.proofs.ForCallers.{IsApart, StaysClear, committed_is, is_later, number_is, placed, puts_clear, rows_apart, sound}
use Rattle.std.proofs.Common.{◌≡◌, ℕ, ◌<◌, ◌≤◌, ◌⊎◌, Bool, true, false, cond, Option, Some, None, List, [], ◌∷◌, ◌++◌, refl, sym, ap, ◌∙◌, subst, inl, inr, arith}
use Rattle.std.specs.Prelude.{nat_lt}
use Rattle.mdb_base.specs.declared.names.Tid.{Tid}
use Rattle.mdb_base.specs.declared.names.Tx.{Tx}
use Rattle.mdb_base.specs.Names.{same_tid}
use Rattle.mdb_base.specs.Words.{Each, inserted}
use Rattle.mdb_base.proofs.ForCallers.{each_inserted, each_map, same_tid-refl, same_tid-sym}
use Rattle.order_laws.specs.Chains.{In}
use Rattle.presumptions.specs.declared.Decision.TheVariants as Decided
use Rattle.fed_rules.specs.declared.events.SiteEvent.{SiteEvent}
use Rattle.fed_rules.specs.declared.records.SiteRecord.{SiteRecord}
use Rattle.fed_rules.specs.declared.records.SiteRecord.TheVariants.{Prepared, Ended, Local}
use Rattle.fed_rules.specs.Disk.{Call}
use Rattle.fed_rules.specs.EngineLines.{IsRight, IsLive, IsStart}
use Rattle.fed_rules.specs.Runs as Runs
use Rattle.fed_rules.specs.Runs.{EngineLine, Begins, Acts, Takes, Seals, Refuses, Commits, Aborts, Run, changed, committed, number, puts_of, run_at, tid_of}
use Rattle.fed_rules.specs.Site.{number_of}
use Rattle.fed_rules.specs.SitePast.{SitePast, epoch, epoch_start, engine_lines, records}
use Rattle.fed_rules.specs.SiteRecords.{Home, Held, Install, by_number, doubt_of, install_held, installs}
use Rattle.site_history.specs.Lines.{Agrees}
use Rattle.site_history.proofs.AsSealed.{inserted_in}
use Rattle.site_history.proofs.Backed.{appended}
use Rattle.site_history.proofs.Backing.{beside_doubt, run_beside_line, sealed_above}
use Rattle.site_history.proofs.HistoryMoves.{calm_committed, synced_append}
use Rattle.site_history.proofs.Moves.{Moves, rests, begins_local, begins_work, goes_on, commits_local, prepares_run, settles_held, checks_sum}
use Rattle.site_history.proofs.Records.{due_install}
use Rattle.site_history.specs.Sums.{AreDisjoint, StaysBelow, HeldComes, ComeInOrder}

-- all installs stay below those in doubt
abbrev pub DoubtsFit : List SiteRecord → Type 0
DoubtsFit rs = (tid : Tid) (held : Held) → doubt_of rs tid ≡ Some held → Each (StaysBelow (due_install held)) (installs rs)

abbrev pub AllFit : List SiteRecord → Type 0
AllFit [] = Unit {0}
AllFit (newest ∷ rs) = DoubtsFit (newest ∷ rs) × AllFit rs

pub record IsInOrder (rs : List SiteRecord) : Type 0 where
  pub order : ComeInOrder rs
  pub fit : AllFit rs

pub first_fit : (rs : List SiteRecord) → AllFit rs → DoubtsFit rs
first_fit [] f = λ tid held e. cc
first_fit (newest ∷ rs) f = f.0

-- an install is of a number up to the start's, or of a run that committed since
abbrev pub IsSince : Runs.Start → List EngineLine → Install → Type 0
IsSince start lines o =
    (o.number ≤ start.counter)
    ⊎ ((run : Run) × In run (committed start lines) × (number run ≡ o.number) × (puts_of run.acts ≡ o.writes))

pub record IsOrderly (rs : List SiteRecord) (start : Runs.Start) (lines : List EngineLine) : Type 0 where
  pub all : IsInOrder rs
  pub since : Each (IsSince start lines) (installs rs)

-- a sealed run fits behind what is installed
below_sealed : (tid : Tid) (start : Runs.Start) (lines : List EngineLine) (run : Run) (n : ℕ) (o : Install)
    → Each (StaysClear run.acts n) (committed start lines) → start.counter < n → IsSince start lines o
    → StaysBelow (record { tid = tid; number = n; writes = puts_of run.acts }) o
below_sealed tid start lines run n o clear above (inl less) = inl (omega arith)
below_sealed tid start lines run n o clear above (inr (older, among, is, writes)) = by_clear (at_run (committed start lines) clear among)
  where
    at_run : (runs : List Run) → Each (StaysClear run.acts n) runs → In older runs → StaysClear run.acts n older
    at_run [] c i = elim i [ ]
    at_run (r ∷ rs) c (inl same) = subst (StaysClear run.acts n) same c.0
    at_run (r ∷ rs) c (inr i) = at_run rs c.1 i

    by_clear : StaysClear run.acts n older → StaysBelow (record { tid = tid; number = n; writes = puts_of run.acts }) o
    by_clear (inl less) = inl (omega (arith, less, is))
    by_clear (inr (more, keeps)) =
        inr (subst (AreDisjoint (puts_of run.acts)) writes
        (rows_apart (puts_of older.acts) (puts_of run.acts) (puts_clear run.acts older.acts keeps)))

-- of two sealed runs the one that is installed first fits before the other
below_apart : (t u : Tid) (a b : Run) (m n : ℕ) → IsApart a.acts m b.acts n
    → StaysBelow (record { tid = t; number = m; writes = puts_of a.acts }) (record { tid = u; number = n; writes = puts_of b.acts })
below_apart t u a b m n (inl (less, clear)) =
    inr (rows_apart (puts_of b.acts) (puts_of a.acts) (puts_clear a.acts b.acts clear))
below_apart t u a b m n (inr (more, clear)) = inl more

-- the sealed run of one in doubt
record IsHeldAt (start : Runs.Start) (lines : List EngineLine) (tid : Tid) (held : Held) : Type 0 where
  run : Run
  at : run_at start lines tid ≡ Some run
  sealed : run.sealed ≡ Some held.number
  writes : held.writes ≡ puts_of run.acts

held_at : (start : Runs.Start) (lines : List EngineLine) (tid : Tid) (held : Held) (o : Option Run) → run_at start lines tid ≡ o
    → Agrees (Some held) o → IsHeldAt start lines tid held
held_at start lines tid held None at a = elim a [ ]
held_at start lines tid held (Some run) at a = record { run = run; at = at; sealed = a.0; writes = a.2 }

held_here : (start : Runs.Start) (lines : List EngineLine) (rs : List SiteRecord) (tid : Tid) (held : Held)
    → ((t : Tid) → Agrees (doubt_of rs t) (run_at start lines t)) → doubt_of rs tid ≡ Some held → IsHeldAt start lines tid held
held_here start lines rs tid held agrees e =
    held_at start lines tid held (run_at start lines tid) refl (subst (λ o. Agrees o (run_at start lines tid)) e (agrees tid))

-- more committed runs
since_more : (start : Runs.Start) (lines more : List EngineLine) (is : List Install)
    → ((run : Run) → In run (committed start lines) → In run (committed start more)) → Each (IsSince start lines) is → Each (IsSince start more) is
since_more start lines more is sub = each_map (IsSince start lines) (IsSince start more) (λ o. by_since o) is
  where
    by_since : (o : Install) → IsSince start lines o → IsSince start more o
    by_since o (inl less) = inl less
    by_since o (inr (run, among, n, writes)) = inr (run, sub run among, n, writes)

-- what is known where the engine's lines are right
pub record IsWell (rs : List SiteRecord) (start : Runs.Start) (lines : List EngineLine) : Type 0 where
  pub begun : IsStart start
  pub right : IsRight start lines
  pub agrees : (tid : Tid) → Agrees (doubt_of rs tid) (run_at start lines tid)

-- a new sealed run fits
sealed_below : (rs : List SiteRecord) (start : Runs.Start) (lines : List EngineLine) (tid : Tid) (run : Run) (n : ℕ) → IsStart start
    → IsRight start (Seals tid n ∷ lines) → IsLive start lines tid run → Each (IsSince start lines) (installs rs)
    → Each (StaysBelow (record { tid = tid; number = n; writes = puts_of run.acts })) (installs rs)
sealed_below rs start lines tid run n begun right live since =
    let now : Run = record run { sealed = Some n } in
    let at : run_at start (Seals tid n ∷ lines) tid ≡ Some now =
    ap (λ b. cond b (changed (Seals tid n) (run_at start lines tid)) (run_at start lines tid)) (same_tid-refl tid) ∙ ap (changed (Seals tid n)) live.0 in
    let clear = (sound start.kind start (Seals tid n ∷ lines) refl begun right).clear tid now at n
    (placed start.kind start (Seals tid n ∷ lines) refl begun right tid now at n refl) in
    each_map (IsSince start lines) (StaysBelow (record { tid = tid; number = n; writes = puts_of run.acts }))
    (λ o s. below_sealed tid start lines now n o clear (sealed_above start lines tid n run right live) s) (installs rs) since

-- two sealed ones
pair_below : (start : Runs.Start) (lines : List EngineLine) (t u : Tid) (a b : Run) (m n : ℕ) → IsStart start → IsRight start lines
    → same_tid t u ≡ false → run_at start lines t ≡ Some a → run_at start lines u ≡ Some b → a.sealed ≡ Some m → b.sealed ≡ Some n
    → StaysBelow (record { tid = t; number = m; writes = puts_of a.acts }) (record { tid = u; number = n; writes = puts_of b.acts })
pair_below start lines t u a b m n begun right apart at_a at_b sealed_a sealed_b =
    below_apart t u a b m n
    ((sound start.kind start lines refl begun right).apart t u a b apart at_a at_b m n
    (placed start.kind start lines refl begun right t a at_a m sealed_a) (placed start.kind start lines refl begun right u b at_b n sealed_b))

-- a local commit
local_orderly : (rs : List SiteRecord) (start : Runs.Start) (lines : List EngineLine) (tid : Tid) (run : Run) (n : ℕ) → IsWell rs start lines
    → IsOrderly rs start lines → IsRight start (Seals tid n ∷ lines) → IsLive start lines tid run → doubt_of rs tid ≡ None
    → IsOrderly (Local tid n (puts_of run.acts) ∷ rs) start (Commits tid ∷ Seals tid n ∷ lines)
local_orderly rs start lines tid run n w o right live free = record {
  all = record {
    order = (below, o.all.order);
    fit = (
      λ u held e. each_inserted (StaysBelow (due_install held)) (λ (a b : Install). nat_lt b.number a.number) i (installs rs) (held_below u held e)
          (first_fit rs o.all.fit u held e),
      o.all.fit,
    );
  };
  since = each_inserted (IsSince start more) (λ (a b : Install). nat_lt b.number a.number) i (installs rs)
      (inr (now, subst (In now) (sym is) (inserted_in is_later now now (committed start lines) (inl refl)), refl, refl))
      (since_more start lines more (installs rs)
      (λ r j. subst (In r) (sym is) (inserted_in is_later now r (committed start lines) (inr j))) o.since);
}
  where
    i : Install
    i = record { tid = tid; number = n; writes = puts_of run.acts }

    now : Run
    now = record run { sealed = Some n }

    more : List EngineLine
    more = Commits tid ∷ Seals tid n ∷ lines

    at : run_at start (Seals tid n ∷ lines) tid ≡ Some now
    at = ap (λ b. cond b (changed (Seals tid n) (run_at start lines tid)) (run_at start lines tid)) (same_tid-refl tid) ∙ ap (changed (Seals tid n)) live.0

    is : committed start more ≡ inserted is_later now (committed start lines)
    is = committed_is start (Seals tid n ∷ lines) tid now at

    below : Each (StaysBelow i) (installs rs)
    below = sealed_below rs start lines tid run n w.begun right live o.since

    held_below : (u : Tid) (held : Held) → doubt_of rs u ≡ Some held → StaysBelow (due_install held) i
    held_below u held e =
        let h = held_here start lines rs u held w.agrees e in
        let apart = beside_doubt rs tid u held free e in
        subst (λ ws. StaysBelow (record { tid = held.tid; number = held.number; writes = ws }) i) (sym h.writes)
        (retid h.run (pair_below start (Seals tid n ∷ lines) u tid h.run now held.number n w.begun right (same_tid-sym u tid ∙ apart)
        (run_beside_line start lines (Seals tid n) u apart ∙ h.at) at h.sealed refl))
      where
        retid : (h : Run) → StaysBelow (record { tid = u; number = held.number; writes = puts_of h.acts }) i
            → StaysBelow (record { tid = held.tid; number = held.number; writes = puts_of h.acts }) i
        retid h s = s

-- a Prepared record
prepared_orderly : (rs : List SiteRecord) (start : Runs.Start) (lines : List EngineLine) (tid : Tid) (run : Run) (n e ticket : ℕ) → IsWell rs start lines
    → IsOrderly rs start lines → IsRight start (Seals tid n ∷ lines) → IsLive start lines tid run
    → IsOrderly (Prepared tid e n ticket (puts_of run.acts) ∷ rs) start (Seals tid n ∷ lines)
prepared_orderly rs start lines tid run n e ticket w o right live = record {
  all = record { order = o.all.order; fit = (λ u held d. by_test u held (same_tid tid u) d, o.all.fit) };
  since = o.since;
}
  where
    here : Held
    here = record { tid = tid; epoch = e; number = n; ticket = ticket; writes = puts_of run.acts }

    by_test : (u : Tid) (held : Held) (b : Bool) → cond b (Some here) (doubt_of rs u) ≡ Some held → Each (StaysBelow (due_install held)) (installs rs)
    by_test u held true d =
        let same : here ≡ held = some_parts d in
        subst (λ h. Each (StaysBelow (due_install h)) (installs rs)) same (sealed_below rs start lines tid run n w.begun right live o.since)
      where
        some_parts : Some here ≡ Some held → here ≡ held
        some_parts e = cc
    by_test u held false d = first_fit rs o.all.fit u held d

-- a settling by commit
commit_orderly : (rs : List SiteRecord) (start : Runs.Start) (lines : List EngineLine) (tid : Tid) (mine : Held) → IsWell rs start lines
    → IsOrderly rs start lines → doubt_of rs tid ≡ Some mine → IsOrderly (Ended tid Decided.Commit ∷ rs) start (Commits tid ∷ lines)
commit_orderly rs start lines tid mine w o doubt = record {
  all = record {
    order = (subst (λ h. HeldComes h (installs rs)) (sym doubt) (first_fit rs o.all.fit tid mine doubt), o.all.order);
    fit = (λ u held d. subst (λ h. Each (StaysBelow (due_install held)) (install_held h (installs rs))) (sym doubt) (by_test u held (same_tid tid u) refl d), o.all.fit);
  };
  since = subst (λ h. Each (IsSince start more) (install_held h (installs rs))) (sym doubt)
      (each_inserted (IsSince start more) (λ (a b : Install). nat_lt b.number a.number) (due_install mine) (installs rs)
      (inr (h.run, subst (In h.run) (sym is) (inserted_in is_later h.run h.run (committed start lines) (inl refl)), number_is h.run mine.number h.sealed, sym h.writes))
      (since_more start lines more (installs rs)
      (λ r j. subst (In r) (sym is) (inserted_in is_later h.run r (committed start lines) (inr j))) o.since));
}
  where
    more : List EngineLine
    more = Commits tid ∷ lines

    h : IsHeldAt start lines tid mine
    h = held_here start lines rs tid mine w.agrees doubt

    is : committed start more ≡ inserted is_later h.run (committed start lines)
    is = committed_is start lines tid h.run h.at

    by_test : (u : Tid) (held : Held) (b : Bool) → same_tid tid u ≡ b → cond b None (doubt_of rs u) ≡ Some held
        → Each (StaysBelow (due_install held)) (by_number (due_install mine) (installs rs))
    by_test u held true apart d = cc
    by_test u held false apart d =
        let k = held_here start lines rs u held w.agrees d in
        each_inserted (StaysBelow (due_install held)) (λ (a b : Install). nat_lt b.number a.number) (due_install mine) (installs rs)
        (subst (λ ws. StaysBelow (due_install held) (record { tid = mine.tid; number = mine.number; writes = ws })) (sym h.writes)
        (subst (λ ws. StaysBelow (record { tid = held.tid; number = held.number; writes = ws }) (record { tid = mine.tid; number = mine.number; writes = puts_of h.run.acts })) (sym k.writes)
        (pair_below start lines u tid k.run h.run held.number mine.number w.begun w.right (same_tid-sym u tid ∙ apart) k.at h.at k.sealed h.sealed)))
        (first_fit rs o.all.fit u held d)

-- a settling by abort
abort_orderly : (rs : List SiteRecord) (start : Runs.Start) (lines : List EngineLine) (tid : Tid) → IsOrderly rs start lines
    → IsOrderly (Ended tid Decided.Abort ∷ rs) start (Aborts tid ∷ lines)
abort_orderly rs start lines tid o = record {
  all = record { order = o.all.order; fit = (λ u held d. by_test u held (same_tid tid u) d, o.all.fit) };
  since = o.since;
}
  where
    by_test : (u : Tid) (held : Held) (b : Bool) → cond b None (doubt_of rs u) ≡ Some held → Each (StaysBelow (due_install held)) (installs rs)
    by_test u held true d = cc
    by_test u held false d = first_fit rs o.all.fit u held d

-- a line that a site answers
pub move_orderly : (home : Home) (past : SitePast) (local : Tx → Bool) (event : SiteEvent) (calls : List (Call SiteRecord)) (lines : List EngineLine)
    → IsStart (epoch_start home past) → IsRight (epoch_start home past) (lines ++ engine_lines past)
    → IsWell (records home past) (epoch_start home past) (engine_lines past)
    → IsOrderly (records home past) (epoch_start home past) (engine_lines past) → Moves home past local event calls lines
    → IsOrderly (appended calls (records home past)) (epoch_start home past) (lines ++ engine_lines past)
move_orderly home past local event calls lines begun right w o rests = o
move_orderly home past local event calls lines begun right w o (begins_local mine free none) = record { all = o.all; since = o.since }
move_orderly home past local event calls lines begun right w o (begins_work others none fresh) = record { all = o.all; since = o.since }
move_orderly home past local event calls lines begun right w o (goes_on {line = line} run here calm) = record {
  all = o.all;
  since = since_more (epoch_start home past) (engine_lines past) (line ∷ engine_lines past) (installs (records home past))
      (λ r i. subst (In r) (sym (calm_committed local (epoch_start home past) (engine_lines past) line calm)) i) o.since;
}
move_orderly home past local event calls lines begun right w o (commits_local {tid = tid} run mine here) =
    local_orderly (records home past) (epoch_start home past) (engine_lines past) tid run (number_of home past run) w o right.1 here.live here.doubt
move_orderly home past local event calls lines begun right w o (prepares_run {tid = tid} {ticket = ticket} n run asked others here took) =
    prepared_orderly (records home past) (epoch_start home past) (engine_lines past) tid run (number_of home past run) (epoch home past) ticket w o right here.live
move_orderly home past local event calls lines begun right w o (settles_held {tid = tid} {decision = Decided.Commit} {rest = rest} held doubt synced just) =
    subst (λ rs. IsOrderly rs (epoch_start home past) (Commits tid ∷ engine_lines past)) (sym (synced_append rest (Ended tid Decided.Commit ∷ records home past) synced))
    (commit_orderly (records home past) (epoch_start home past) (engine_lines past) tid held w o doubt)
move_orderly home past local event calls lines begun right w o (settles_held {tid = tid} {decision = Decided.Abort} {rest = rest} held doubt synced just) =
    subst (λ rs. IsOrderly rs (epoch_start home past) (Aborts tid ∷ engine_lines past)) (sym (synced_append rest (Ended tid Decided.Abort ∷ records home past) synced))
    (abort_orderly (records home past) (epoch_start home past) (engine_lines past) tid o)
move_orderly home past local event calls lines begun right w o (checks_sum {sum = sum} is) = record {
  all = record { order = o.all.order; fit = (first_fit (records home past) o.all.fit, o.all.fit) };
  since = o.since;
}
