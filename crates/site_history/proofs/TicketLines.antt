-- What each line of a site does to tickets: a ticket that is taken is greater than those of all prepared attempts, also over stops and restarts.
use Rattle.std.proofs.Common.{◌≡◌, ℕ, ◌+◌, ◌<◌, ◌≤◌, ◌⊎◌, Bool, true, false, cond, ◌||◌, max, Option, Some, None, List, [], ◌∷◌, ◌++◌, take, refl, sym, ap, ◌∙◌, subst, inl, inr, arith}
use Rattle.std.specs.Prelude.{is_some, nat_le, length}
use Rattle.mdb_base.specs.declared.names.Tid.{Tid}
use Rattle.mdb_base.specs.declared.names.Tx.{Tx}
use Rattle.mdb_base.specs.declared.rows.Put.{Put}
use Rattle.mdb_base.specs.Words.{Among, Each, or_else, some_of, when}
use Rattle.mdb_base.proofs.ForCallers.{each_among, same_tid-refl}
use Rattle.order_laws.specs.Chains.{In}
use Rattle.fed_rules.specs.declared.answers.Answer.TheVariants as Say
use Rattle.fed_rules.specs.declared.events.SiteEvent.{SiteEvent}
use Rattle.fed_rules.specs.declared.events.SiteEvent.TheVariants as Ev
use Rattle.fed_rules.specs.declared.records.SiteRecord.{SiteRecord}
use Rattle.fed_rules.specs.declared.records.SiteRecord.TheVariants.{Setup, Start, Prepared, Ended, Local, Checkpoint}
use Rattle.fed_rules.specs.Disk.{Append, Call, CutBack, Stops, Sync, TrimFront, is_torn}
use Rattle.fed_rules.specs.EngineLines.{IsRight}
use Rattle.fed_rules.specs.declared.runs.Kept.{Kept}
use Rattle.fed_rules.specs.Happenings.{Trip, comes_up, is_down, stopped, stops, tripped}
use Rattle.fed_rules.specs.Runs as Runs
use Rattle.fed_rules.specs.Runs.{EngineLine, Run, changed, published, run_at, tid_of}
use Rattle.fed_rules.specs.Site.{answered, number_of, of_back, site_line, site_past, unless_tripped}
use Rattle.fed_rules.specs.SitePast.{SiteHappening, SitePast, disk, engine_lines, epoch, epoch_start, live, live_one, records, run_of, trip}
use Rattle.fed_rules.specs.SiteRecords.{Home, Held, doubt_of, last_ticket, site_frame, start_of}
use Rattle.engine_laws.proofs.ForCallers.{Own, at_line, begins, doubt_tid, got, own, published_at, published_grows, seals, stays, takes, ticket_next, wrote}
use Rattle.site_history.specs.Events.{AreSorted, IsFresh, IsSorted, PreparesOnce, prepares}
use Rattle.site_history.specs.Records.{IsPrepared, Prepares}
use Rattle.site_history.specs.SiteOrders.{OfSortedPasts}
use Rattle.site_history.specs.Tickets.{HasTicket, IsAbovePrepared, IsRising, MayPrepare, TicketsRise, Took}
use Rattle.site_history.proofs.Agreement.{IsGoodLine, IsKept, still}
use Rattle.site_history.proofs.Histories.{IsHistory, no_local_doubt}
use Rattle.site_history.proofs.HistoryLines.{AreNew}
use Rattle.site_history.proofs.HistoryPasts.{history_past}
use Rattle.site_history.proofs.Moves.{IsMove, Moves, OnlySyncs, begins_local, begins_work, commits_local, goes_on, move_answered, prepares_run, rests, settles_held, checks_sum}
use Rattle.site_history.proofs.Records.{doubt_in}
use Rattle.site_history.proofs.RightLines.{good_answered, is_back}
use Rattle.site_history.proofs.Starts.{EachAppend, append_take, each_after, restored_doubt, restored_held}

-- the run of the attempt has this ticket by these lines
record Taken (start : Runs.Start) (lines : List EngineLine) (tid : Tid) (ticket : ℕ) : Type 0 where
  run : Run
  is_run : run_at start lines tid ≡ Some run
  has : run.ticket ≡ Some ticket

-- the ticket that a run has behind a right line it had before, or it is the next one
line_ticket : (start : Runs.Start) (older : List EngineLine) (line : EngineLine) (run : Run) (ticket : ℕ) → Own start older line run
    → run.ticket ≡ Some ticket → Taken start older (tid_of line) ticket ⊎ (ticket ≡ published start older + 1)
line_ticket start older line run ticket (begins free next) h = cc
line_ticket start older line run ticket (stays waits at) h = inl (record { run = run; is_run = at; has = h })
line_ticket start older line run ticket (got before live is) h = inl (record { run = before; is_run = live.0; has = h })
line_ticket start older line run ticket (wrote before live is) h = inl (record { run = before; is_run = live.0; has = h })
line_ticket start older line run ticket (takes {n = n} before live is) h =
    let same : n ≡ ticket = cc in inr (sym same ∙ ticket_next start older before n is)
line_ticket start older line run ticket (seals before live stop next) h = inl (record { run = before; is_run = live.0; has = h })

pub published_lines : (start : Runs.Start) (older more : List EngineLine) → published start older ≤ published start (more ++ older)
published_lines start older [] = omega arith
published_lines start older (line ∷ more) =
    let rest = published_lines start older more in
    let grows = published_grows start (more ++ older) line in omega (arith, rest, grows)

-- behind several lines it had the ticket before, or it is greater than the one that was published before
lines_ticket : (start : Runs.Start) (older more : List EngineLine) (tid : Tid) (ticket : ℕ) → IsRight start (more ++ older)
    → Taken start (more ++ older) tid ticket → Taken start older tid ticket ⊎ (published start older < ticket)
lines_ticket start older [] tid ticket right t = inl t
lines_ticket start older (line ∷ more) tid ticket right t =
    elim (at_line start (more ++ older) line tid t.run t.is_run) [
      | inl (apart, was) ↦ lines_ticket start older more tid ticket right.1 (record { run = t.run; is_run = was; has = t.has })
      | inr (same, now) ↦ elim (line_ticket start (more ++ older) line t.run ticket (own start (more ++ older) line t.run right.0 now) t.has) [
        | inl before ↦ lines_ticket start older more tid ticket right.1
            (subst (λ u. Taken start (more ++ older) u ticket) same before)
        | inr next ↦ let most = published_lines start older more in inr (omega (arith, next, most))
      ]
    ]

-- the published ticket is the greatest of the prepared ones
abbrev IsPublished : Home → SitePast → Type 0
IsPublished home past =
    (tid : Tid) (ticket : ℕ) → IsPrepared (records home past) tid ticket → ticket ≤ published (epoch_start home past) (engine_lines past)

last_most : (rs : List SiteRecord) (tid : Tid) (epoch number ticket : ℕ) (writes : List Put) → In (Prepared tid epoch number ticket writes) rs
    → ticket ≤ last_ticket rs
last_most [] tid epoch number ticket writes i = elim i [ ]
last_most (newest ∷ rs) tid epoch number ticket writes (inl e) =
    subst (λ (r : SiteRecord). ticket ≤ last_ticket (r ∷ rs)) (sym e) (omega arith)
last_most (Prepared t d n k w ∷ rs) tid epoch number ticket writes (inr i) =
    let rest = last_most rs tid epoch number ticket writes i in omega (arith, rest)
last_most (Setup site engine protocol items ∷ rs) tid epoch number ticket writes (inr i) = last_most rs tid epoch number ticket writes i
last_most (Start e ∷ rs) tid epoch number ticket writes (inr i) = last_most rs tid epoch number ticket writes i
last_most (Ended t decision ∷ rs) tid epoch number ticket writes (inr i) = last_most rs tid epoch number ticket writes i
last_most (Local t n w ∷ rs) tid epoch number ticket writes (inr i) = last_most rs tid epoch number ticket writes i
last_most (Checkpoint sum ∷ rs) tid epoch number ticket writes (inr i) = last_most rs tid epoch number ticket writes i

-- the attempt of an appended Prepared record has a live run with its ticket, which its engine lines publish
record IsTaker (home : Home) (past : SitePast) (lines : List EngineLine) (tid : Tid) (ticket : ℕ) : Type 0 where
  run : Run
  is_live : live home past tid ≡ Some run
  is_run : run_of home past tid ≡ Some run
  has : run.ticket ≡ Some ticket
  publishes : ticket ≤ published (epoch_start home past) (lines ++ engine_lines past)

abbrev Takes : Home → SitePast → List EngineLine → SiteRecord → Type 0
Takes home past lines (Prepared tid epoch number ticket writes) = IsTaker home past lines tid ticket
Takes home past lines other = Unit {0}

-- and none of it was kept
abbrev IsNewest : Home → SitePast → SiteRecord → Type 0
IsNewest home past r = (tid : Tid) → prepares tid (Append r) ≡ true → Among (Prepares tid) (records home past) → ⊥

-- a record after a line was there before, or the line appended it
abbrev IsBehind : Home → SitePast → List EngineLine → SiteRecord → Type 0
IsBehind home past lines r = Among (λ q. q ≡ r) (records home past) ⊎ (Takes home past lines r × IsNewest home past r)

newest_each : (home : Home) (past : SitePast) (lines : List EngineLine) (calls : List (Call SiteRecord)) → AreNew home past calls
    → EachAppend (Takes home past lines) calls → EachAppend (IsBehind home past lines) calls
newest_each home past lines [] new t = tt
newest_each home past lines (Append r ∷ calls) new t = (
  inr (t.0, λ tid e. new tid (ap (λ b. b || some_of (prepares tid) calls) e)),
  newest_each home past lines calls (λ tid e. new tid (later (prepares tid (Append r)) (some_of (prepares tid) calls) e)) t.1,
)
  where
    later : (a b : Bool) → b ≡ true → (a || b) ≡ true
    later true b e = refl
    later false b e = e
newest_each home past lines (Sync ∷ calls) new t = newest_each home past lines calls new t
newest_each home past lines (CutBack ∷ calls) new t = newest_each home past lines calls new t
newest_each home past lines (TrimFront ∷ calls) new t = newest_each home past lines calls new t
newest_each home past lines (Stops cut ∷ calls) new t = newest_each home past lines calls new t

self_each : (all rs : List SiteRecord) → ((r : SiteRecord) → Among (λ q. q ≡ r) rs → Among (λ q. q ≡ r) all) → Each (λ r. Among (λ q. q ≡ r) all) rs
self_each all [] sub = tt
self_each all (r ∷ rs) sub = (sub r (inl refl), self_each all rs (λ q i. sub q (inr i)))

each_old : (home : Home) (past : SitePast) (lines : List EngineLine) (rs : List SiteRecord) → Each (λ r. Among (λ q. q ≡ r) (records home past)) rs
    → Each (IsBehind home past lines) rs
each_old home past lines [] h = tt
each_old home past lines (r ∷ rs) h = (inl h.0, each_old home past lines rs h.1)

-- each record behind the line
behind_each : (home : Home) (past : SitePast) (lines : List EngineLine) (x : SiteHappening) → AreNew home past x.calls
    → EachAppend (Takes home past lines) x.calls → Each (IsBehind home past lines) (records home (x ∷ past))
behind_each home past lines x new t =
    each_after site_frame (IsBehind home past lines) (disk home past) x.calls
    (each_old home past lines (records home past) (self_each (records home past) (records home past) (λ r i. i)))
    (newest_each home past lines x.calls new t)

-- who is prepared behind the line
behind_prepared : (home : Home) (past : SitePast) (lines : List EngineLine) (x : SiteHappening) → AreNew home past x.calls
    → EachAppend (Takes home past lines) x.calls → (tid : Tid) (ticket : ℕ) → IsPrepared (records home (x ∷ past)) tid ticket
    → IsPrepared (records home past) tid ticket ⊎ (IsTaker home past lines tid ticket × (Among (Prepares tid) (records home past) → ⊥))
behind_prepared home past lines x new t tid ticket p =
    let r = Prepared tid p.epoch p.number ticket p.writes in
    elim (each_among (IsBehind home past lines) r (records home (x ∷ past)) (behind_each home past lines x new t) p.kept) [
      | inl old ↦ inl (record { epoch = p.epoch; number = p.number; writes = p.writes; kept = old })
      | inr now ↦ inr (now.0, now.1 tid (same_tid-refl tid))
    ]

may_prepare : (home : Home) (past : SitePast) (lines : List EngineLine) (tid : Tid) (ticket : ℕ) → IsTaker home past lines tid ticket
    → (Among (Prepares tid) (records home past) → ⊥) → MayPrepare home past tid ticket
may_prepare home past lines tid ticket t new = record { run = t.run; is_live = t.is_live; has = t.has; new = new }

had_ticket : (home : Home) (past : SitePast) (lines : List EngineLine) (tid : Tid) (ticket : ℕ)
    → IsPrepared (records home past) tid ticket ⊎ (IsTaker home past lines tid ticket × (Among (Prepares tid) (records home past) → ⊥))
    → HasTicket home past tid ticket
had_ticket home past lines tid ticket (inl old) = inr old
had_ticket home past lines tid ticket (inr now) = inl (record { run = now.0.run; is_run = now.0.is_run; has = now.0.has })

-- a line after which the tickets have risen, and the published one is the greatest again
record Rises (home : Home) (past : SitePast) (x : SiteHappening) : Type 0 where
  next : IsPublished home past → AreNew home past x.calls → IsRising home past x × IsPublished home (x ∷ past)

-- a line that neither stops the site nor brings it up
rises_plain : (home : Home) (past : SitePast) (x : SiteHappening) → IsGoodLine home past x → EachAppend (Takes home past x.lines) x.calls
    → Rises home past x
rises_plain home past x g t = record {
  next = λ most new. (
    record {
      taken = λ tid ticket h. taken tid ticket most new h;
      prepared = λ tid ticket p. elim (behind_prepared home past x.lines x new t tid ticket p) [
        | inl old ↦ inl old
        | inr now ↦ inr (may_prepare home past x.lines tid ticket now.0 now.1)
      ];
    },
    λ tid ticket p. subst (λ b. ticket ≤ published (cond b start_now (epoch_start home past)) (cond b [] (x.lines ++ engine_lines past))) (sym g.plain)
        (by_kept tid ticket most (behind_prepared home past x.lines x new t tid ticket p)),
  );
}
  where
    start_now : Runs.Start
    start_now = start_of home (records home (x ∷ past))

    by_kept : (tid : Tid) (ticket : ℕ) → IsPublished home past
        → IsPrepared (records home past) tid ticket ⊎ (IsTaker home past x.lines tid ticket × (Among (Prepares tid) (records home past) → ⊥))
        → ticket ≤ published (epoch_start home past) (x.lines ++ engine_lines past)
    by_kept tid ticket most (inl old) =
        let before = most tid ticket old in
        let more = published_lines (epoch_start home past) (engine_lines past) x.lines in omega (arith, before, more)
    by_kept tid ticket most (inr now) = now.0.publishes

    by_run : (tid : Tid) (ticket : ℕ) → IsPublished home past → Took home (x ∷ past) tid ticket
        → HasTicket home past tid ticket ⊎ IsAbovePrepared (records home past) ticket
    by_run tid ticket most h =
        let at : run_at (epoch_start home past) (x.lines ++ engine_lines past) tid ≡ Some h.run =
        subst (λ b. run_at (cond b start_now (epoch_start home past)) (cond b [] (x.lines ++ engine_lines past)) tid ≡ Some h.run) g.plain h.is_run in
        elim (lines_ticket (epoch_start home past) (engine_lines past) x.lines tid ticket g.right (record { run = h.run; is_run = at; has = h.has })) [
          | inl before ↦ inl (inl (record { run = before.run; is_run = before.is_run; has = before.has }))
          | inr above ↦ inr (λ other k p. let below = most other k p in omega (arith, above, below))
        ]

    taken : (tid : Tid) (ticket : ℕ) → IsPublished home past → AreNew home past x.calls → HasTicket home (x ∷ past) tid ticket
        → HasTicket home past tid ticket ⊎ IsAbovePrepared (records home past) ticket
    taken tid ticket most new (inl h) = by_run tid ticket most h
    taken tid ticket most new (inr p) = inl (had_ticket home past x.lines tid ticket (behind_prepared home past x.lines x new t tid ticket p))

-- what is restored was prepared
restored_prepared : (rs : List SiteRecord) (tid : Tid) (run : Run) (ticket : ℕ) (o : Option Held) → doubt_of rs tid ≡ o
    → restored_held o ≡ Some run → run.ticket ≡ Some ticket → IsPrepared rs tid ticket
restored_prepared rs tid run ticket None d e h = cc
restored_prepared rs tid run ticket (Some held) d e h =
    let same : Some held.ticket ≡ run.ticket = (let is : Runs.restored (start_kept held) ≡ run = cc in ap (λ (r : Run). r.ticket) is) in
    let number_is : held.ticket ≡ ticket = (let both = same ∙ h in cc) in
    subst (λ t. IsPrepared rs t ticket) (doubt_tid rs tid held d)
    (subst (λ k. IsPrepared rs held.tid k) number_is
    (record { epoch = held.epoch; number = held.number; writes = held.writes; kept = doubt_in rs tid held d }))
  where
    start_kept : Held → Kept
    start_kept h = record { tid = h.tid; number = h.number; ticket = h.ticket; writes = h.writes }

-- a stop, or a start of the site
rises_start : (home : Home) (past : SitePast) (lines : List EngineLine) (x : SiteHappening) → (stops x.answer || comes_up x.answer) ≡ true
    → EachAppend (Takes home past lines) x.calls → Rises home past x
rises_start home past lines x starts t = record {
  next = λ most new. (
    record {
      taken = λ tid ticket h. inl (had_ticket home past lines tid ticket (behind_prepared home past lines x new t tid ticket (by_ticket tid ticket h)));
      prepared = λ tid ticket p. elim (behind_prepared home past lines x new t tid ticket p) [
        | inl old ↦ inl old
        | inr now ↦ inr (may_prepare home past lines tid ticket now.0 now.1)
      ];
    },
    λ tid ticket p. subst (λ b. ticket ≤ published (cond b start_now (epoch_start home past)) (cond b [] (x.lines ++ engine_lines past))) (sym starts)
        (last_most (records home (x ∷ past)) tid p.epoch p.number ticket p.writes p.kept),
  );
}
  where
    start_now : Runs.Start
    start_now = start_of home (records home (x ∷ past))

    by_ticket : (tid : Tid) (ticket : ℕ) → HasTicket home (x ∷ past) tid ticket → IsPrepared (records home (x ∷ past)) tid ticket
    by_ticket tid ticket (inr p) = p
    by_ticket tid ticket (inl h) =
        let at : run_at start_now [] tid ≡ Some h.run =
        subst (λ b. run_at (cond b start_now (epoch_start home past)) (cond b [] (x.lines ++ engine_lines past)) tid ≡ Some h.run) starts h.is_run in
        restored_prepared (records home (x ∷ past)) tid h.run ticket (doubt_of (records home (x ∷ past)) tid) refl
        (sym (restored_doubt (records home (x ∷ past)) tid) ∙ at) h.has

rises_when : (home : Home) (past : SitePast) (b : Bool) (x y : SiteHappening) → Rises home past x → Rises home past y → Rises home past (when b x y)
unfolding when
rises_when home past true x y p q = p
rises_when home past false x y p q = q

rises_stopped : (home : Home) (past : SitePast) (lines : List EngineLine) (event : SiteEvent) (calls : List (Call SiteRecord))
    → EachAppend (Takes home past lines) calls → Rises home past (stopped site_frame (disk home past) event calls)
unfolding stopped
rises_stopped home past lines event calls t = rises_start home past lines (stopped site_frame (disk home past) event calls) refl t

rises_tripped : (home : Home) (past : SitePast) (o : Option Trip) (x : SiteHappening) → Rises home past x
    → EachAppend (Takes home past x.lines) x.calls → Rises home past (tripped site_frame (disk home past) o x)
unfolding tripped
rises_tripped home past None x whole t = whole
rises_tripped home past (Some trip) x whole t =
    rises_when home past (nat_le trip.calls (length x.calls)) (stopped site_frame (disk home past) x.event (take trip.calls x.calls ++ Stops trip.cut ∷ [])) x
    (rises_stopped home past x.lines x.event (take trip.calls x.calls ++ Stops trip.cut ∷ [])
    (append_take (Takes home past x.lines) trip.calls x.calls (Stops trip.cut ∷ []) t tt))
    whole

sync_takes : (home : Home) (past : SitePast) (lines : List EngineLine) (calls : List (Call SiteRecord)) → OnlySyncs calls → EachAppend (Takes home past lines) calls
sync_takes home past lines [] s = tt
sync_takes home past lines (Sync ∷ calls) s = sync_takes home past lines calls s
sync_takes home past lines (TrimFront ∷ calls) s = sync_takes home past lines calls s
sync_takes home past lines (Append newest ∷ calls) s = elim s [ ]
sync_takes home past lines (CutBack ∷ calls) s = elim s [ ]
sync_takes home past lines (Stops cut ∷ calls) s = elim s [ ]

shown : (o : Option Run) (run : Run) → o ≡ Some run → run.sealed ≡ None → live_one o ≡ Some run
shown o run e s =
    ap live_one e ∙ ap (λ (n : Option ℕ). cond (is_some n) None (Some run)) s

-- what a line of a site that is up appends
move_takes : (home : Home) (past : SitePast) (local : Tx → Bool) (event : SiteEvent) (calls : List (Call SiteRecord)) (lines : List EngineLine)
    → Moves home past local event calls lines → EachAppend (Takes home past lines) calls
move_takes home past local event calls lines rests = tt
move_takes home past local event calls lines (begins_local mine free none) = tt
move_takes home past local event calls lines (begins_work others none fresh) = tt
move_takes home past local event calls lines (goes_on run here calm) = tt
move_takes home past local event calls lines (commits_local run mine here) = (tt, tt)
move_takes home past local event calls lines (prepares_run {tid = tid} {ticket = ticket} asks run asked others here took) = (
  record {
    run = run;
    is_live = shown (run_of home past tid) run here.live.0 here.live.1;
    is_run = here.live.0;
    has = took;
    publishes = let is = published_at (epoch_start home past) (engine_lines past) tid (number_of home past run) run here.live.0
        ∙ ap (λ o. max (or_else o 0) (published (epoch_start home past) (engine_lines past))) took in omega (arith, is);
  },
  tt,
)
move_takes home past local event calls lines (settles_held {rest = rest} held doubt synced just) = (tt, sync_takes home past lines rest synced)
move_takes home past local event calls lines (checks_sum is) = (tt, tt)

rises_move : (home : Home) (past : SitePast) (local : Tx → Bool) (event : SiteEvent) (x : SiteHappening) → IsGoodLine home past x
    → IsMove home past local event x → Rises home past x
rises_move home past local event x g m = rises_plain home past x g (move_takes home past local event x.calls x.lines m.moves)

rises_quiet : (home : Home) (past : SitePast) (local : Tx → Bool) (event : SiteEvent) → IsKept home past
    → Rises home past (record { event = event; answer = Say.Down; sends = []; calls = []; lines = [] })
rises_quiet home past local event k =
    rises_move home past local event (record { event = event; answer = Say.Down; sends = []; calls = []; lines = [] })
    (still home past event Say.Down [] k refl) (record { moves = rests })

rises_up : (home : Home) (past : SitePast) (local : Tx → Bool) (event : SiteEvent) → IsKept home past → IsSorted local event
    → IsFresh home past event → is_back event ≡ false
    → Rises home past (when (is_down past) (record { event = event; answer = Say.Down; sends = []; calls = []; lines = [] })
    (unless_tripped home past (answered home past event)))
rises_up home past local event k sorted fresh b =
    let x = answered home past event in
    let g = good_answered home past event k fresh b in
    let m = move_answered home past local event k sorted fresh b in
    rises_when home past (is_down past) (record { event = event; answer = Say.Down; sends = []; calls = []; lines = [] })
    (unless_tripped home past (answered home past event)) (rises_quiet home past local event k)
    (rises_tripped home past (trip past) x (rises_move home past local event x g m) (move_takes home past local event x.calls x.lines m.moves))

back_takes : (home : Home) (past : SitePast) (lines : List EngineLine) (torn : Bool) (n : ℕ)
    → EachAppend (Takes home past lines) (cond torn (CutBack ∷ []) [] ++ Append (Start n) ∷ Sync ∷ [])
back_takes home past lines true n = (tt, tt)
back_takes home past lines false n = (tt, tt)

rises_back : (home : Home) (past : SitePast) → Rises home past (unless_tripped home past (of_back home past))
unfolding of_back
rises_back home past =
    let t = back_takes home past [] (is_torn site_frame (disk home past)) (epoch home past + 1) in
    rises_tripped home past (trip past) (of_back home past) (rises_start home past [] (of_back home past) refl t) t

rises_line : (home : Home) (local : Tx → Bool) (past : SitePast) (event : SiteEvent) → IsHistory home local past → IsSorted local event
    → Rises home past (site_line home past event)
unfolding site_line
rises_line home local past (Ev.Trip calls cut) h sorted =
    rises_move home past local (Ev.Trip calls cut) (record { event = Ev.Trip calls cut; answer = Say.Set; sends = []; calls = []; lines = [] })
    (still home past (Ev.Trip calls cut) Say.Set [] h.kept refl) (record { moves = rests })
rises_line home local past (Ev.Halt cut) h sorted =
    rises_when home past (is_down past) _ _ (rises_quiet home past local (Ev.Halt cut) h.kept)
    (rises_stopped home past [] (Ev.Halt cut) (Stops cut ∷ []) tt)
rises_line home local past Ev.Back h sorted =
    rises_when home past (is_down past) _ _ (rises_back home past)
    (rises_move home past local Ev.Back (record { event = Ev.Back; answer = Say.Awake; sends = []; calls = []; lines = [] })
    (still home past Ev.Back Say.Awake [] h.kept refl) (record { moves = rests }))
rises_line home local past (Ev.Begin tid) h sorted =
    rises_up home past local (Ev.Begin tid) h.kept sorted (no_local_doubt local (records home past) tid h.sorted sorted) refl
rises_line home local past (Ev.Act tid act) h sorted = rises_up home past local (Ev.Act tid act) h.kept sorted tt refl
rises_line home local past (Ev.Commit tid) h sorted = rises_up home past local (Ev.Commit tid) h.kept sorted tt refl
rises_line home local past (Ev.Abort tid) h sorted = rises_up home past local (Ev.Abort tid) h.kept sorted tt refl
rises_line home local past (Ev.Fate tx) h sorted = rises_up home past local (Ev.Fate tx) h.kept sorted tt refl
rises_line home local past (Ev.Give message) h sorted = rises_up home past local (Ev.Give message) h.kept sorted tt refl
rises_line home local past (Ev.Ask tid) h sorted = rises_up home past local (Ev.Ask tid) h.kept sorted tt refl
rises_line home local past (Ev.Drop tid) h sorted = rises_up home past local (Ev.Drop tid) h.kept sorted tt refl
rises_line home local past Ev.Check h sorted = rises_up home past local Ev.Check h.kept sorted tt refl

first_published : (home : Home) → IsPublished home []
first_published home tid ticket p = elim p.kept [
  | inl e ↦ cc
  | inr rest ↦ elim rest [
    | inl e ↦ cc
    | inr none ↦ elim none [ ]
  ]
]

risen : (home : Home) (local : Tx → Bool) (events : List SiteEvent) → AreSorted local events → PreparesOnce home (site_past home events)
    → TicketsRise home (site_past home events) × IsPublished home (site_past home events)
risen home local [] sorted once = (tt, first_published home)
risen home local (event ∷ events) (now, before) (new, once) =
    let rest = risen home local events before once in
    let line = (rises_line home local (site_past home events) event (history_past home local events before once) now).next rest.1 new in
    ((line.0, rest.0), line.1)

-- so it is of every past that sorted events make
pub pasts_rise : OfSortedPasts TicketsRise
pasts_rise home local events sorted once = (risen home local events sorted once).0
