-- What is known of a site's past holds of every past that sorted events make.
use Rattle.std.proofs.Common.{◌≡◌, ℕ, ◌+◌, Bool, true, false, cond, Option, Some, None, List, [], ◌∷◌, ◌++◌, take, zero, suc, refl, sym, ◌∙◌, subst}
use Rattle.std.specs.Prelude.{nat_le, length}
use Rattle.mdb_base.specs.declared.names.Tx.{Tx}
use Rattle.mdb_base.specs.Words.{when}
use Rattle.fed_rules.specs.declared.answers.Answer.TheVariants as Say
use Rattle.fed_rules.specs.declared.events.SiteEvent.{SiteEvent}
use Rattle.fed_rules.specs.declared.events.SiteEvent.TheVariants as Ev
use Rattle.fed_rules.specs.declared.records.SiteRecord.{SiteRecord}
use Rattle.fed_rules.specs.declared.records.SiteRecord.TheVariants.{Setup, Start, Ended}
use Rattle.fed_rules.specs.Disk.{Append, Call, CutBack, Stops, Sync, after_call, after_calls, is_torn}
use Rattle.fed_rules.specs.Happenings.{Trip, is_down, stopped, tripped}
use Rattle.fed_rules.specs.Runs.{EngineLine, run_at}
use Rattle.fed_rules.specs.Site.{answered, of_back, site_line, site_past, unless_tripped}
use Rattle.fed_rules.specs.SitePast.{SiteHappening, SitePast, disk, epoch, epoch_start, engine_lines, records, trip}
use Rattle.fed_rules.specs.SiteRecords.{Home, doubt_of, site_frame, start_of}
use Rattle.site_history.specs.Accesses.{acts_at}
use Rattle.site_history.specs.Events.{AreSorted, IsFresh, IsSorted, PreparesOnce}
use Rattle.site_history.specs.Lines.{Agrees}
use Rattle.site_history.proofs.Agreement.{IsGoodLine, still}
use Rattle.site_history.proofs.Backed.{appended, appended_none}
use Rattle.site_history.proofs.Backing.{backed_start}
use Rattle.site_history.proofs.Histories.{IsHistory, no_local_doubt}
use Rattle.site_history.proofs.HistoryLines.{AreBacked, AreNew, history_plain, history_start, none_backed, none_of_syncs, start_locals, synced_records, torn_step, whole_step}
use Rattle.site_history.proofs.HistoryMoves.{Step, appends, move_locals, move_step}
use Rattle.site_history.proofs.Moves.{IsMove, Moves, move_answered, rests, begins_local, begins_work, goes_on, commits_local, prepares_run, settles_held, checks_sum}
use Rattle.site_history.proofs.Restarts.{backed_empty}
use Rattle.site_history.proofs.RightLines.{back_appends, good_answered, is_back, kept_first}
use Rattle.site_history.proofs.Starts.{EachAppend, HasRisingWrites, append_take, each_after}

-- the past with the line is known so, if the Prepared records that it appends are of attempts with none so far
record IsNextLine (home : Home) (local : Tx → Bool) (past : SitePast) (x : SiteHappening) : Type 0 where
  next : AreNew home past x.calls → IsHistory home local (x ∷ past)

next_when : (home : Home) (local : Tx → Bool) (past : SitePast) (b : Bool) (x y : SiteHappening) → IsNextLine home local past x
    → IsNextLine home local past y → IsNextLine home local past (when b x y)
unfolding when
next_when home local past true x y p q = p
next_when home local past false x y p q = q

-- the records after a line's calls
pub move_records : (home : Home) (past : SitePast) (local : Tx → Bool) (event : SiteEvent) (calls : List (Call SiteRecord)) (lines : List EngineLine)
    → Moves home past local event calls lines → (after_calls site_frame (disk home past) calls).records ≡ appended calls (records home past)
move_records home past local event calls lines rests = refl
move_records home past local event calls lines (begins_local mine free none) = refl
move_records home past local event calls lines (begins_work others none fresh) = refl
move_records home past local event calls lines (goes_on run here calm) = refl
move_records home past local event calls lines (commits_local run mine here) = refl
move_records home past local event calls lines (prepares_run asks run asked others here took) = refl
move_records home past local event calls lines (checks_sum is) = refl
move_records home past local event calls lines (settles_held {tid = tid} {decision = decision} {rest = rest} held doubt synced just) =
    synced_records (after_call site_frame (disk home past) (Append (Ended tid decision))) rest synced
    ∙ sym (appended_none rest (Ended tid decision ∷ records home past) (none_of_syncs rest synced))

-- what the answered line of a site that is up does
answered_step : (home : Home) (local : Tx → Bool) (past : SitePast) (event : SiteEvent) (x : SiteHappening) (h : IsHistory home local past)
    → IsGoodLine home past x → IsMove home past local event x → Step home past local (x.lines ++ engine_lines past) h.earlier x.calls
answered_step home local past event x h g m =
    move_step home past local event x.calls x.lines h
    (record {
      right = g.right;
      agrees = λ tid. subst (λ rs. Agrees (doubt_of rs tid) (run_at (epoch_start home past) (x.lines ++ engine_lines past) tid))
          (move_records home past local event x.calls x.lines m.moves) (g.agrees tid);
    })
    m.moves

next_whole : (home : Home) (local : Tx → Bool) (past : SitePast) (event : SiteEvent) (x : SiteHappening) → IsHistory home local past → IsGoodLine home past x
    → IsMove home past local event x → IsNextLine home local past x
next_whole home local past event x h g m = record {
  next = λ new. history_plain home local past x h g
      (whole_step home past local (x.lines ++ engine_lines past) x.calls h new (answered_step home local past event x h g m))
      (move_locals home past local event x.calls x.lines h m.moves);
}

-- a line that a stop ends
next_stopped : (home : Home) (local : Tx → Bool) (past : SitePast) (event : SiteEvent) (calls : List (Call SiteRecord)) → IsHistory home local past
    → (AreNew home past calls → AreBacked home past local calls) → EachAppend HasRisingWrites calls
    → IsNextLine home local past (stopped site_frame (disk home past) event calls)
unfolding stopped
next_stopped home local past event calls h b a = record {
  next = λ new. history_start home local past (stopped site_frame (disk home past) event calls) h refl (b new)
      (each_after site_frame HasRisingWrites (disk home past) calls h.kept.rising a);
}

-- the line, unless a trip comes within its calls
next_tripped : (home : Home) (local : Tx → Bool) (past : SitePast) (o : Option Trip) (x : SiteHappening) → IsHistory home local past
    → IsNextLine home local past x → EachAppend HasRisingWrites x.calls
    → ((n cut : ℕ) → AreNew home past (take n x.calls ++ Stops cut ∷ []) → AreBacked home past local (take n x.calls ++ Stops cut ∷ []))
    → IsNextLine home local past (tripped site_frame (disk home past) o x)
unfolding tripped
next_tripped home local past None x h whole a torn = whole
next_tripped home local past (Some t) x h whole a torn =
    next_when home local past (nat_le t.calls (length x.calls))
    (stopped site_frame (disk home past) x.event (take t.calls x.calls ++ Stops t.cut ∷ [])) x
    (next_stopped home local past x.event (take t.calls x.calls ++ Stops t.cut ∷ []) h (torn t.calls t.cut)
    (append_take HasRisingWrites t.calls x.calls (Stops t.cut ∷ []) a tt))
    whole

-- an answer alone
next_quiet : (home : Home) (local : Tx → Bool) (past : SitePast) (event : SiteEvent) → IsHistory home local past
    → IsNextLine home local past (record { event = event; answer = Say.Down; sends = []; calls = []; lines = [] })
next_quiet home local past event h =
    next_whole home local past event (record { event = event; answer = Say.Down; sends = []; calls = []; lines = [] }) h
    (still home past event Say.Down [] h.kept refl) (record { moves = rests })

next_up : (home : Home) (local : Tx → Bool) (past : SitePast) (event : SiteEvent) → IsHistory home local past → IsSorted local event
    → IsFresh home past event → is_back event ≡ false
    → IsNextLine home local past (when (is_down past) (record { event = event; answer = Say.Down; sends = []; calls = []; lines = [] })
    (unless_tripped home past (answered home past event)))
next_up home local past event h sorted fresh b =
    let x = answered home past event in
    let g = good_answered home past event h.kept fresh b in
    let m = move_answered home past local event h.kept sorted fresh b in
    next_when home local past (is_down past) (record { event = event; answer = Say.Down; sends = []; calls = []; lines = [] })
    (unless_tripped home past (answered home past event)) (next_quiet home local past event h)
    (next_tripped home local past (trip past) x h (next_whole home local past event x h g m) g.appends
    (λ n cut new. torn_step home past local (x.lines ++ engine_lines past) x.calls n cut h new (answered_step home local past event x h g m)))

-- a start of the site appends its Start record, behind a cut where the disk is torn
start_step : (home : Home) (local : Tx → Bool) (past : SitePast) (n : ℕ) (h : IsHistory home local past)
    → Step home past local (engine_lines past) h.earlier (Append (Start n) ∷ Sync ∷ [])
start_step home local past n h =
    appends tt (λ new. record {
      once = h.once;
      sorted = tt;
      backed = backed_start home (acts_at home past) (records home past) (epoch_start home past) (engine_lines past) h.earlier n h.now;
    })

no_prepares : (home : Home) (past : SitePast) (n : ℕ) → AreNew home past (Append (Start n) ∷ Sync ∷ [])
no_prepares home past n tid e = cc

behind_cut : (home : Home) (past : SitePast) (local : Tx → Bool) (calls : List (Call SiteRecord)) → AreBacked home past local calls
    → AreBacked home past local (CutBack ∷ calls)
behind_cut home past local calls b = record { once = b.once; sorted = b.sorted; all = b.all; last = b.last }

back_whole : (home : Home) (local : Tx → Bool) (past : SitePast) (torn : Bool) (n : ℕ) → IsHistory home local past
    → AreBacked home past local (cond torn (CutBack ∷ []) [] ++ Append (Start n) ∷ Sync ∷ [])
back_whole home local past true n h =
    behind_cut home past local (Append (Start n) ∷ Sync ∷ [])
    (whole_step home past local (engine_lines past) (Append (Start n) ∷ Sync ∷ []) h (no_prepares home past n) (start_step home local past n h)).backed
back_whole home local past false n h =
    (whole_step home past local (engine_lines past) (Append (Start n) ∷ Sync ∷ []) h (no_prepares home past n) (start_step home local past n h)).backed

back_torn : (home : Home) (local : Tx → Bool) (past : SitePast) (torn : Bool) (n k cut : ℕ) → IsHistory home local past
    → AreNew home past (take k (cond torn (CutBack ∷ []) [] ++ Append (Start n) ∷ Sync ∷ []) ++ Stops cut ∷ [])
    → AreBacked home past local (take k (cond torn (CutBack ∷ []) [] ++ Append (Start n) ∷ Sync ∷ []) ++ Stops cut ∷ [])
back_torn home local past true n zero cut h new = none_backed home past local cut h
back_torn home local past true n (suc k) cut h new =
    behind_cut home past local (take k (Append (Start n) ∷ Sync ∷ []) ++ Stops cut ∷ [])
    (torn_step home past local (engine_lines past) (Append (Start n) ∷ Sync ∷ []) k cut h new (start_step home local past n h))
back_torn home local past false n k cut h new =
    torn_step home past local (engine_lines past) (Append (Start n) ∷ Sync ∷ []) k cut h new (start_step home local past n h)

next_back : (home : Home) (local : Tx → Bool) (past : SitePast) → IsHistory home local past
    → IsNextLine home local past (unless_tripped home past (of_back home past))
unfolding of_back
next_back home local past h =
    let torn = is_torn site_frame (disk home past) in
    let n = epoch home past + 1 in
    let appends_rising = back_appends torn (Start n) tt in
    next_tripped home local past (trip past) (of_back home past) h
    (record {
      next = λ new. history_start home local past (of_back home past) h refl (back_whole home local past torn n h)
          (each_after site_frame HasRisingWrites (disk home past) (of_back home past).calls h.kept.rising appends_rising);
    })
    appends_rising (λ k cut new. back_torn home local past torn n k cut h new)

next_line : (home : Home) (local : Tx → Bool) (past : SitePast) (event : SiteEvent) → IsHistory home local past → IsSorted local event
    → IsNextLine home local past (site_line home past event)
unfolding site_line
next_line home local past (Ev.Trip calls cut) h sorted =
    next_whole home local past (Ev.Trip calls cut) (record { event = Ev.Trip calls cut; answer = Say.Set; sends = []; calls = []; lines = [] }) h
    (still home past (Ev.Trip calls cut) Say.Set [] h.kept refl) (record { moves = rests })
next_line home local past (Ev.Halt cut) h sorted =
    next_when home local past (is_down past) _ _ (next_quiet home local past (Ev.Halt cut) h)
    (next_stopped home local past (Ev.Halt cut) (Stops cut ∷ []) h (λ new. none_backed home past local cut h) tt)
next_line home local past Ev.Back h sorted =
    next_when home local past (is_down past) _ _ (next_back home local past h)
    (next_whole home local past Ev.Back (record { event = Ev.Back; answer = Say.Awake; sends = []; calls = []; lines = [] }) h
    (still home past Ev.Back Say.Awake [] h.kept refl) (record { moves = rests }))
next_line home local past (Ev.Begin tid) h sorted =
    next_up home local past (Ev.Begin tid) h sorted (no_local_doubt local (records home past) tid h.sorted sorted) refl
next_line home local past (Ev.Act tid act) h sorted = next_up home local past (Ev.Act tid act) h sorted tt refl
next_line home local past (Ev.Commit tid) h sorted = next_up home local past (Ev.Commit tid) h sorted tt refl
next_line home local past (Ev.Abort tid) h sorted = next_up home local past (Ev.Abort tid) h sorted tt refl
next_line home local past (Ev.Fate tx) h sorted = next_up home local past (Ev.Fate tx) h sorted tt refl
next_line home local past (Ev.Give message) h sorted = next_up home local past (Ev.Give message) h sorted tt refl
next_line home local past (Ev.Ask tid) h sorted = next_up home local past (Ev.Ask tid) h sorted tt refl
next_line home local past (Ev.Drop tid) h sorted = next_up home local past (Ev.Drop tid) h sorted tt refl
next_line home local past Ev.Check h sorted = next_up home local past Ev.Check h sorted tt refl

-- a site that was set up
history_first : (home : Home) (local : Tx → Bool) → IsHistory home local []
history_first home local = record {
  kept = kept_first home;
  once = tt;
  sorted = (tt, (tt, tt));
  locals = start_locals home local (records home []) (tt, (tt, tt));
  backed = (
    record {
      start = start_of home (records home []);
      lines = [];
      earlier = [];
      backed = backed_empty home (acts_at home []) (records home []) (λ tid. refl) refl refl;
    },
    (
      record {
        start = start_of home (Setup home.site home.engine home.protocol home.items ∷ []);
        lines = [];
        earlier = [];
        backed = backed_empty home (acts_at home []) (Setup home.site home.engine home.protocol home.items ∷ []) (λ tid. refl) refl refl;
      },
      record {
        start = start_of home [];
        lines = [];
        earlier = [];
        backed = backed_empty home (acts_at home []) [] (λ tid. refl) refl refl;
      },
    ),
  );
  earlier = [];
  now = backed_empty home (acts_at home []) (records home []) (λ tid. refl) refl refl;
}

pub history_past : (home : Home) (local : Tx → Bool) (events : List SiteEvent) → AreSorted local events
    → PreparesOnce home (site_past home events) → IsHistory home local (site_past home events)
history_past home local [] sorted once = history_first home local
history_past home local (event ∷ events) (now, before) (new, once) =
    (next_line home local (site_past home events) event (history_past home local events before once) now).next new
