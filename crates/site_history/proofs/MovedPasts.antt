-- What each move of a site, each stop and each start keeps holds in every past that sorted events make.
use Rattle.std.proofs.Common.{◌≡◌, ℕ, ◌||◌, Bool, true, false, cond, Option, Some, None, List, [], ◌∷◌, ◌++◌, take, refl, sym, subst}
use Rattle.std.specs.Prelude.{nat_le, length, ◌+◌}
use Rattle.mdb_base.specs.declared.names.Tx.{Tx}
use Rattle.mdb_base.specs.Words.{when}
use Rattle.fed_rules.specs.declared.answers.Answer.TheVariants as Say
use Rattle.fed_rules.specs.declared.events.SiteEvent.{SiteEvent}
use Rattle.fed_rules.specs.declared.events.SiteEvent.TheVariants as Ev
use Rattle.fed_rules.specs.declared.records.SiteRecord.{SiteRecord}
use Rattle.fed_rules.specs.declared.records.SiteRecord.TheVariants.{Start}
use Rattle.fed_rules.specs.Disk.{Append, Call, CutBack, Stops, Sync, after_calls, is_torn}
use Rattle.fed_rules.specs.EngineLines.{IsRight}
use Rattle.fed_rules.specs.Happenings.{Trip, is_down, stopped, tripped, stops, comes_up}
use Rattle.fed_rules.specs.Runs as Runs
use Rattle.fed_rules.specs.Runs.{EngineLine}
use Rattle.fed_rules.specs.Site.{answered, of_back, site_line, site_past, site_past_on, unless_tripped}
use Rattle.fed_rules.specs.SitePast.{SiteHappening, SitePast, disk, epoch, epoch_start, engine_lines, records, trip}
use Rattle.fed_rules.specs.SiteRecords.{Home, site_frame, start_of}
use Rattle.fed_rules.specs.Durable.{IsFrontOf}
use Rattle.site_history.specs.Events.{AreSorted, IsFresh, IsSorted}
use Rattle.site_history.proofs.Agreement.{IsGoodLine, still}
use Rattle.site_history.proofs.Backed.{appended, front_after}
use Rattle.site_history.proofs.Fronts.{HasNoStop, move_no_stop, stop_last, taken_front}
use Rattle.site_history.proofs.Histories.{no_local_doubt}
use Rattle.site_history.proofs.HistoryPasts.{move_records}
use Rattle.site_history.proofs.Moves.{IsMove, Moves, move_answered, rests}
use Rattle.site_history.proofs.RightLines.{good_answered, is_back}
use Rattle.site_history.proofs.WellKept.{IsWellKept, well_first, well_on}

-- All is said of the records alone, also of those behind the newest; Top of the records beside the engine's lines since the last start
pub record KeptByMoves (All : List SiteRecord → Type 0) (Top : List SiteRecord → Runs.Start → List EngineLine → Type 0) : Type 0 where
  pub first : (home : Home) → All (records home [])
  pub started : (rs : List SiteRecord) (n : ℕ) → All rs → All (Start n ∷ rs)
  pub behind : (newest : SiteRecord) (rs : List SiteRecord) → All (newest ∷ rs) → All rs
  pub afresh : (home : Home) (rs : List SiteRecord) → All rs → Top rs (start_of home rs) []
  pub all : (rs : List SiteRecord) (start : Runs.Start) (lines : List EngineLine) → Top rs start lines → All rs
  pub moved : (home : Home) (local : Tx → Bool) (past : SitePast) (event : SiteEvent) (calls : List (Call SiteRecord)) (lines : List EngineLine)
      → IsWellKept home local past → IsRight (epoch_start home past) (lines ++ engine_lines past) → Moves home past local event calls lines
      → Top (records home past) (epoch_start home past) (engine_lines past)
      → Top (appended calls (records home past)) (epoch_start home past) (lines ++ engine_lines past)

-- it holds of a past
pub record HoldsOf (Top : List SiteRecord → Runs.Start → List EngineLine → Type 0) (home : Home) (past : SitePast) : Type 0 where
  pub top : Top (records home past) (epoch_start home past) (engine_lines past)

module _ (All : List SiteRecord → Type 0) (Top : List SiteRecord → Runs.Start → List EngineLine → Type 0) (kept : KeptByMoves All Top) where
  front : (newer rs : List SiteRecord) → All (newer ++ rs) → All rs
  front [] rs all = all
  front (newest ∷ newer) rs all = front newer rs (kept.behind newest (newer ++ rs) all)

  front_of : (rs kept_ones : List SiteRecord) → IsFrontOf rs kept_ones → All rs → All kept_ones
  front_of rs kept_ones (newer, e) all = front newer kept_ones (subst All e all)

  -- behind a stop or a start
  anew : (home : Home) (past : SitePast) (x : SiteHappening) → (stops x.answer || comes_up x.answer) ≡ true
      → All (records home (x ∷ past)) → HoldsOf Top home (x ∷ past)
  anew home past x new all =
      let rs = records home (x ∷ past) in
      record {
        top = subst (λ t. Top rs (cond t (start_of home rs) (epoch_start home past)) (cond t [] (x.lines ++ engine_lines past))) (sym new) (kept.afresh home rs all);
      }

  -- a line that a stop ends in the midst of calls
  torn : (home : Home) (past : SitePast) (event : SiteEvent) (calls : List (Call SiteRecord)) (n cut : ℕ) → HasNoStop calls
      → All (appended calls (records home past))
      → HoldsOf Top home (stopped site_frame (disk home past) event (take n calls ++ Stops cut ∷ []) ∷ past)
  unfolding stopped
  torn home past event calls n cut plain all =
      anew home past (stopped site_frame (disk home past) event (take n calls ++ Stops cut ∷ [])) refl
      (front_of (appended (take n calls ++ Stops cut ∷ []) (records home past)) _
      (front_after site_frame (disk home past) (take n calls ++ Stops cut ∷ []) (stop_last n cut calls plain))
      (front_of (appended calls (records home past)) (appended (take n calls ++ Stops cut ∷ []) (records home past))
      (taken_front n cut calls (records home past)) all))

  of_either : (home : Home) (past : SitePast) (b : Bool) (x y : SiteHappening) → HoldsOf Top home (x ∷ past) → HoldsOf Top home (y ∷ past)
      → HoldsOf Top home (when b x y ∷ past)
  unfolding when
  of_either home past true x y p q = p
  of_either home past false x y p q = q

  of_tripped : (home : Home) (past : SitePast) (o : Option Trip) (x : SiteHappening) → HoldsOf Top home (x ∷ past) → HasNoStop x.calls
      → All (appended x.calls (records home past)) → HoldsOf Top home (tripped site_frame (disk home past) o x ∷ past)
  unfolding tripped
  of_tripped home past None x whole plain all = whole
  of_tripped home past (Some t) x whole plain all =
      of_either home past (nat_le t.calls (length x.calls))
      (stopped site_frame (disk home past) x.event (take t.calls x.calls ++ Stops t.cut ∷ [])) x
      (torn home past x.event x.calls t.calls t.cut plain all) whole

  top_moved : (home : Home) (local : Tx → Bool) (past : SitePast) (event : SiteEvent) (x : SiteHappening) → IsWellKept home local past → HoldsOf Top home past
      → IsGoodLine home past x → IsMove home past local event x → Top (appended x.calls (records home past)) (epoch_start home past) (x.lines ++ engine_lines past)
  top_moved home local past event x well h g m = kept.moved home local past event x.calls x.lines well g.right m.moves h.top

  of_move : (home : Home) (local : Tx → Bool) (past : SitePast) (event : SiteEvent) (x : SiteHappening) → IsWellKept home local past → HoldsOf Top home past
      → IsGoodLine home past x → IsMove home past local event x → HoldsOf Top home (x ∷ past)
  of_move home local past event x well h g m =
      let rs = records home (x ∷ past) in
      let top = subst (λ ks. Top ks (epoch_start home past) (x.lines ++ engine_lines past)) (sym (move_records home past local event x.calls x.lines m.moves))
      (top_moved home local past event x well h g m) in
      record { top = subst (λ t. Top rs (cond t (start_of home rs) (epoch_start home past)) (cond t [] (x.lines ++ engine_lines past))) (sym g.plain) top }

  -- a line of no call and no engine line
  of_rest : (home : Home) (local : Tx → Bool) (past : SitePast) (event : SiteEvent) → IsWellKept home local past → HoldsOf Top home past
      → HoldsOf Top home (record { event = event; answer = Say.Down; sends = []; calls = []; lines = [] } ∷ past)
  of_rest home local past event well h =
      of_move home local past event (record { event = event; answer = Say.Down; sends = []; calls = []; lines = [] }) well h
      (still home past event Say.Down [] well.kept refl) (record { moves = rests })

  while_up : (home : Home) (local : Tx → Bool) (past : SitePast) (event : SiteEvent) → IsWellKept home local past → HoldsOf Top home past → IsSorted local event
      → IsFresh home past event → is_back event ≡ false
      → HoldsOf Top home (when (is_down past) (record { event = event; answer = Say.Down; sends = []; calls = []; lines = [] })
      (unless_tripped home past (answered home past event)) ∷ past)
  while_up home local past event well h sorted fresh b =
      let x = answered home past event in
      let g = good_answered home past event well.kept fresh b in
      let m = move_answered home past local event well.kept sorted fresh b in
      of_either home past (is_down past) (record { event = event; answer = Say.Down; sends = []; calls = []; lines = [] })
      (unless_tripped home past (answered home past event)) (of_rest home local past event well h)
      (of_tripped home past (trip past) x (of_move home local past event x well h g m) (move_no_stop home past local event x.calls x.lines m.moves)
      (kept.all (appended x.calls (records home past)) (epoch_start home past) (x.lines ++ engine_lines past) (top_moved home local past event x well h g m)))

  of_start : (home : Home) (past : SitePast) → HoldsOf Top home past → HoldsOf Top home (unless_tripped home past (of_back home past) ∷ past)
  unfolding of_back
  of_start home past h =
      of_tripped home past (trip past) (of_back home past)
      (anew home past (of_back home past) refl (by_torn (is_torn site_frame (disk home past))))
      (no_stop (is_torn site_frame (disk home past))) (with_start (is_torn site_frame (disk home past)))
    where
      all : All (Start (epoch home past + 1) ∷ records home past)
      all = kept.started (records home past) (epoch home past + 1) (kept.all (records home past) (epoch_start home past) (engine_lines past) h.top)

      by_torn : (b : Bool) → All (after_calls site_frame (disk home past) (cond b (CutBack ∷ []) [] ++ Append (Start (epoch home past + 1)) ∷ Sync ∷ [])).records
      by_torn true = all
      by_torn false = all

      no_stop : (b : Bool) → HasNoStop (cond b (CutBack ∷ []) [] ++ Append (Start (epoch home past + 1)) ∷ Sync ∷ [])
      no_stop true = tt
      no_stop false = tt

      with_start : (b : Bool) → All (appended (cond b (CutBack ∷ []) [] ++ Append (Start (epoch home past + 1)) ∷ Sync ∷ []) (records home past))
      with_start true = all
      with_start false = all

  of_line : (home : Home) (local : Tx → Bool) (past : SitePast) (event : SiteEvent) → IsWellKept home local past → HoldsOf Top home past → IsSorted local event
      → HoldsOf Top home (site_line home past event ∷ past)
  unfolding site_line
  of_line home local past (Ev.Trip calls cut) well h sorted =
      of_move home local past (Ev.Trip calls cut) (record { event = Ev.Trip calls cut; answer = Say.Set; sends = []; calls = []; lines = [] }) well h
      (still home past (Ev.Trip calls cut) Say.Set [] well.kept refl) (record { moves = rests })
  of_line home local past (Ev.Halt cut) well h sorted =
      of_either home past (is_down past) _ _ (of_rest home local past (Ev.Halt cut) well h)
      (torn home past (Ev.Halt cut) [] 0 cut tt (kept.all (records home past) (epoch_start home past) (engine_lines past) h.top))
  of_line home local past Ev.Back well h sorted =
      of_either home past (is_down past) _ _ (of_start home past h)
      (of_move home local past Ev.Back (record { event = Ev.Back; answer = Say.Awake; sends = []; calls = []; lines = [] }) well h
      (still home past Ev.Back Say.Awake [] well.kept refl) (record { moves = rests }))
  of_line home local past (Ev.Begin tid) well h sorted =
      while_up home local past (Ev.Begin tid) well h sorted (no_local_doubt local (records home past) tid well.sorted sorted) refl
  of_line home local past (Ev.Act tid act) well h sorted = while_up home local past (Ev.Act tid act) well h sorted tt refl
  of_line home local past (Ev.Commit tid) well h sorted = while_up home local past (Ev.Commit tid) well h sorted tt refl
  of_line home local past (Ev.Abort tid) well h sorted = while_up home local past (Ev.Abort tid) well h sorted tt refl
  of_line home local past (Ev.Fate tx) well h sorted = while_up home local past (Ev.Fate tx) well h sorted tt refl
  of_line home local past (Ev.Give message) well h sorted = while_up home local past (Ev.Give message) well h sorted tt refl
  of_line home local past (Ev.Ask tid) well h sorted = while_up home local past (Ev.Ask tid) well h sorted tt refl
  of_line home local past (Ev.Drop tid) well h sorted = while_up home local past (Ev.Drop tid) well h sorted tt refl
  of_line home local past Ev.Check well h sorted = while_up home local past Ev.Check well h sorted tt refl

  -- behind any past that is well kept and of which it holds
  pub moves_keep_on : (home : Home) (local : Tx → Bool) (first : SitePast) → IsWellKept home local first → HoldsOf Top home first → (events : List SiteEvent)
      → AreSorted local events → HoldsOf Top home (site_past_on home first events)
  moves_keep_on home local first well h [] sorted = h
  moves_keep_on home local first well h (event ∷ events) (now, before) =
      of_line home local (site_past_on home first events) event (well_on home local first well events before) (moves_keep_on home local first well h events before) now

  pub moves_keep : (home : Home) (local : Tx → Bool) (events : List SiteEvent) → AreSorted local events → HoldsOf Top home (site_past home events)
  moves_keep home local events sorted =
      moves_keep_on home local [] (well_first home local) (record { top = kept.afresh home (records home []) (kept.first home) }) events sorted
