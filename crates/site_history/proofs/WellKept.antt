-- In every past that sorted events make, whether or not an attempt is prepared twice, each epoch starts well, and so would one from whatever
-- a stop may leave of the records.
use Rattle.std.proofs.Common.{◌≡◌, ℕ, inl, inr, ◌≤◌, Bool, true, false, cond, ◌||◌, Option, Some, None, List, [], ◌∷◌, ◌++◌, take, map, refl, sym, ap, ◌∙◌, subst, arith}
use Rattle.std.specs.Prelude.{nat_le, length, ◌+◌, max}
use Rattle.mdb_base.specs.declared.names.Tid.{Tid}
use Rattle.mdb_base.specs.declared.names.Tx.{Tx}
use Rattle.mdb_base.specs.Words.{Each, when, or_else}
use Rattle.mdb_base.proofs.ForCallers.{each_map}
use Rattle.presumptions.specs.declared.Decision.{Decision}
use Rattle.presumptions.specs.declared.Decision.TheVariants as Decided
use Rattle.fed_rules.specs.declared.answers.Answer.TheVariants as Say
use Rattle.fed_rules.specs.declared.events.SiteEvent.{SiteEvent}
use Rattle.fed_rules.specs.declared.events.SiteEvent.TheVariants as Ev
use Rattle.fed_rules.specs.declared.records.SiteRecord.{SiteRecord}
use Rattle.fed_rules.specs.declared.records.SiteRecord.TheVariants as Rec
use Rattle.fed_rules.specs.Disk.{Append, Call, CutBack, Stops, Sync, after_calls, is_torn}
use Rattle.fed_rules.specs.EngineLines.{AllApart, IsNumbered, IsRight, IsStart}
use Rattle.fed_rules.specs.Happenings.{Trip, comes_up, is_down, stopped, stops, tripped}
use Rattle.fed_rules.specs.Runs as Runs
use Rattle.fed_rules.specs.Runs.{EngineLine, Begins, Acts, Seals, Commits, Aborts, Run, begun, changed, published, rows, run_at, tid_of, ticket_of}
use Rattle.fed_rules.specs.Site.{answered, next_number, number_of, of_back, settling_line, site_line, site_past, site_past_on, unless_tripped}
use Rattle.fed_rules.specs.SitePast.{SiteHappening, SitePast, disk, engine_lines, epoch, epoch_start, records, trip}
use Rattle.fed_rules.specs.SiteRecords.{Home, doubt_of, doubts, kept_held, last_number, last_ticket, site_frame, start_of, ticket_owner}
use Rattle.fed_rules.specs.Usable.{OfFronts}
use Rattle.engine_laws.specs.Laws.{IsLeft}
use Rattle.engine_laws.proofs.ForCallers.{always_may_restart, at_line, doubt_tid, each_doubt, once_doubts, rows_of_table}
use Rattle.fed_rules.specs.Durable.{IsFrontOf}
use Rattle.site_history.specs.Events.{AreSorted, IsFresh, IsSorted}
use Rattle.site_history.specs.Lines.{Agrees}
use Rattle.site_history.specs.SiteOrders.{HasGoodStarts, OfSortedEvents}
use Rattle.site_history.proofs.Agreement.{IsGoodLine, IsKept, kept_good, kept_start, still}
use Rattle.fed_rules.proofs.ForCallers.{front_of_front}
use Rattle.site_history.proofs.Backed.{appended, each_front, front_after}
use Rattle.site_history.proofs.Fronts.{HasNoStop, fronts_of_front, move_no_stop, stop_last, taken_front, whole_of_fronts}
use Rattle.site_history.proofs.Histories.{IsSortedRecord, no_local_doubt}
use Rattle.site_history.proofs.HistoryMoves.{calm_published, calm_ticket, synced_append}
use Rattle.site_history.proofs.HistoryPasts.{move_records}
use Rattle.site_history.proofs.Moves.{IsMove, Moves, begins_local, begins_work, checks_sum, commits_local, goes_on, move_answered, prepares_run, rests, settles_held}
use Rattle.site_history.proofs.Records.{doubt_number}
use Rattle.site_history.proofs.Restarts.{left_sealed}
use Rattle.site_history.proofs.RightLines.{good_answered, is_back, kept_first}
use Rattle.site_history.proofs.Starts.{EachAppend, HasRisingWrites, append_take, each_after, restored_doubt, restored_held}

-- an epoch may start from these records
abbrev pub StartsWell : Home → List SiteRecord → Type 0
StartsWell home records = IsStart (start_of home records)

-- the unended runs of local transactions have no ticket
abbrev pub AreTicketless : (Tx → Bool) → Runs.Start → List EngineLine → Type 0
AreTicketless local start lines = (tid : Tid) (run : Run) → run_at start lines tid ≡ Some run → local tid.tx ≡ true → run.ticket ≡ None

-- what is known of the past
pub record IsWellKept (home : Home) (local : Tx → Bool) (past : SitePast) : Type 0 where
  pub kept : IsKept home past
  pub sorted : Each (IsSortedRecord local) (records home past)
  pub ticketless : AreTicketless local (epoch_start home past) (engine_lines past)
  pub starts : OfFronts (StartsWell home) (records home past)
  pub started : IsStart (epoch_start home past)
  pub published : published (epoch_start home past) (engine_lines past) ≤ last_ticket (records home past)

-- these records make a good start behind right lines whose sealed runs are in doubt by them
good_start : (home : Home) (rs : List SiteRecord) (start : Runs.Start) (lines : List EngineLine) → IsStart start → IsRight start lines
    → ((tid : Tid) → Agrees (doubt_of rs tid) (run_at start lines tid)) → published start lines ≤ last_ticket rs → StartsWell home rs
good_start home rs start lines good right agrees fits = record {
  numbered = each_map (IsNumbered next) (IsNumbered (start_of home rs))
      (λ kept is. record { number_some = is.number_some; number_kept = is.number_kept; ticket_some = is.ticket_some; ticket_kept = is.ticket_kept })
      (map kept_held (doubts rs)) may.numbered;
  apart = may.apart;
}
  where
    next : Runs.Start
    next = record {
      kind = start.kind;
      rows = rows start lines;
      doubtful = map kept_held (doubts rs);
      counter = last_number rs;
      published = last_ticket rs;
      owner = ticket_owner rs;
    }

    may : IsStart (record {
      kind = start.kind;
      rows = rows start lines;
      doubtful = map kept_held (doubts rs);
      counter = last_number rs;
      published = last_ticket rs;
      owner = ticket_owner rs;
    })
    may = (always_may_restart start lines good right next (record {
      kind = refl;
      rows = (rows_of_table start lines).values;
      left = each_doubt (IsLeft start lines) rs
          (λ tid held e. left_sealed start lines tid held (run_at start lines tid) (doubt_tid rs tid held e) refl
          (subst (λ o. Agrees o (run_at start lines tid)) e (agrees tid)));
      once = once_doubts rs;
      counter = each_doubt (λ kept. kept.number ≤ last_number rs) rs (λ tid held e. doubt_number rs tid held e);
      published = fits;
    })).0

-- of one more line: what holds of the others, and of the line's own run
ticketless_line : (local : Tx → Bool) (start : Runs.Start) (lines : List EngineLine) (line : EngineLine) → AreTicketless local start lines
    → ((run : Run) → changed line (run_at start lines (tid_of line)) ≡ Some run → local (tid_of line).tx ≡ true → run.ticket ≡ None)
    → AreTicketless local start (line ∷ lines)
ticketless_line local start lines line before mine tid run e is = elim (at_line start lines line tid run e) [
  | inl (apart, was) ↦ before tid run was is
  | inr (same, own) ↦ mine run own (ap (λ t. local t.tx) same ∙ is)
]

-- an attempt of another transaction owes nothing
others_line : (local : Tx → Bool) (start : Runs.Start) (lines : List EngineLine) (line : EngineLine) → AreTicketless local start lines
    → local (tid_of line).tx ≡ false → AreTicketless local start (line ∷ lines)
others_line local start lines line before others =
    ticketless_line local start lines line before (λ run e is. let clash = sym is ∙ others in cc)

sealed_ticket : (n : ℕ) (o : Option Run) (run now : Run) → o ≡ Some run → changed (Seals run.tid n) o ≡ Some now → now.ticket ≡ run.ticket
sealed_ticket n None run now is e = cc
sealed_ticket n (Some r) run now is e =
    let one : r ≡ run = cc in
    let same : record r { sealed = Some n } ≡ now = cc in
    ap (λ x. x.ticket) (sym same) ∙ ap (λ x. x.ticket) one

-- what is known of the records and the lines behind a line that neither stops the site nor brings it up
record IsMoved (home : Home) (local : Tx → Bool) (start : Runs.Start) (rs : List SiteRecord) (lines : List EngineLine) : Type 0 where
  sorted : Each (IsSortedRecord local) rs
  ticketless : AreTicketless local start lines
  published : published start lines ≤ last_ticket rs

local_sealed : (local : Tx → Bool) (start : Runs.Start) (lines : List EngineLine) (tid : Tid) (n : ℕ) (run : Run) → AreTicketless local start lines
    → run_at start lines tid ≡ Some run → local tid.tx ≡ true → AreTicketless local start (Seals tid n ∷ lines)
local_sealed local start lines tid n run before at mine =
    ticketless_line local start lines (Seals tid n) before
    (λ now e is. sealed_ticket n (run_at start lines tid) run now at e ∙ before tid run at mine)

moved : (home : Home) (past : SitePast) (local : Tx → Bool) (event : SiteEvent) (calls : List (Call SiteRecord)) (lines : List EngineLine)
    → IsWellKept home local past → Moves home past local event calls lines
    → IsMoved home local (epoch_start home past) (appended calls (records home past)) (lines ++ engine_lines past)
moved home past local event calls lines w rests = record { sorted = w.sorted; ticketless = w.ticketless; published = w.published }
moved home past local event calls lines w (begins_local {tid = tid} mine free none) = record {
  sorted = w.sorted;
  ticketless = ticketless_line local (epoch_start home past) (engine_lines past) (Begins tid (next_number home past)) w.ticketless
      (λ run e is. let same : begun tid (next_number home past) ≡ run = cc in ap (λ r. r.ticket) (sym same));
  published = w.published;
}
moved home past local event calls lines w (begins_work {tid = tid} {act = act} {reply = reply} others none fresh) = record {
  sorted = w.sorted;
  ticketless = others_line local (epoch_start home past) (Begins tid (next_number home past) ∷ engine_lines past) (Acts tid act reply)
      (others_line local (epoch_start home past) (engine_lines past) (Begins tid (next_number home past)) w.ticketless others) others;
  published = w.published;
}
moved home past local event calls lines w (goes_on {line = line} run here calm) = record {
  sorted = w.sorted;
  ticketless = ticketless_line local (epoch_start home past) (engine_lines past) line w.ticketless
      (λ now e is. calm_ticket local line run now calm is (sym (ap (changed line) here.live.0) ∙ e) ∙ w.ticketless (tid_of line) run here.live.0 is);
  published = subst (λ n. n ≤ last_ticket (records home past)) (sym (calm_published local (epoch_start home past) (engine_lines past) line calm)) w.published;
}
moved home past local event calls lines w (commits_local {tid = tid} run mine here) = record {
  sorted = (mine, w.sorted);
  ticketless = ticketless_line local start (Seals tid n ∷ engine_lines past) (Commits tid)
      (local_sealed local start (engine_lines past) tid n run w.ticketless here.live.0 mine) (λ now e is. cc);
  published = subst (λ o. max (ticket_of o) (published start (engine_lines past)) ≤ last_ticket (records home past)) (sym here.live.0)
      (subst (λ o. max (or_else o 0) (published start (engine_lines past)) ≤ last_ticket (records home past)) (sym (w.ticketless tid run here.live.0 mine))
      (let x = w.published in omega arith));
}
  where
    start : Runs.Start
    start = epoch_start home past

    n : ℕ
    n = number_of home past run
moved home past local event calls lines w (prepares_run {tid = tid} {ticket = ticket} asks run asked others here took) = record {
  sorted = (others, w.sorted);
  ticketless = others_line local (epoch_start home past) (engine_lines past) (Seals tid (number_of home past run)) w.ticketless others;
  published = subst (λ o. max (ticket_of o) (published (epoch_start home past) (engine_lines past)) ≤ max ticket (last_ticket (records home past))) (sym here.live.0)
      (subst (λ o. max (or_else o 0) (published (epoch_start home past) (engine_lines past)) ≤ max ticket (last_ticket (records home past))) (sym took)
      (let x = w.published in omega arith));
}
moved home past local event calls lines w (checks_sum is) = record { sorted = (tt, w.sorted); ticketless = w.ticketless; published = w.published }
moved home past local event calls lines w (settles_held {tid = tid} {decision = decision} {rest = rest} held doubt synced just) =
    subst (λ rs. IsMoved home local (epoch_start home past) rs (settling_line tid decision ∷ engine_lines past))
    (sym (synced_append rest (Rec.Ended tid decision ∷ records home past) synced)) (by_decision decision)
  where
    by_decision : (d : Decision) → IsMoved home local (epoch_start home past) (Rec.Ended tid d ∷ records home past) (settling_line tid d ∷ engine_lines past)
    by_decision Decided.Commit = record {
      sorted = (tt, w.sorted);
      ticketless = ticketless_line local (epoch_start home past) (engine_lines past) (Commits tid) w.ticketless (λ now e is. cc);
      published = w.published;
    }
    by_decision Decided.Abort = record {
      sorted = (tt, w.sorted);
      ticketless = ticketless_line local (epoch_start home past) (engine_lines past) (Aborts tid) w.ticketless (λ now e is. cc);
      published = w.published;
    }

-- a line appends one record at most
fronts_appended : (P : List SiteRecord → Type 0) (home : Home) (past : SitePast) (local : Tx → Bool) (event : SiteEvent) (calls : List (Call SiteRecord))
    (lines : List EngineLine) → Moves home past local event calls lines → OfFronts P (records home past) → P (appended calls (records home past))
    → OfFronts P (appended calls (records home past))
fronts_appended P home past local event calls lines rests all now = all
fronts_appended P home past local event calls lines (begins_local mine free none) all now = all
fronts_appended P home past local event calls lines (begins_work others none fresh) all now = all
fronts_appended P home past local event calls lines (goes_on run here calm) all now = all
fronts_appended P home past local event calls lines (commits_local run mine here) all now = (now, all)
fronts_appended P home past local event calls lines (prepares_run n run asked others here took) all now = (now, all)
fronts_appended P home past local event calls lines (checks_sum is) all now = (now, all)
fronts_appended P home past local event calls lines (settles_held {tid = tid} {decision = decision} {rest = rest} held doubt synced just) all now =
    let e = synced_append rest (Rec.Ended tid decision ∷ records home past) synced in
    subst (OfFronts P) (sym e) (subst P e now, all)

-- whatever a stop leaves of them starts well
all_start : (home : Home) (local : Tx → Bool) (past : SitePast) (event : SiteEvent) (x : SiteHappening) → IsWellKept home local past → IsGoodLine home past x
    → IsMove home past local event x → OfFronts (StartsWell home) (appended x.calls (records home past))
all_start home local past event x w g m =
    let now = appended x.calls (records home past) in
    let lines = x.lines ++ engine_lines past in
    fronts_appended (StartsWell home) home past local event x.calls x.lines m.moves w.starts
    (good_start home now (epoch_start home past) lines w.started g.right
    (λ tid. subst (λ rs. Agrees (doubt_of rs tid) (run_at (epoch_start home past) lines tid)) (move_records home past local event x.calls x.lines m.moves) (g.agrees tid))
    (moved home past local event x.calls x.lines w m.moves).published)

-- a line that neither stops the site nor brings it up
whole_line : (home : Home) (local : Tx → Bool) (past : SitePast) (event : SiteEvent) (x : SiteHappening) → IsWellKept home local past → IsGoodLine home past x
    → IsMove home past local event x → IsWellKept home local (x ∷ past)
whole_line home local past event x w g m =
    let rs = records home (x ∷ past) in
    let old = epoch_start home past in
    let lines = x.lines ++ engine_lines past in
    let now = moved home past local event x.calls x.lines w m.moves in
    let same = sym (move_records home past local event x.calls x.lines m.moves) in
    record {
      kept = kept_good home past x w.kept g;
      sorted = subst (Each (IsSortedRecord local)) same now.sorted;
      ticketless = subst (λ t. AreTicketless local (cond t (start_of home rs) old) (cond t [] lines)) (sym g.plain) now.ticketless;
      starts = subst (OfFronts (StartsWell home)) same (all_start home local past event x w g m);
      started = subst (λ t. IsStart (cond t (start_of home rs) old)) (sym g.plain) w.started;
      published = subst (λ t. published (cond t (start_of home rs) old) (cond t [] lines) ≤ last_ticket rs) (sym g.plain)
          (subst (λ ks. published old lines ≤ last_ticket ks) same now.published);
    }

-- a restored run isn't of a local transaction
restored_ticketless : (home : Home) (local : Tx → Bool) (rs : List SiteRecord) → Each (IsSortedRecord local) rs → AreTicketless local (start_of home rs) []
restored_ticketless home local rs sorted tid run at mine =
    let none : restored_held (doubt_of rs tid) ≡ None = ap restored_held (no_local_doubt local rs tid sorted mine) in
    let is : restored_held (doubt_of rs tid) ≡ Some run = sym (restored_doubt rs tid) ∙ at in cc

-- a line that stops the site or brings it up
pub anew : (home : Home) (local : Tx → Bool) (past : SitePast) (x : SiteHappening) → (stops x.answer || comes_up x.answer) ≡ true
    → Each HasRisingWrites (records home (x ∷ past)) → Each (IsSortedRecord local) (records home (x ∷ past))
    → OfFronts (StartsWell home) (records home (x ∷ past)) → IsWellKept home local (x ∷ past)
anew home local past x new rising sorted starts =
    let rs = records home (x ∷ past) in
    let old = epoch_start home past in
    let lines = x.lines ++ engine_lines past in
    record {
      kept = kept_start home past x new rising;
      sorted = sorted;
      ticketless = subst (λ t. AreTicketless local (cond t (start_of home rs) old) (cond t [] lines)) (sym new) (restored_ticketless home local rs sorted);
      starts = starts;
      started = subst (λ t. IsStart (cond t (start_of home rs) old)) (sym new) (whole_of_fronts (StartsWell home) rs starts);
      published = subst (λ t. published (cond t (start_of home rs) old) (cond t [] lines) ≤ last_ticket rs) (sym new) (omega arith);
    }

sorted_front : (P : SiteRecord → Type 0) (records kept : List SiteRecord) → IsFrontOf records kept → Each P records → Each P kept
sorted_front P records kept (newer, e) h = each_front P newer kept (subst (Each P) e h)

-- a line that a stop ends in the midst of calls
torn : (home : Home) (local : Tx → Bool) (past : SitePast) (event : SiteEvent) (calls : List (Call SiteRecord)) (n cut : ℕ) → HasNoStop calls → IsKept home past
    → EachAppend HasRisingWrites calls → Each (IsSortedRecord local) (appended calls (records home past))
    → OfFronts (StartsWell home) (appended calls (records home past))
    → IsWellKept home local (stopped site_frame (disk home past) event (take n calls ++ Stops cut ∷ []) ∷ past)
unfolding stopped
torn home local past event calls n cut plain k rising sorted starts =
    let short = take n calls ++ Stops cut ∷ [] in
    let front : IsFrontOf (appended calls (records home past)) (after_calls site_frame (disk home past) (take n calls ++ Stops cut ∷ [])).records =
    front_of_front (appended calls (records home past)) (appended short (records home past)) (after_calls site_frame (disk home past) short).records
    (taken_front n cut calls (records home past)) (front_after site_frame (disk home past) short (stop_last n cut calls plain)) in
    anew home local past (stopped site_frame (disk home past) event (take n calls ++ Stops cut ∷ [])) refl
    (each_after site_frame HasRisingWrites (disk home past) short k.rising (append_take HasRisingWrites n calls (Stops cut ∷ []) rising tt))
    (sorted_front (IsSortedRecord local) _ _ front sorted)
    (fronts_of_front (StartsWell home) _ _ front starts)

well_when : (home : Home) (local : Tx → Bool) (past : SitePast) (b : Bool) (x y : SiteHappening) → IsWellKept home local (x ∷ past)
    → IsWellKept home local (y ∷ past) → IsWellKept home local (when b x y ∷ past)
unfolding when
well_when home local past true x y p q = p
well_when home local past false x y p q = q

-- the line, unless a trip comes within its calls
well_tripped : (home : Home) (local : Tx → Bool) (past : SitePast) (o : Option Trip) (x : SiteHappening) → IsKept home past → IsWellKept home local (x ∷ past)
    → HasNoStop x.calls → EachAppend HasRisingWrites x.calls → Each (IsSortedRecord local) (appended x.calls (records home past))
    → OfFronts (StartsWell home) (appended x.calls (records home past))
    → IsWellKept home local (tripped site_frame (disk home past) o x ∷ past)
unfolding tripped
well_tripped home local past None x k whole plain rising sorted starts = whole
well_tripped home local past (Some t) x k whole plain rising sorted starts =
    well_when home local past (nat_le t.calls (length x.calls))
    (stopped site_frame (disk home past) x.event (take t.calls x.calls ++ Stops t.cut ∷ [])) x
    (torn home local past x.event x.calls t.calls t.cut plain k rising sorted starts) whole

quiet_line : (home : Home) (local : Tx → Bool) (past : SitePast) (event : SiteEvent) → IsWellKept home local past
    → IsWellKept home local (record { event = event; answer = Say.Down; sends = []; calls = []; lines = [] } ∷ past)
quiet_line home local past event w =
    whole_line home local past event (record { event = event; answer = Say.Down; sends = []; calls = []; lines = [] }) w
    (still home past event Say.Down [] w.kept refl) (record { moves = rests })

up : (home : Home) (local : Tx → Bool) (past : SitePast) (event : SiteEvent) → IsWellKept home local past → IsSorted local event → IsFresh home past event
    → is_back event ≡ false
    → IsWellKept home local (when (is_down past) (record { event = event; answer = Say.Down; sends = []; calls = []; lines = [] })
    (unless_tripped home past (answered home past event)) ∷ past)
up home local past event w sorted fresh b =
    let x = answered home past event in
    let g = good_answered home past event w.kept fresh b in
    let m = move_answered home past local event w.kept sorted fresh b in
    well_when home local past (is_down past) (record { event = event; answer = Say.Down; sends = []; calls = []; lines = [] })
    (unless_tripped home past (answered home past event)) (quiet_line home local past event w)
    (well_tripped home local past (trip past) x w.kept (whole_line home local past event x w g m) (move_no_stop home past local event x.calls x.lines m.moves) g.appends
    (moved home past local event x.calls x.lines w m.moves).sorted (all_start home local past event x w g m))

-- a start behind a start says the same of who is in doubt
start_again : (home : Home) (rs : List SiteRecord) (n : ℕ) → StartsWell home rs → StartsWell home (Rec.Start n ∷ rs)
start_again home rs n s = record {
  numbered = each_map (IsNumbered (start_of home rs)) (IsNumbered (start_of home (Rec.Start n ∷ rs)))
      (λ kept is. record { number_some = is.number_some; number_kept = is.number_kept; ticket_some = is.ticket_some; ticket_kept = is.ticket_kept })
      (map kept_held (doubts rs)) s.numbered;
  apart = s.apart;
}

back_line : (home : Home) (local : Tx → Bool) (past : SitePast) → IsWellKept home local past
    → IsWellKept home local (unless_tripped home past (of_back home past) ∷ past)
unfolding of_back
back_line home local past w =
    well_tripped home local past (trip past) (of_back home past) w.kept
    (anew home local past (of_back home past) refl (each_after site_frame HasRisingWrites (disk home past) (of_back home past).calls w.kept.rising rising)
    (kept_sorted (is_torn site_frame (disk home past))) (kept_starts (is_torn site_frame (disk home past))))
    (no_stop (is_torn site_frame (disk home past))) rising
    (with_sorted (is_torn site_frame (disk home past))) (with_start (is_torn site_frame (disk home past)))
  where
    n : ℕ
    n = epoch home past + 1

    starts : OfFronts (StartsWell home) (Rec.Start (epoch home past + 1) ∷ records home past)
    starts = (start_again home (records home past) (epoch home past + 1) (whole_of_fronts (StartsWell home) (records home past) w.starts), w.starts)

    by_rising : (b : Bool) → EachAppend HasRisingWrites (cond b (CutBack ∷ []) [] ++ Append (Rec.Start (epoch home past + 1)) ∷ Sync ∷ [])
    by_rising true = (tt, tt)
    by_rising false = (tt, tt)

    rising : EachAppend HasRisingWrites (cond (is_torn site_frame (disk home past)) (CutBack ∷ []) [] ++ Append (Rec.Start (epoch home past + 1)) ∷ Sync ∷ [])
    rising = by_rising (is_torn site_frame (disk home past))

    kept_sorted : (b : Bool) → Each (IsSortedRecord local) (after_calls site_frame (disk home past) (cond b (CutBack ∷ []) [] ++ Append (Rec.Start (epoch home past + 1)) ∷ Sync ∷ [])).records
    kept_sorted true = (tt, w.sorted)
    kept_sorted false = (tt, w.sorted)

    kept_starts : (b : Bool) → OfFronts (StartsWell home) (after_calls site_frame (disk home past) (cond b (CutBack ∷ []) [] ++ Append (Rec.Start (epoch home past + 1)) ∷ Sync ∷ [])).records
    kept_starts true = starts
    kept_starts false = starts

    no_stop : (b : Bool) → HasNoStop (cond b (CutBack ∷ []) [] ++ Append (Rec.Start (epoch home past + 1)) ∷ Sync ∷ [])
    no_stop true = tt
    no_stop false = tt

    with_sorted : (b : Bool) → Each (IsSortedRecord local) (appended (cond b (CutBack ∷ []) [] ++ Append (Rec.Start (epoch home past + 1)) ∷ Sync ∷ []) (records home past))
    with_sorted true = (tt, w.sorted)
    with_sorted false = (tt, w.sorted)

    with_start : (b : Bool) → OfFronts (StartsWell home) (appended (cond b (CutBack ∷ []) [] ++ Append (Rec.Start (epoch home past + 1)) ∷ Sync ∷ []) (records home past))
    with_start true = starts
    with_start false = starts

next_line : (home : Home) (local : Tx → Bool) (past : SitePast) (event : SiteEvent) → IsWellKept home local past → IsSorted local event
    → IsWellKept home local (site_line home past event ∷ past)
unfolding site_line
next_line home local past (Ev.Trip calls cut) w sorted =
    whole_line home local past (Ev.Trip calls cut) (record { event = Ev.Trip calls cut; answer = Say.Set; sends = []; calls = []; lines = [] }) w
    (still home past (Ev.Trip calls cut) Say.Set [] w.kept refl) (record { moves = rests })
next_line home local past (Ev.Halt cut) w sorted =
    well_when home local past (is_down past) _ _ (quiet_line home local past (Ev.Halt cut) w)
    (torn home local past (Ev.Halt cut) [] 0 cut tt w.kept tt w.sorted w.starts)
next_line home local past Ev.Back w sorted =
    well_when home local past (is_down past) _ _ (back_line home local past w)
    (whole_line home local past Ev.Back (record { event = Ev.Back; answer = Say.Awake; sends = []; calls = []; lines = [] }) w
    (still home past Ev.Back Say.Awake [] w.kept refl) (record { moves = rests }))
next_line home local past (Ev.Begin tid) w sorted =
    up home local past (Ev.Begin tid) w sorted (no_local_doubt local (records home past) tid w.sorted sorted) refl
next_line home local past (Ev.Act tid act) w sorted = up home local past (Ev.Act tid act) w sorted tt refl
next_line home local past (Ev.Commit tid) w sorted = up home local past (Ev.Commit tid) w sorted tt refl
next_line home local past (Ev.Abort tid) w sorted = up home local past (Ev.Abort tid) w sorted tt refl
next_line home local past (Ev.Fate tx) w sorted = up home local past (Ev.Fate tx) w sorted tt refl
next_line home local past (Ev.Give message) w sorted = up home local past (Ev.Give message) w sorted tt refl
next_line home local past (Ev.Ask tid) w sorted = up home local past (Ev.Ask tid) w sorted tt refl
next_line home local past (Ev.Drop tid) w sorted = up home local past (Ev.Drop tid) w sorted tt refl
next_line home local past Ev.Check w sorted = up home local past Ev.Check w sorted tt refl

-- a site that was set up
pub well_first : (home : Home) (local : Tx → Bool) → IsWellKept home local []
well_first home local = record {
  kept = kept_first home;
  sorted = (tt, (tt, tt));
  ticketless = restored_ticketless home local (records home []) (tt, (tt, tt));
  starts = (nothing refl, (nothing refl, nothing refl));
  started = nothing refl;
  published = omega arith;
}
  where
    nothing : {start : Runs.Start} → start.doubtful ≡ [] → IsStart start
    nothing none = record { numbered = subst (Each (IsNumbered _)) (sym none) tt; apart = subst AllApart (sym none) tt }

-- what further events make of a past that is well kept
pub well_on : (home : Home) (local : Tx → Bool) (first : SitePast) → IsWellKept home local first → (events : List SiteEvent) → AreSorted local events
    → IsWellKept home local (site_past_on home first events)
well_on home local first w [] sorted = w
well_on home local first w (event ∷ events) (now, before) =
    next_line home local (site_past_on home first events) event (well_on home local first w events before) now

-- each epoch starts well, and so would one from whatever a stop leaves
pub good_starts_on : (home : Home) (local : Tx → Bool) (first : SitePast) → IsWellKept home local first → (events : List SiteEvent) → AreSorted local events
    → HasGoodStarts home (site_past_on home first events)
good_starts_on home local first well events sorted =
    let w = well_on home local first well events sorted in
    record {
      start = w.started;
      restart = λ kept front. whole_of_fronts (StartsWell home) kept (fronts_of_front (StartsWell home) (records home (site_past_on home first events)) kept front w.starts);
    }

pub well_past : (home : Home) (local : Tx → Bool) (events : List SiteEvent) → AreSorted local events → IsWellKept home local (site_past home events)
well_past home local events sorted = well_on home local [] (well_first home local) events sorted

pub starts_well : OfSortedEvents HasGoodStarts
starts_well home local events sorted = good_starts_on home local [] (well_first home local) events sorted
