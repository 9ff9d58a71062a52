-- The numbers, tickets and epochs of a site are at most as many as its lines: each line draws at most one number and publishes at most one ticket.
use Rattle.std.proofs.Common.{◌≡◌, ℕ, suc, ◌+◌, ◌≤◌, ◌<◌, ◌^◌, ◌||◌, Bool, true, false, cond, Option, Some, None, List, [], ◌∷◌, ◌++◌, length, refl, sym, subst, arith}
use Rattle.std.specs.Prelude.{nat_le}
use Rattle.mdb_base.specs.declared.names.Tid.{Tid}
use Rattle.mdb_base.specs.declared.names.Tx.{Tx}
use Rattle.mdb_base.specs.Words.{Each, when}
use Rattle.mdb_base.proofs.ForCallers.{each_map}
use Rattle.order_laws.proofs.ForCallers.{each_at, each_from}
use Rattle.fed_rules.specs.declared.answers.Answer.TheVariants as Say
use Rattle.fed_rules.specs.declared.events.SiteEvent.{SiteEvent}
use Rattle.fed_rules.specs.declared.events.SiteEvent.TheVariants as Ev
use Rattle.fed_rules.specs.declared.records.SiteRecord.{SiteRecord}
use Rattle.fed_rules.specs.declared.records.SiteRecord.TheVariants.{Setup, Start, Prepared, Ended, Local, Checkpoint}
use Rattle.fed_rules.specs.declared.sums.SiteSum.{SiteSum}
use Rattle.fed_rules.specs.Disk.{Append, Call, CutBack, Stops, Sync, is_torn}
use Rattle.fed_rules.specs.EngineLines.{IsRight, IsStart}
use Rattle.fed_rules.specs.Happenings.{Trip, comes_up, is_down, stopped, stops, tripped}
use Rattle.fed_rules.specs.Replies.{rule}
use Rattle.fed_rules.specs.Runs as Runs
use Rattle.fed_rules.specs.Runs.{Acts, Takes, Refuses, Aborts, Begins, Commits, EngineLine, Run, Seals, counter, published}
use Rattle.fed_rules.specs.Site.{answered, number_of, of_back, site_line, site_past, unless_tripped}
use Rattle.fed_rules.specs.SitePast.{SiteHappening, SitePast, disk, engine_lines, epoch, epoch_start, journal, records, trip}
use Rattle.fed_rules.specs.SiteRecords.{Held, Home, doubts, epoch_of, last_number, last_ticket, site_frame, start_of}
use Rattle.fed_rules.specs.SiteSums.{site_sum}
use Rattle.fed_rules.specs.Story.{past_of, story_of}
use Rattle.fed_rules.specs.Usable as Usable
use Rattle.engine_laws.proofs.ForCallers.{counted, counter_lines, drawn_next, draws, settling, ticket_is_next}
use Rattle.fed_rules.proofs.ForCallers.{epoch_same, past_short}
use Rattle.site_history.specs.Events.{IsFresh, IsSorted}
use Rattle.site_history.specs.SiteOrders.{OfSortedEvents}
use Rattle.site_history.proofs.ForCallers.{EachAppend, IsCalm, IsLiveHere, IsWellKept, JustSyncs, Moves, append_take, begins_local, begins_work, checks_sum, commits_local, doubt_in, doubts_are, each_after, goes_on, good_answered, is_back, move_answered, no_local_doubt, of_events, pasts_summed, prepares_run, record_of, rests, settles_held, well_past}
use Rattle.site_history.specs.Sums.{AreSums}
use Rattle.disk_laws.specs.Left.{IsSome, IsSomeHeld, OfShortSites, SitesAreBelow}
use Rattle.disk_laws.proofs.SiteLeft.{counts, each_counted}
use Rattle.disk_laws.proofs.SiteNumbers.{leave_numbers}

-- the numbers and the ticket of a record are at most this one, and an epoch is at most one more
abbrev pub IsBelow : ℕ → SiteRecord → Type 0
IsBelow n (Start e) = e ≤ suc n
IsBelow n (Prepared t e number ticket w) = (number ≤ n) × (ticket ≤ n) × (e ≤ suc n)
IsBelow n (Local t number w) = number ≤ n
IsBelow n other = Unit {0}

-- ---- what such records say

last_below : (n : ℕ) (rs : List SiteRecord) → Each (IsBelow n) rs → last_number rs ≤ n
last_below n [] h = omega arith
last_below n (Setup site engine protocol items ∷ rs) h = last_below n rs h.1
last_below n (Checkpoint sum ∷ rs) h = last_below n rs h.1
last_below n (Start e ∷ rs) h = last_below n rs h.1
last_below n (Prepared t e number ticket w ∷ rs) h = let a = last_below n rs h.1 in let b = h.0.0 in omega (arith, a, b)
last_below n (Ended t d ∷ rs) h = last_below n rs h.1
last_below n (Local t number w ∷ rs) h = let a = last_below n rs h.1 in let b = h.0 in omega (arith, a, b)

ticket_below : (n : ℕ) (rs : List SiteRecord) → Each (IsBelow n) rs → last_ticket rs ≤ n
ticket_below n [] h = omega arith
ticket_below n (Setup site engine protocol items ∷ rs) h = ticket_below n rs h.1
ticket_below n (Checkpoint sum ∷ rs) h = ticket_below n rs h.1
ticket_below n (Start e ∷ rs) h = ticket_below n rs h.1
ticket_below n (Prepared t e number ticket w ∷ rs) h = let a = ticket_below n rs h.1 in let b = h.0.1 in omega (arith, a, b)
ticket_below n (Ended t d ∷ rs) h = ticket_below n rs h.1
ticket_below n (Local t number w ∷ rs) h = ticket_below n rs h.1

pub epoch_below : (n : ℕ) (rs : List SiteRecord) → Each (IsBelow n) rs → epoch_of rs ≤ suc n
epoch_below n [] h = omega arith
epoch_below n (Setup site engine protocol items ∷ rs) h = epoch_below n rs h.1
epoch_below n (Checkpoint sum ∷ rs) h = epoch_below n rs h.1
epoch_below n (Start e ∷ rs) h = h.0
epoch_below n (Prepared t e number ticket w ∷ rs) h = epoch_below n rs h.1
epoch_below n (Ended t d ∷ rs) h = epoch_below n rs h.1
epoch_below n (Local t number w ∷ rs) h = epoch_below n rs h.1

below_more : (n : ℕ) (r : SiteRecord) → IsBelow n r → IsBelow (suc n) r
below_more n (Setup site engine protocol items) b = tt
below_more n (Checkpoint sum) b = tt
below_more n (Start e) b = omega (arith, b)
below_more n (Prepared t e number ticket w) b = let x = b.0 in let y = b.1 in let z = b.2 in (omega (arith, x), omega (arith, y), omega (arith, z))
below_more n (Ended t d) b = tt
below_more n (Local t number w) b = omega (arith, b)

-- ---- a line does little

record IsSmall (n : ℕ) (x : SiteHappening) : Type 0 where
  drawn : draws x.lines ≤ 1
  kept : EachAppend (IsBelow n) x.calls

-- the records are below the number of lines, and so is the counter of the epoch
pub record AreBelow (home : Home) (past : SitePast) : Type 0 where
  pub kept : Each (IsBelow (length past)) (records home past)
  pub counter : counter (epoch_start home past) (engine_lines past) ≤ length past

no_draw : 0 ≤ 1
no_draw = omega arith

one_draw : 1 ≤ 1
one_draw = omega arith

calm_draws : (local : Tx → Bool) (line : EngineLine) → IsCalm local line → draws (line ∷ []) ≤ 1
calm_draws local (Acts tid act reply) c = no_draw
calm_draws local (Takes tid reply) c = no_draw
calm_draws local (Refuses tid why) c = no_draw
calm_draws local (Aborts tid) c = no_draw
calm_draws local (Begins tid n) c = absurd c
calm_draws local (Seals tid n) c = absurd c
calm_draws local (Commits tid) c = absurd c

syncs_small : (n : ℕ) (calls : List (Call SiteRecord)) → JustSyncs calls → EachAppend (IsBelow n) calls
syncs_small n [] s = tt
syncs_small n (Sync ∷ calls) s = syncs_small n calls s
syncs_small n (Append r ∷ calls) s = elim s [ ]
syncs_small n (CutBack ∷ calls) s = elim s [ ]
syncs_small n (Rattle.fed_rules.specs.Disk.TrimFront ∷ calls) s = elim s [ ]
syncs_small n (Stops c ∷ calls) s = elim s [ ]

module _ (home : Home) (local : Tx → Bool) (past : SitePast) (h : IsWellKept home local past) (b : AreBelow home past) where
  small_epoch : epoch home past ≤ suc (length past)
  small_epoch = epoch_below (length past) (records home past) b.kept

  small_number : (tid : Tid) (run : Run) → IsLiveHere home past tid run → number_of home past run ≤ suc (length past)
  small_number tid run here =
      let age = ((counted (epoch_start home past) (engine_lines past) h.started h.kept.right).unended tid run here.live.0).age_kept in
      let next = drawn_next (rule home.engine).drawn (epoch_start home past) (engine_lines past) run age in
      let le = b.counter in
      omega arith

  small_ticket : (tid : Tid) (run : Run) (t : ℕ) → IsRight (epoch_start home past) (Seals tid (number_of home past run) ∷ engine_lines past) → IsLiveHere home past tid run
      → run.ticket ≡ Some t → t ≤ suc (length past)
  small_ticket tid run t right here took =
      let next = ticket_is_next (epoch_start home past).kind (epoch_start home past) (engine_lines past) tid (number_of home past run) t run refl h.started right here.live took in
      let most = h.published in
      let le = ticket_below (length past) (records home past) b.kept in
      omega (arith, next, most, le)

  move_small : (event : SiteEvent) (x : SiteHappening) (calls : List (Call SiteRecord)) (lines : List EngineLine) → x.calls ≡ calls → x.lines ≡ lines
      → IsRight (epoch_start home past) (lines ++ engine_lines past) → Moves home past local event calls lines → IsSmall (suc (length past)) x
  move_small event x calls lines e f right m = record {
    drawn = subst (λ ls. draws ls ≤ 1) (sym f) (drawn lines m);
    kept = subst (EachAppend (IsBelow (suc (length past)))) (sym e) (kept calls lines right m);
  }
    where
      drawn : {cs : List (Call SiteRecord)} (ls : List EngineLine) → Moves home past local event cs ls → draws ls ≤ 1
      drawn ls rests = no_draw
      drawn ls (begins_local mine free none) = one_draw
      drawn ls (begins_work others none fresh) = one_draw
      drawn ls (goes_on {line = line} run here calm) = calm_draws local line calm
      drawn ls (commits_local run mine here) = one_draw
      drawn ls (prepares_run n run asked others here took) = one_draw
      drawn ls (settles_held {tid = tid} {decision = decision} held doubt synced just) = settling tid decision
      drawn ls (checks_sum is) = no_draw

      kept : (cs : List (Call SiteRecord)) (ls : List EngineLine) → IsRight (epoch_start home past) (ls ++ engine_lines past) → Moves home past local event cs ls
          → EachAppend (IsBelow (suc (length past))) cs
      kept cs ls r rests = tt
      kept cs ls r (begins_local mine free none) = tt
      kept cs ls r (begins_work others none fresh) = tt
      kept cs ls r (goes_on run here calm) = tt
      kept cs ls r (commits_local {tid = tid} run mine here) = (small_number tid run here, tt)
      kept cs ls r (prepares_run {tid = tid} {ticket = ticket} n run asked others here took) = (
        (small_number tid run here, small_ticket tid run ticket r here took, (let le = small_epoch in omega (arith, le))),
        tt,
      )
      kept cs ls r (settles_held {rest = rest} held doubt synced just) = (tt, syncs_small (suc (length past)) rest just)
      kept cs ls r (checks_sum is) = (tt, tt)

  small_when : (t : Bool) (x y : SiteHappening) → IsSmall (suc (length past)) x → IsSmall (suc (length past)) y → IsSmall (suc (length past)) (when t x y)
  unfolding when
  small_when true x y p q = p
  small_when false x y p q = q

  small_quiet : (event : SiteEvent) → IsSmall (suc (length past)) (record { event = event; answer = Say.Down; sends = []; calls = []; lines = [] })
  small_quiet event = record { drawn = no_draw; kept = tt }

  small_tripped : (o : Option Trip) (x : SiteHappening) → IsSmall (suc (length past)) x → IsSmall (suc (length past)) (tripped site_frame (disk home past) o x)
  unfolding tripped stopped
  small_tripped None x s = s
  small_tripped (Some t) x s =
      small_when (nat_le t.calls (length x.calls)) _ x (record { drawn = no_draw; kept = append_take (IsBelow (suc (length past))) t.calls x.calls (Stops t.cut ∷ []) s.kept tt }) s

  small_up : (event : SiteEvent) → IsSorted local event → IsFresh home past event → is_back event ≡ false
      → IsSmall (suc (length past)) (when (is_down past) (record { event = event; answer = Say.Down; sends = []; calls = []; lines = [] }) (unless_tripped home past (answered home past event)))
  small_up event sorted fresh back =
      let x = answered home past event in
      let m = move_answered home past local event h.kept sorted fresh back in
      let g = good_answered home past event h.kept fresh back in
      small_when (is_down past) _ _ (small_quiet event) (small_tripped (trip past) x (move_small event x x.calls x.lines refl refl g.right m.moves))

  small_back : IsSmall (suc (length past)) (of_back home past)
  unfolding of_back
  small_back = record { drawn = no_draw; kept = by_torn (is_torn site_frame (disk home past)) }
    where
      by_torn : (t : Bool) → EachAppend (IsBelow (suc (length past))) (cond t (CutBack ∷ []) [] ++ Append (Start (epoch home past + 1)) ∷ Sync ∷ [])
      by_torn true = (let le = small_epoch in omega (arith, le), tt)
      by_torn false = (let le = small_epoch in omega (arith, le), tt)

  small_line : (event : SiteEvent) → IsSorted local event → IsSmall (suc (length past)) (site_line home past event)
  unfolding site_line stopped
  small_line (Ev.Trip calls cut) sorted = record { drawn = no_draw; kept = tt }
  small_line (Ev.Halt cut) sorted = small_when (is_down past) _ _ (small_quiet (Ev.Halt cut)) (record { drawn = no_draw; kept = tt })
  small_line Ev.Back sorted = small_when (is_down past) _ _ (small_tripped (trip past) (of_back home past) small_back) (record { drawn = no_draw; kept = tt })
  small_line (Ev.Begin tid) sorted = small_up (Ev.Begin tid) sorted (no_local_doubt local (records home past) tid h.sorted sorted) refl
  small_line (Ev.Act tid act) sorted = small_up (Ev.Act tid act) sorted tt refl
  small_line (Ev.Commit tid) sorted = small_up (Ev.Commit tid) sorted tt refl
  small_line (Ev.Abort tid) sorted = small_up (Ev.Abort tid) sorted tt refl
  small_line (Ev.Fate tx) sorted = small_up (Ev.Fate tx) sorted tt refl
  small_line (Ev.Give message) sorted = small_up (Ev.Give message) sorted tt refl
  small_line (Ev.Ask tid) sorted = small_up (Ev.Ask tid) sorted tt refl
  small_line (Ev.Drop tid) sorted = small_up (Ev.Drop tid) sorted tt refl
  small_line Ev.Check sorted = small_up Ev.Check sorted tt refl

-- ---- so it is of every past

counter_behind : (t : Bool) (start new : Runs.Start) (lines newer : List EngineLine) (n : ℕ) → IsStart start → counter start lines ≤ n → new.counter ≤ suc n → draws newer ≤ 1
    → IsRight (cond t new start) (cond t [] (newer ++ lines)) → counter (cond t new start) (cond t [] (newer ++ lines)) ≤ suc n
counter_behind true start new lines newer n begun le new_le one right = new_le
counter_behind false start new lines newer n begun le new_le one right = let more = counter_lines start lines newer begun right in omega (arith, more, le, one)

more_below : (home : Home) (local : Tx → Bool) (past : SitePast) (x : SiteHappening) → IsWellKept home local past → IsWellKept home local (x ∷ past) → IsSmall (suc (length past)) x
    → AreBelow home past → AreBelow home (x ∷ past)
more_below home local past x h now s b =
    let kept : Each (IsBelow (suc (length past))) (records home (x ∷ past)) =
    each_after site_frame (IsBelow (suc (length past))) (disk home past) x.calls (each_map (IsBelow (length past)) (IsBelow (suc (length past))) (below_more (length past)) (records home past) b.kept) s.kept in
    record {
      kept = kept;
      counter = counter_behind (stops x.answer || comes_up x.answer) (epoch_start home past) (start_of home (records home (x ∷ past))) (engine_lines past) x.lines (length past) h.started b.counter
          (last_below (suc (length past)) (records home (x ∷ past)) kept) s.drawn now.kept.right;
    }

pub pasts_below : OfSortedEvents AreBelow
pasts_below home local [] sorted = record { kept = (omega arith, (tt, tt)); counter = omega arith }
pasts_below home local (event ∷ events) (now, before) =
    let past = site_past home events in
    let h = well_past home local events before in
    let b = pasts_below home local events before in
    more_below home local past (site_line home past event) h (well_past home local (event ∷ events) (now, before)) (small_line home local past h b event now) b

-- ---- the journal

-- the same of a Checkpoint that is the Sum of such records
abbrev IsHeldBelow : ℕ → Held → Type 0
IsHeldBelow n held = (held.number ≤ n) × (held.ticket ≤ n) × (held.epoch ≤ suc n)

abbrev pub IsWhollyBelow : ℕ → SiteRecord → Type 0
IsWhollyBelow n (Checkpoint sum) = (sum.epoch ≤ suc n) × (sum.counter ≤ n) × (sum.published ≤ n) × Each (IsHeldBelow n) sum.doubtful
IsWhollyBelow n other = IsBelow n other

sum_below : (n : ℕ) (home : Home) (rs : List SiteRecord) → Each (IsBelow n) rs → IsWhollyBelow n (Checkpoint (site_sum home rs))
sum_below n home rs b = (
  subst (λ e. e ≤ suc n) (sym (epoch_same rs)) (epoch_below n rs b),
  last_below n rs b,
  ticket_below n rs b,
  each_from (IsHeldBelow n) (doubts rs) (λ held i. each_at (IsBelow n) (record_of held) rs b (doubt_in rs held.tid held (doubts_are rs held i))),
)

all_below : (n : ℕ) (home : Home) (rs : List SiteRecord) → Each (IsBelow n) rs → AreSums home rs → Each (IsWhollyBelow n) rs
all_below n home [] b s = tt
all_below n home (Checkpoint sum ∷ rs) b s = (subst (λ (z : SiteSum). IsWhollyBelow n (Checkpoint z)) (sym s.0) (sum_below n home rs b.1), all_below n home rs b.1 s.1)
all_below n home (Setup site engine protocol items ∷ rs) b s = (tt, all_below n home rs b.1 s)
all_below n home (Start e ∷ rs) b s = (b.0, all_below n home rs b.1 s)
all_below n home (Prepared t e number ticket w ∷ rs) b s = (b.0, all_below n home rs b.1 s)
all_below n home (Ended t d ∷ rs) b s = (tt, all_below n home rs b.1 s)
all_below n home (Local t number w ∷ rs) b s = (b.0, all_below n home rs b.1 s)

journal_below : OfSortedEvents (λ home past. Each (IsWhollyBelow (length past)) (journal home past))
journal_below home local events sorted =
    let past = site_past home events in
    each_counted home (IsWhollyBelow (length past)) (records home past) (journal home past) (counts home local events sorted)
    (all_below (length past) home (records home past) (pasts_below home local events sorted).kept (pasts_summed home local events sorted).sums)

-- within fewer lines than 2^30
held_fits : (n : ℕ) (hs : List Held) → n < 2 ^ 30 → Each IsSomeHeld hs → Each (IsHeldBelow n) hs → Each Usable.IsHeldBelow hs
held_fits n [] short some below = tt
held_fits n (h ∷ hs) short some below = (
  (let a = below.0.0 in let b = below.0.1 in let c = below.0.2 in (some.0.0, omega (arith, a, short), some.0.1, omega (arith, b, short), omega (arith, c, short))),
  held_fits n hs short some.1 below.1,
)

fits : (n : ℕ) (js : List SiteRecord) → n < 2 ^ 30 → Each IsSome js → Each (IsWhollyBelow n) js → Each Usable.IsBelow js
fits n [] short some below = tt
fits n (Setup site engine protocol items ∷ js) short some below = (tt, fits n js short some.1 below.1)
fits n (Start e ∷ js) short some below = ((let a = below.0 in omega (arith, a, short)), fits n js short some.1 below.1)
fits n (Prepared t e number ticket w ∷ js) short some below = (
  (let a = below.0.0 in let b = below.0.1 in let c = below.0.2 in (some.0.0, omega (arith, a, short), some.0.1, omega (arith, b, short), omega (arith, c, short))),
  fits n js short some.1 below.1,
)
fits n (Ended t d ∷ js) short some below = (tt, fits n js short some.1 below.1)
fits n (Local t number w ∷ js) short some below = ((some.0, (let a = below.0 in omega (arith, a, short))), fits n js short some.1 below.1)
fits n (Checkpoint sum ∷ js) short some below = (
  (let a = below.0.0 in let b = below.0.1 in let c = below.0.2 in
      (omega (arith, a, short), omega (arith, b, short), omega (arith, c, short), held_fits n sum.doubtful short some.0 below.0.3)),
  fits n js short some.1 below.1,
)

pub leave_below : OfShortSites SitesAreBelow
leave_below scenario commands short site home declared =
    let past = past_of home.site (story_of scenario commands) in
    let most = past_short scenario commands home.site in
    fits (length past) (journal home past) (omega (arith, most, short)) (leave_numbers scenario commands site home declared)
    (of_events (λ home past. Each (IsWhollyBelow (length past)) (journal home past)) journal_below scenario commands site home declared)
