-- At a site no two records have one serial number, those of attempts that were prepared and aborted included: each number was drawn by one attempt.
use Rattle.std.proofs.Common.{◌≡◌, ℕ, ◌<◌, ◌≤◌, Bool, cond, Some, List, [], ◌∷◌, ◌++◌, map, refl, sym, ap, subst, ◌∙◌, inl, inr, arith, eq-eqb}
use Rattle.mdb_base.specs.declared.names.Tid.{Tid}
use Rattle.mdb_base.specs.declared.names.Tx.{Tx}
use Rattle.mdb_base.specs.Words.{Each}
use Rattle.mdb_base.proofs.ForCallers.{each_map, some_parts}
use Rattle.fed_rules.specs.declared.events.SiteEvent.{SiteEvent}
use Rattle.fed_rules.specs.declared.records.SiteRecord.{SiteRecord}
use Rattle.fed_rules.specs.declared.records.SiteRecord.TheVariants.{Setup, Start, Prepared, Ended, Local, Checkpoint}
use Rattle.fed_rules.specs.Disk.{Call}
use Rattle.fed_rules.specs.EngineLines.{AllApart, AreApart, IsRight, IsStart}
use Rattle.fed_rules.specs.Runs as Runs
use Rattle.fed_rules.specs.Runs.{EngineLine, Commits, Seals, Run, counter, run_at}
use Rattle.fed_rules.specs.Site.{number_of, settling_line}
use Rattle.fed_rules.specs.SitePast.{SitePast, epoch, epoch_start, engine_lines, journal, records}
use Rattle.fed_rules.specs.SiteRecords.{Held, Home, doubts, kept_held, last_number, start_of}
use Rattle.fed_rules.specs.SiteSums.{site_sum}
use Rattle.fed_rules.specs.Story.{past_of, story_of}
use Rattle.fed_rules.specs.Usable.{numbers, OfFronts}
use Rattle.engine_laws.proofs.ForCallers.{all_drew, counter_grows, drawer, drawer_keeps}
use Rattle.order_laws.specs.Chains.{In, Distinct}
use Rattle.order_laws.proofs.ForCallers.{each_at}
use Rattle.site_history.specs.SiteOrders.{OfSortedEvents}
use Rattle.site_history.proofs.ForCallers.{KeptByMoves, Moves, StartsWell, appended, begins_local, begins_work, bound_by, checks_sum, commits_local, doubt_in, doubts_are, foundation, goes_on, moves_keep, of_events, prepares_run, record_of, rests, sealed_above, settles_held, sites_serial, synced_append, well_past}
use Rattle.site_history.specs.Records.{BindOnce, IsBound}
use Rattle.disk_laws.specs.Left.{OfSites, NumbersDiffer}
use Rattle.disk_laws.proofs.SiteLeft.{counts}
use Rattle.disk_laws.proofs.SiteRead.{Counts, Whole, Behind}

-- ---- records of which two with one number are of one attempt

-- this record has another number, or is of this attempt
abbrev pub IsApartFrom : Tid → ℕ → SiteRecord → Type 0
IsApartFrom t n (Prepared u e m k w) = m ≡ n → u ≡ t
IsApartFrom t n (Local u m w) = m ≡ n → u ≡ t
IsApartFrom t n other = Unit {0}

abbrev pub TellApart : List SiteRecord → Type 0
TellApart [] = Unit {0}
TellApart (Prepared t e n k w ∷ rs) = Each (IsApartFrom t n) rs × TellApart rs
TellApart (Local t n w ∷ rs) = Each (IsApartFrom t n) rs × TellApart rs
TellApart (r ∷ rs) = TellApart rs

-- the record's number was drawn, and where this was since the start, by its attempt
abbrev IsDrawnBy : Runs.Start → List EngineLine → Tid → ℕ → Type 0
IsDrawnBy start lines t n = (n ≤ counter start lines) × (start.counter < n → drawer start lines n ≡ Some t)

abbrev HasDrawer : Runs.Start → List EngineLine → SiteRecord → Type 0
HasDrawer start lines (Prepared t e n k w) = IsDrawnBy start lines t n
HasDrawer start lines (Local t n w) = IsDrawnBy start lines t n
HasDrawer start lines other = Unit {0}

record IsTop (rs : List SiteRecord) (start : Runs.Start) (lines : List EngineLine) : Type 0 where
  all : TellApart rs
  drawn : Each (HasDrawer start lines) rs

apart_behind : (newest : SiteRecord) (rs : List SiteRecord) → TellApart (newest ∷ rs) → TellApart rs
apart_behind (Setup site engine protocol items) rs c = c
apart_behind (Checkpoint sum) rs c = c
apart_behind (Start epoch) rs c = c
apart_behind (Prepared t epoch n ticket writes) rs c = c.1
apart_behind (Ended t d) rs c = c
apart_behind (Local t n writes) rs c = c.1

-- a right line leaves who drew a number
by_line : (start : Runs.Start) (lines : List EngineLine) (line : EngineLine) (r : SiteRecord) → IsStart start → IsRight start (line ∷ lines)
    → HasDrawer start lines r → HasDrawer start (line ∷ lines) r
by_line start lines line (Prepared t e n k w) begun right h =
    ((let grows = counter_grows start lines line in let old = h.0 in omega (arith, grows, old)), (λ less. drawer_keeps start lines line t n right.0 right.1 (all_drew start lines begun right.1).unended h.0 (h.1 less)))
by_line start lines line (Local t n w) begun right h =
    ((let grows = counter_grows start lines line in let old = h.0 in omega (arith, grows, old)), (λ less. drawer_keeps start lines line t n right.0 right.1 (all_drew start lines begun right.1).unended h.0 (h.1 less)))
by_line start lines line (Setup site engine protocol items) begun right h = tt
by_line start lines line (Start e) begun right h = tt
by_line start lines line (Ended t d) begun right h = tt
by_line start lines line (Checkpoint sum) begun right h = tt

still_drawn : (start : Runs.Start) (lines more : List EngineLine) (rs : List SiteRecord) → IsStart start → IsRight start (more ++ lines) → Each (HasDrawer start lines) rs
    → Each (HasDrawer start (more ++ lines)) rs
still_drawn start lines [] rs begun right d = d
still_drawn start lines (line ∷ more) rs begun right d =
    each_map (HasDrawer start (more ++ lines)) (HasDrawer start (line ∷ (more ++ lines))) (λ r h. by_line start (more ++ lines) line r begun right h) rs
    (still_drawn start lines more rs begun right.1 d)

still_top : (rs : List SiteRecord) (start : Runs.Start) (lines more : List EngineLine) → IsStart start → IsRight start (more ++ lines) → IsTop rs start lines → IsTop rs start (more ++ lines)
still_top rs start lines more begun right o = record { all = o.all; drawn = still_drawn start lines more rs begun right o.drawn }

-- who seals drew the number
sealed_drawer : (start : Runs.Start) (lines : List EngineLine) (t : Tid) (n : ℕ) → drawer start (Seals t n ∷ lines) n ≡ Some t
sealed_drawer start lines t n = ap (λ b. cond b (Some t) (drawer start lines n)) (eq-eqb n n refl)

sealed_apart : (start : Runs.Start) (lines : List EngineLine) (t : Tid) (n : ℕ) → start.counter < n → (r : SiteRecord) → HasDrawer start (Seals t n ∷ lines) r → IsApartFrom t n r
sealed_apart start lines t n new (Prepared u e m k w) h = λ same.
    some_parts (sym (h.1 (omega (arith, new, same))) ∙ ap (drawer start (Seals t n ∷ lines)) same ∙ sealed_drawer start lines t n)
sealed_apart start lines t n new (Local u m w) h = λ same.
    some_parts (sym (h.1 (omega (arith, new, same))) ∙ ap (drawer start (Seals t n ∷ lines)) same ∙ sealed_drawer start lines t n)
sealed_apart start lines t n new (Setup site engine protocol items) h = tt
sealed_apart start lines t n new (Start e) h = tt
sealed_apart start lines t n new (Ended u d) h = tt
sealed_apart start lines t n new (Checkpoint sum) h = tt

move_orderly : (home : Home) (past : SitePast) (local : Tx → Bool) (event : SiteEvent) (calls : List (Call SiteRecord)) (lines : List EngineLine)
    → IsStart (epoch_start home past) → IsRight (epoch_start home past) (lines ++ engine_lines past)
    → IsTop (records home past) (epoch_start home past) (engine_lines past) → Moves home past local event calls lines
    → IsTop (appended calls (records home past)) (epoch_start home past) (lines ++ engine_lines past)
move_orderly home past local event calls lines begun right o rests = o
move_orderly home past local event calls lines begun right o (begins_local {tid = tid} mine free none) = still_top (records home past) (epoch_start home past) (engine_lines past) lines begun right o
move_orderly home past local event calls lines begun right o (begins_work others none fresh) = still_top (records home past) (epoch_start home past) (engine_lines past) lines begun right o
move_orderly home past local event calls lines begun right o (goes_on {line = line} run here calm) = still_top (records home past) (epoch_start home past) (engine_lines past) lines begun right o
move_orderly home past local event calls lines begun right o (commits_local {tid = tid} run mine here) =
    let start = epoch_start home past in
    let n = number_of home past run in
    let sealing : List EngineLine = Seals tid n ∷ [] in
    let then = still_drawn start (engine_lines past) sealing (records home past) begun right.1 o.drawn in
    let new = sealed_above start (engine_lines past) tid n run right.1 here.live in
    let own : IsDrawnBy start (Seals tid n ∷ engine_lines past) tid n = (omega arith, λ less. sealed_drawer start (engine_lines past) tid n) in
    record {
      all = (each_map (HasDrawer start (Seals tid n ∷ engine_lines past)) (IsApartFrom tid n) (sealed_apart start (engine_lines past) tid n new) (records home past) then, o.all);
      drawn = (
        own,
        each_map (HasDrawer start (Seals tid n ∷ engine_lines past)) (HasDrawer start (lines ++ engine_lines past))
            (λ r h. by_line start (Seals tid n ∷ engine_lines past) (Commits tid) r begun right h) (records home past) then,
      );
    }
move_orderly home past local event calls lines begun right o (prepares_run {tid = tid} {ticket = ticket} k run asked others here took) =
    let start = epoch_start home past in
    let n = number_of home past run in
    let then = still_drawn start (engine_lines past) lines (records home past) begun right o.drawn in
    let new = sealed_above start (engine_lines past) tid n run right here.live in
    record {
      all = (each_map (HasDrawer start (Seals tid n ∷ engine_lines past)) (IsApartFrom tid n) (sealed_apart start (engine_lines past) tid n new) (records home past) then, o.all);
      drawn = ((omega arith, (λ less. sealed_drawer start (engine_lines past) tid n)), then);
    }
move_orderly home past local event calls lines begun right o (settles_held {tid = tid} {decision = decision} {rest = rest} held doubt synced just) =
    let s = still_top (records home past) (epoch_start home past) (engine_lines past) lines begun right o in
    subst (λ rs. IsTop rs (epoch_start home past) (settling_line tid decision ∷ engine_lines past)) (sym (synced_append rest (Ended tid decision ∷ records home past) synced))
    (record { all = s.all; drawn = (tt, s.drawn) })
move_orderly home past local event calls lines begun right o (checks_sum {sum = sum} is) = record { all = o.all; drawn = (tt, o.drawn) }

-- a number of the records is at most the last one
none_since : (rs : List SiteRecord) (start : Runs.Start) → last_number rs ≤ start.counter → Each (HasDrawer start []) rs
none_since [] start le = tt
none_since (Prepared t e n k w ∷ rs) start le = ((omega (arith, le), (λ less. absurd (omega (arith, less, le)))), none_since rs start (omega (arith, le)))
none_since (Local t n w ∷ rs) start le = ((omega (arith, le), (λ less. absurd (omega (arith, less, le)))), none_since rs start (omega (arith, le)))
none_since (Setup site engine protocol items ∷ rs) start le = (tt, none_since rs start le)
none_since (Start e ∷ rs) start le = (tt, none_since rs start le)
none_since (Ended t d ∷ rs) start le = (tt, none_since rs start le)
none_since (Checkpoint sum ∷ rs) start le = (tt, none_since rs start le)

moves_apart : KeptByMoves TellApart IsTop
moves_apart = record {
  first = λ home. tt;
  started = λ rs n o. o;
  behind = apart_behind;
  afresh = λ home rs o. record { all = o; drawn = none_since rs (start_of home rs) (omega arith) };
  all = λ rs start lines o. o.all;
  moved = λ home local past event calls lines well right m o. move_orderly home past local event calls lines well.started right o m;
}

-- all records: two with one number would be of one attempt, which isn't recorded twice
pub pasts_apart : OfSortedEvents (λ home past. TellApart (records home past))
pasts_apart home local events sorted = (moves_keep TellApart IsTop moves_apart home local events sorted).top.all

-- who has the number among these is the attempt
apart_over : (t : Tid) (n : ℕ) (newer : List SiteRecord) (y : SiteRecord) (ys rest : List SiteRecord)
    → (Each (IsApartFrom t n) rest → In n (numbers (y ∷ ys)) → IsBound t rest) → Each (IsApartFrom t n) (newer ++ rest) → In n (numbers (newer ++ y ∷ ys)) → IsBound t (newer ++ rest)
apart_over t n [] y ys rest base a i = base a i
apart_over t n (Prepared u e m k w ∷ newer) y ys rest base a (inl same) = inl (a.0 same)
apart_over t n (Prepared u e m k w ∷ newer) y ys rest base a (inr i) = inr (apart_over t n newer y ys rest base a.1 i)
apart_over t n (Local u m w ∷ newer) y ys rest base a (inl same) = inl (a.0 same)
apart_over t n (Local u m w ∷ newer) y ys rest base a (inr i) = inr (apart_over t n newer y ys rest base a.1 i)
apart_over t n (Checkpoint sum ∷ []) y ys rest base a i = inr (apart_over t n [] y ys rest base a.1 i)
apart_over t n (Checkpoint sum ∷ r ∷ newer) y ys rest base a i = inr (apart_over t n (r ∷ newer) y ys rest base a.1 i)
apart_over t n (Setup site engine protocol items ∷ newer) y ys rest base a i = inr (apart_over t n newer y ys rest base a.1 i)
apart_over t n (Start e ∷ newer) y ys rest base a i = inr (apart_over t n newer y ys rest base a.1 i)
apart_over t n (Ended u d ∷ newer) y ys rest base a i = inr (apart_over t n newer y ys rest base a.1 i)

distinct_over : (newer : List SiteRecord) (y : SiteRecord) (ys rest : List SiteRecord)
    → ((t : Tid) (n : ℕ) → Each (IsApartFrom t n) rest → In n (numbers (y ∷ ys)) → IsBound t rest) → Distinct (numbers (y ∷ ys))
    → TellApart (newer ++ rest) → BindOnce (newer ++ rest) → Distinct (numbers (newer ++ y ∷ ys))
distinct_over [] y ys rest base first a once = first
distinct_over (Prepared t e n k w ∷ newer) y ys rest base first a once =
    ((λ i. once.0 (apart_over t n newer y ys rest (base t n) a.0 i)), distinct_over newer y ys rest base first a.1 once.1)
distinct_over (Local t n w ∷ newer) y ys rest base first a once =
    ((λ i. once.0 (apart_over t n newer y ys rest (base t n) a.0 i)), distinct_over newer y ys rest base first a.1 once.1)
distinct_over (Checkpoint sum ∷ []) y ys rest base first a once = first
distinct_over (Checkpoint sum ∷ r ∷ newer) y ys rest base first a once = distinct_over (r ∷ newer) y ys rest base first a once
distinct_over (Setup site engine protocol items ∷ newer) y ys rest base first a once = distinct_over newer y ys rest base first a once
distinct_over (Start e ∷ newer) y ys rest base first a once = distinct_over newer y ys rest base first a once
distinct_over (Ended u d ∷ newer) y ys rest base first a once = distinct_over newer y ys rest base first a once

-- the numbers of those that a Checkpoint has in doubt
pub doubt_numbers : (hs : List Held) → AllApart (map kept_held hs) → Distinct (map (λ (held : Held). held.number) hs)
doubt_numbers [] all = tt
doubt_numbers (h ∷ hs) all = (apart hs all.0, doubt_numbers hs all.1)
  where
    apart : (xs : List Held) → Each (AreApart (kept_held h)) (map kept_held xs) → In h.number (map (λ (held : Held). held.number) xs) → ⊥
    apart [] a i = i
    apart (x ∷ xs) a (inr i) = apart xs a.1 i
    apart (x ∷ xs) a (inl e) = elim a.0.order [
      | inl o ↦ (let less = o.0 in omega (arith, less, e))
      | inr o ↦ (let less = o.0 in omega (arith, less, e))
    ]

doubt_bound : (t : Tid) (n : ℕ) (before : List SiteRecord) (hs : List Held) → ((h : Held) → In h hs → In h (doubts before)) → Each (IsApartFrom t n) before
    → In n (map (λ (held : Held). held.number) hs) → IsBound t before
doubt_bound t n before [] sub a i = absurd i
doubt_bound t n before (h ∷ hs) sub a (inr i) = doubt_bound t n before hs (λ x j. sub x (inr j)) a i
doubt_bound t n before (h ∷ hs) sub a (inl e) =
    let kept = doubt_in before h.tid h (doubts_are before h (sub h (inl refl))) in
    bound_by before (record_of h) t kept (each_at (IsApartFrom t n) (record_of h) before a kept e)

numbers_differ : (home : Home) (rs js : List SiteRecord) → Counts home rs js → OfFronts (StartsWell home) rs → TellApart rs → BindOnce rs → Distinct (numbers js)
numbers_differ home rs js (Whole newer e f) starts a once =
    subst (λ xs. Distinct (numbers xs)) (sym f)
    (distinct_over newer (Start 1) (Setup home.site home.engine home.protocol home.items ∷ []) (foundation home) (λ t n all i. absurd i) tt
    (subst TellApart e a) (subst BindOnce e once))
numbers_differ home rs js (Behind newer before e f) starts a once =
    let start = (starts_front newer (subst (OfFronts (StartsWell home)) e starts)).0 in
    subst (λ xs. Distinct (numbers xs)) (sym f)
    (distinct_over newer (Checkpoint (site_sum home before)) [] (Checkpoint (site_sum home before) ∷ before)
    (λ t n all i. inr (doubt_bound t n before (doubts before) (λ h j. j) all.1 i)) (doubt_numbers (doubts before) start.apart)
    (subst TellApart e a) (subst BindOnce e once))
  where
    starts_front : (xs : List SiteRecord) → OfFronts (StartsWell home) (xs ++ Checkpoint (site_sum home before) ∷ before) → OfFronts (StartsWell home) (Checkpoint (site_sum home before) ∷ before)
    starts_front [] h = h
    starts_front (x ∷ xs) h = starts_front xs h.1

record Known (home : Home) (past : SitePast) : Type 0 where
  counts : Counts home (records home past) (journal home past)
  starts : OfFronts (StartsWell home) (records home past)
  apart : TellApart (records home past)

pasts_known : OfSortedEvents Known
pasts_known home local events sorted = record {
  counts = counts home local events sorted;
  starts = (well_past home local events sorted).starts;
  apart = pasts_apart home local events sorted;
}

pub leave_different : OfSites NumbersDiffer
leave_different scenario commands site home declared =
    let past = past_of home.site (story_of scenario commands) in
    let k = of_events Known pasts_known scenario commands site home declared in
    numbers_differ home (records home past) (journal home past) k.counts k.starts k.apart (sites_serial scenario commands site home declared).once
