-- At a site tickets rise: each Prepared record has a greater one than all before it.
use Rattle.std.proofs.Common.{ℕ, ◌<◌, ◌≤◌, max, Bool, List, [], ◌∷◌, ◌++◌, refl, sym, ap, subst, ◌∙◌, arith}
use Rattle.mdb_base.specs.declared.names.Tx.{Tx}
use Rattle.mdb_base.specs.Words.{Each, or_else}
use Rattle.mdb_base.proofs.ForCallers.{each_map}
use Rattle.fed_rules.specs.declared.events.SiteEvent.{SiteEvent}
use Rattle.fed_rules.specs.declared.records.SiteRecord.{SiteRecord}
use Rattle.fed_rules.specs.declared.records.SiteRecord.TheVariants.{Setup, Start, Prepared, Ended, Local, Checkpoint}
use Rattle.fed_rules.specs.Disk.{Call}
use Rattle.fed_rules.specs.EngineLines.{IsRight, IsStart}
use Rattle.fed_rules.specs.Runs as Runs
use Rattle.fed_rules.specs.Runs.{EngineLine, published}
use Rattle.fed_rules.specs.Site.{number_of, settling_line, site_past}
use Rattle.fed_rules.specs.SitePast.{SitePast, epoch, epoch_start, engine_lines, journal, records}
use Rattle.fed_rules.specs.SiteRecords.{Home, last_ticket}
use Rattle.fed_rules.specs.SiteSums.{site_sum}
use Rattle.fed_rules.specs.Usable.{TicketsRise, tickets}
use Rattle.engine_laws.proofs.ForCallers.{published_at, ticket_is_next}
use Rattle.site_history.proofs.ForCallers.{KeptByMoves, Moves, appended, begins_local, begins_work, checks_sum, commits_local, goes_on, moves_keep, of_events, pasts_summed, prepares_run, published_lines, rests, settles_held, synced_append}
use Rattle.site_history.specs.Sums.{AreSums}
use Rattle.disk_laws.specs.Left.{OfSites, TicketsStandInOrder}
use Rattle.disk_laws.proofs.SiteLeft.{counts}
use Rattle.disk_laws.proofs.SiteRead.{Counts, Whole, Behind}

-- ---- records of which each Prepared one has a greater ticket than all before it

abbrev pub AreRising : List SiteRecord → Type 0
AreRising [] = Unit {0}
AreRising (Prepared t e n k w ∷ rs) = (last_ticket rs < k) × AreRising rs
AreRising (r ∷ rs) = AreRising rs

pub record IsTop (rs : List SiteRecord) (start : Runs.Start) (lines : List EngineLine) : Type 0 where
  pub all : AreRising rs
  pub top : last_ticket rs ≤ published start lines

rising_behind : (newest : SiteRecord) (rs : List SiteRecord) → AreRising (newest ∷ rs) → AreRising rs
rising_behind (Setup site engine protocol items) rs c = c
rising_behind (Checkpoint sum) rs c = c
rising_behind (Start epoch) rs c = c
rising_behind (Prepared t epoch n ticket writes) rs c = c.1
rising_behind (Ended t d) rs c = c
rising_behind (Local t n writes) rs c = c

still_top : (rs : List SiteRecord) (start : Runs.Start) (lines more : List EngineLine) → IsTop rs start lines → IsTop rs start (more ++ lines)
still_top rs start lines more o = record { all = o.all; top = (let grows = published_lines start lines more in let old = o.top in omega (arith, grows, old)) }

move_orderly : (home : Home) (past : SitePast) (local : Tx → Bool) (event : SiteEvent) (calls : List (Call SiteRecord)) (lines : List EngineLine)
    → IsStart (epoch_start home past) → IsRight (epoch_start home past) (lines ++ engine_lines past)
    → IsTop (records home past) (epoch_start home past) (engine_lines past) → Moves home past local event calls lines
    → IsTop (appended calls (records home past)) (epoch_start home past) (lines ++ engine_lines past)
move_orderly home past local event calls lines begun right o rests = o
move_orderly home past local event calls lines begun right o (begins_local {tid = tid} mine free none) = still_top (records home past) (epoch_start home past) (engine_lines past) lines o
move_orderly home past local event calls lines begun right o (begins_work others none fresh) = still_top (records home past) (epoch_start home past) (engine_lines past) lines o
move_orderly home past local event calls lines begun right o (goes_on {line = line} run here calm) = still_top (records home past) (epoch_start home past) (engine_lines past) lines o
move_orderly home past local event calls lines begun right o (commits_local {tid = tid} run mine here) =
    let s = still_top (records home past) (epoch_start home past) (engine_lines past) lines o in record { all = s.all; top = s.top }
move_orderly home past local event calls lines begun right o (prepares_run {tid = tid} {ticket = ticket} n run asked others here took) =
    let next = ticket_is_next (epoch_start home past).kind (epoch_start home past) (engine_lines past) tid (number_of home past run) ticket run refl begun right here.live took in
    let is = published_at (epoch_start home past) (engine_lines past) tid (number_of home past run) run here.live.0
    ∙ ap (λ o. max (or_else o 0) (published (epoch_start home past) (engine_lines past))) took in
    let old = o.top in
    record { all = (omega (arith, next, old), o.all); top = omega (arith, is, next, old) }
move_orderly home past local event calls lines begun right o (settles_held {tid = tid} {decision = decision} {rest = rest} held doubt synced just) =
    let s = still_top (records home past) (epoch_start home past) (engine_lines past) lines o in
    subst (λ rs. IsTop rs (epoch_start home past) (settling_line tid decision ∷ engine_lines past)) (sym (synced_append rest (Ended tid decision ∷ records home past) synced))
    (record { all = s.all; top = s.top })
move_orderly home past local event calls lines begun right o (checks_sum {sum = sum} is) = record { all = o.all; top = o.top }

moves_rise : KeptByMoves AreRising IsTop
moves_rise = record {
  first = λ home. tt;
  started = λ rs n o. o;
  behind = rising_behind;
  afresh = λ home rs o. record { all = o; top = omega arith };
  all = λ rs start lines o. o.all;
  moved = λ home local past event calls lines well right m o. move_orderly home past local event calls lines well.started right o m;
}

-- ---- the journal

-- all tickets of a list of records are at most the last one
below : (home : Home) (rs : List SiteRecord) → AreSums home rs → Each (λ k. k ≤ last_ticket rs) (tickets rs)
below home [] s = tt
below home (Prepared t e n k w ∷ rs) s =
    (omega arith, each_map (λ j. j ≤ last_ticket rs) (λ j. j ≤ max k (last_ticket rs)) (λ j le. omega (arith, le)) (tickets rs) (below home rs s))
below home (Checkpoint sum ∷ rs) s = ((let is = ap (λ z. z.published) s.0 in omega (arith, is)), below home rs s.1)
below home (Setup site engine protocol items ∷ rs) s = below home rs s
below home (Start e ∷ rs) s = below home rs s
below home (Ended t d ∷ rs) s = below home rs s
below home (Local t n w ∷ rs) s = below home rs s

rise_whole : (home : Home) (rs : List SiteRecord) → AreSums home rs → AreRising rs → TicketsRise rs
rise_whole home [] s r = tt
rise_whole home (Prepared t e n k w ∷ rs) s r =
    (each_map (λ j. j ≤ last_ticket rs) (λ j. j < k) (λ j le. (let less = r.0 in omega (arith, le, less))) (tickets rs) (below home rs s), rise_whole home rs s r.1)
rise_whole home (Checkpoint sum ∷ rs) s r = rise_whole home rs s.1 r
rise_whole home (Setup site engine protocol items ∷ rs) s r = rise_whole home rs s r
rise_whole home (Start e ∷ rs) s r = rise_whole home rs s r
rise_whole home (Ended t d ∷ rs) s r = rise_whole home rs s r
rise_whole home (Local t n w ∷ rs) s r = rise_whole home rs s r

-- the tickets of a front of the list
fewer : (P : ℕ → Type 0) (newer : List SiteRecord) (r : SiteRecord) (before : List SiteRecord) → (Each P (tickets (r ∷ before)) → Each P (tickets (r ∷ [])))
    → Each P (tickets (newer ++ r ∷ before)) → Each P (tickets (newer ++ r ∷ []))
fewer P [] r before sub a = sub a
fewer P (Prepared t e n k w ∷ newer) r before sub a = (a.0, fewer P newer r before sub a.1)
fewer P (Checkpoint sum ∷ newer) r before sub a = (a.0, fewer P newer r before sub a.1)
fewer P (Setup site engine protocol items ∷ newer) r before sub a = fewer P newer r before sub a
fewer P (Start e ∷ newer) r before sub a = fewer P newer r before sub a
fewer P (Ended t d ∷ newer) r before sub a = fewer P newer r before sub a
fewer P (Local t n w ∷ newer) r before sub a = fewer P newer r before sub a

rise_behind : (newer before : List SiteRecord) (home : Home) → TicketsRise (newer ++ Checkpoint (site_sum home before) ∷ before) → TicketsRise (newer ++ Checkpoint (site_sum home before) ∷ [])
rise_behind [] before home r = tt
rise_behind (Prepared t e n k w ∷ newer) before home r =
    (fewer (λ j. j < k) newer (Checkpoint (site_sum home before)) before (λ a. (a.0, tt)) r.0, rise_behind newer before home r.1)
rise_behind (Checkpoint sum ∷ newer) before home r = rise_behind newer before home r
rise_behind (Setup site engine protocol items ∷ newer) before home r = rise_behind newer before home r
rise_behind (Start e ∷ newer) before home r = rise_behind newer before home r
rise_behind (Ended t d ∷ newer) before home r = rise_behind newer before home r
rise_behind (Local t n w ∷ newer) before home r = rise_behind newer before home r

tickets_rise : (home : Home) (rs js : List SiteRecord) → Counts home rs js → TicketsRise rs → TicketsRise js
tickets_rise home rs js (Whole newer e f) r = subst TicketsRise (e ∙ sym f) r
tickets_rise home rs js (Behind newer before e f) r = subst TicketsRise (sym f) (rise_behind newer before home (subst TicketsRise e r))

pub leave_tickets : OfSites TicketsStandInOrder
leave_tickets = of_events (λ home past. TicketsRise (journal home past))
    (λ home local events sorted.
    let past = site_past home events in
    tickets_rise home (records home past) (journal home past) (counts home local events sorted)
    (rise_whole home (records home past) (pasts_summed home local events sorted).sums (moves_keep AreRising IsTop moves_rise home local events sorted).top.all))
