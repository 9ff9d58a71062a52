-- The numbers of a site are at most as many as its lines and those of a journal that was found, so that while it is short those of one more line fit.
use Rattle.std.proofs.Common.{◌≡◌, ℕ, suc, ◌+◌, ◌≤◌, ◌<◌, ◌^◌, ◌||◌, Bool, true, false, cond, Option, Some, None, List, [], ◌∷◌, ◌++◌, length, map, refl, sym, subst, arith, inl, inr}
use Rattle.mdb_base.specs.declared.names.Tid.{Tid}
use Rattle.mdb_base.specs.Words.{Each}
use Rattle.mdb_base.proofs.ForCallers.{each_map}
use Rattle.fed_rules.specs.declared.events.SiteEvent.{SiteEvent}
use Rattle.fed_rules.specs.declared.records.SiteRecord.{SiteRecord}
use Rattle.fed_rules.specs.declared.records.SiteRecord.TheVariants as Rec
use Rattle.fed_rules.specs.EngineLines.{IsRight, IsStart}
use Rattle.fed_rules.specs.Happenings.{comes_up, stops}
use Rattle.fed_rules.specs.Replies.{rule}
use Rattle.fed_rules.specs.Runs.{Start, EngineLine, Run, counter, is_sealed, published}
use Rattle.fed_rules.specs.Site.{number_of, site_line}
use Rattle.fed_rules.specs.SitePast.{SiteHappening, SitePast, disk, engine_lines, epoch, epoch_start, live, live_one, records, run_of}
use Rattle.fed_rules.specs.declared.sums.SiteSum.{SiteSum}
use Rattle.fed_rules.specs.Reopened.{first_of, local_read, opened_site, owner_read, site_reads_as}
use Rattle.fed_rules.specs.SiteSums.{carried}
use Rattle.fed_rules.specs.Usable as Found
use Rattle.fed_rules.specs.Usable.{IsHeldBelow, home_of_first}
use Rattle.fed_rules.specs.SiteRecords.{Held, Home, epoch_of, last_number, last_ticket, site_frame, start_of}
use Rattle.engine_laws.proofs.ForCallers.{counted, counter_lines, drawn_next, draws, ticketed}
use Rattle.site_history.proofs.ForCallers.{all_read, below, beside, each_after, foundation, in_parts, opened_is, torn_short}
use Rattle.site_core.specs.Made.{IsGoingOn, IsOpened}
use Rattle.site_core.specs.Steps.{EpochFits, NumberFits}
use Rattle.site_core.proofs.ForCallers.{lawful, made_right, made_starts}
use Rattle.local_dbms.proofs.Small.{IsBelow, IsSmall, small_line}

-- what records below a bound say is at most the bound
pub last_below : (n m : ℕ) (rs : List SiteRecord) → Each (IsBelow n m) rs → last_number rs ≤ n
last_below n m [] h = omega arith
last_below n m (Rec.Setup site engine protocol items ∷ rs) h = last_below n m rs h.1
last_below n m (Rec.Checkpoint sum ∷ rs) h = last_below n m rs h.1
last_below n m (Rec.Start epoch ∷ rs) h = last_below n m rs h.1
last_below n m (Rec.Prepared tid epoch number ticket writes ∷ rs) h = let a = last_below n m rs h.1 in let b = h.0.0 in omega arith
last_below n m (Rec.Ended tid decision ∷ rs) h = last_below n m rs h.1
last_below n m (Rec.Local tid number writes ∷ rs) h = let a = last_below n m rs h.1 in let b = h.0 in omega arith

pub ticket_below : (n m : ℕ) (rs : List SiteRecord) → Each (IsBelow n m) rs → last_ticket rs ≤ n
ticket_below n m [] h = omega arith
ticket_below n m (Rec.Setup site engine protocol items ∷ rs) h = ticket_below n m rs h.1
ticket_below n m (Rec.Checkpoint sum ∷ rs) h = ticket_below n m rs h.1
ticket_below n m (Rec.Start epoch ∷ rs) h = ticket_below n m rs h.1
ticket_below n m (Rec.Prepared tid epoch number ticket writes ∷ rs) h = let a = ticket_below n m rs h.1 in let b = h.0.1 in omega arith
ticket_below n m (Rec.Ended tid decision ∷ rs) h = ticket_below n m rs h.1
ticket_below n m (Rec.Local tid number writes ∷ rs) h = ticket_below n m rs h.1

pub epoch_below : (n m : ℕ) (rs : List SiteRecord) → Each (IsBelow n m) rs → epoch_of rs ≤ m
epoch_below n m [] h = omega arith
epoch_below n m (Rec.Setup site engine protocol items ∷ rs) h = epoch_below n m rs h.1
epoch_below n m (Rec.Checkpoint sum ∷ rs) h = epoch_below n m rs h.1
epoch_below n m (Rec.Start epoch ∷ rs) h = h.0
epoch_below n m (Rec.Prepared tid epoch number ticket writes ∷ rs) h = epoch_below n m rs h.1
epoch_below n m (Rec.Ended tid decision ∷ rs) h = epoch_below n m rs h.1
epoch_below n m (Rec.Local tid number writes ∷ rs) h = epoch_below n m rs h.1

below_more : (n m : ℕ) (kept : SiteRecord) → IsBelow n m kept → IsBelow (suc n) (suc m) kept
below_more n m (Rec.Setup site engine protocol items) b = tt
below_more n m (Rec.Checkpoint sum) b = tt
below_more n m (Rec.Start epoch) b = omega arith
below_more n m (Rec.Prepared tid epoch number ticket writes) b = let l = b.0 in let r = b.1 in (omega arith, omega arith)
below_more n m (Rec.Ended tid decision) b = tt
below_more n m (Rec.Local tid number writes) b = omega arith

-- no number is greater behind so many lines, and no epoch: those of a journal that was found are below 2^62 and 2^31
abbrev pub number_bound : SitePast → ℕ
number_bound [] = 2 ^ 62
number_bound (x ∷ past) = suc (number_bound past)

abbrev pub epoch_bound : SitePast → ℕ
epoch_bound [] = 2 ^ 31
epoch_bound (x ∷ past) = suc (epoch_bound past)

number_bound_is : (past : SitePast) → number_bound past ≡ length past + 2 ^ 62
number_bound_is [] = refl
number_bound_is (x ∷ past) = let h = number_bound_is past in omega (arith, h)

epoch_bound_is : (past : SitePast) → epoch_bound past ≡ length past + 2 ^ 31
epoch_bound_is [] = refl
epoch_bound_is (x ∷ past) = let h = epoch_bound_is past in omega (arith, h)

-- the records are below them, and so is the counter of the epoch
pub record AreBelow (home : Home) (past : SitePast) : Type 0 where
  pub kept : Each (IsBelow (number_bound past) (epoch_bound past)) (records home past)
  pub counter : counter (epoch_start home past) (engine_lines past) ≤ number_bound past

-- a live run is the unended one
pub live_has : (o : Option Run) (run : Run) → live_one o ≡ Some run → o ≡ Some run
live_has None run e = cc
live_has (Some r) run e = by_test (is_sealed r) e where
  by_test : (b : Bool) → cond b None (Some r) ≡ Some run → Some r ≡ Some run
  by_test true e = cc
  by_test false e = e

made_start : (home : Home) (past : SitePast) → IsGoingOn home past → IsStart (epoch_start home past)
made_start home past made = (made_starts home past made).start

-- the published ticket is that of the records
made_published : (home : Home) (past : SitePast) → IsGoingOn home past → published (epoch_start home past) (engine_lines past) ≤ last_ticket (records home past)
made_published home past made = (lawful home past made).well.published

-- so the next line of a past does little
module _ (home : Home) (past : SitePast) (made : IsGoingOn home past) (b : AreBelow home past) where
  small_epoch : epoch home past + 1 ≤ suc (epoch_bound past)
  small_epoch = let le = epoch_below (number_bound past) (epoch_bound past) (records home past) b.kept in omega arith

  small_number : (tid : Tid) (run : Run) → live home past tid ≡ Some run → number_of home past run ≤ suc (number_bound past)
  small_number tid run e =
      let own = live_has (run_of home past tid) run e in
      let right = (made_right home past made).right in
      let age = ((counted (epoch_start home past) (engine_lines past) (made_start home past made) right).unended tid run own).age_kept in
      let next = drawn_next (rule home.engine).drawn (epoch_start home past) (engine_lines past) run age in
      let le = b.counter in
      omega arith

  small_ticket : (tid : Tid) (run : Run) (t : ℕ) → live home past tid ≡ Some run → run.ticket ≡ Some t → t ≤ suc (number_bound past)
  small_ticket tid run t e has =
      let own = live_has (run_of home past tid) run e in
      let right = (made_right home past made).right in
      let next = ticketed (epoch_start home past) (engine_lines past) (made_start home past made) right tid run own t has in
      let most = made_published home past made in
      let le = ticket_below (number_bound past) (epoch_bound past) (records home past) b.kept in
      omega arith

  small_next : (event : SiteEvent) → IsSmall (suc (number_bound past)) (suc (epoch_bound past)) (site_line home past event)
  small_next event = small_line (suc (number_bound past)) (suc (epoch_bound past)) home past small_epoch small_number small_ticket event

-- the counter behind a line
counter_behind : (t : Bool) (start new : Start) (lines newer : List EngineLine) (n : ℕ) → IsStart start → counter start lines ≤ n → new.counter ≤ suc n → draws newer ≤ 1
    → IsRight (cond t new start) (cond t [] (newer ++ lines)) → counter (cond t new start) (cond t [] (newer ++ lines)) ≤ suc n
counter_behind true start new lines newer n begun le new_le one right = new_le
counter_behind false start new lines newer n begun le new_le one right = let more = counter_lines start lines newer begun right in omega arith

more_below : (home : Home) (past : SitePast) (x : SiteHappening) → IsGoingOn home past → IsGoingOn home (x ∷ past) → IsSmall (suc (number_bound past)) (suc (epoch_bound past)) x
    → AreBelow home past → AreBelow home (x ∷ past)
more_below home past x made whole s b =
    let n = number_bound past in
    let m = epoch_bound past in
    let kept : Each (IsBelow (suc n) (suc m)) (records home (x ∷ past)) =
    each_after site_frame (IsBelow (suc n) (suc m)) (disk home past) x.calls (each_map _ _ (below_more n m) (records home past) b.kept) s.kept in
    record {
      kept = kept;
      counter = counter_behind (stops x.answer || comes_up x.answer) (epoch_start home past) (start_of home (records home (x ∷ past))) (engine_lines past) x.lines n (made_start home past made) b.counter
          (last_below (suc n) (suc m) (records home (x ∷ past)) kept) s.drawn (made_right home (x ∷ past) whole).right;
    }

-- ---- a journal that was found

module _ (n m : ℕ) where
  below_held : (held : List Held) (rs : List SiteRecord) → 2 ^ 62 ≤ n → Each IsHeldBelow held → Each (IsBelow n m) rs → Each (IsBelow n m) (carried held ++ rs)
  below_held [] rs le h k = k
  below_held (x ∷ held) rs le h k = let number = h.0.1 in let ticket = h.0.3 in ((omega arith, omega arith), below_held held rs le h.1 k)

  below_local : (c : ℕ) (tids : List Tid) (rs : List SiteRecord) → c ≤ n → Each (IsBelow n m) rs → Each (IsBelow n m) (map (local_read c) tids ++ rs)
  below_local c [] rs le k = k
  below_local c (t ∷ tids) rs le k = (le, below_local c tids rs le k)

  below_owner : (home : Home) (o : Option Tid) (sum : SiteSum) → sum.counter ≤ n → sum.published ≤ n → sum.epoch ≤ m → 1 ≤ m → Each (IsBelow n m) (owner_read o sum ++ below home sum)
  below_owner home None sum counter published epoch one = (epoch, (one, (tt, tt)))
  below_owner home (Some owner) sum counter published epoch one = (tt, ((counter, published), (epoch, (one, (tt, tt)))))

  below_first : (home : Home) (first : SiteRecord) → 2 ^ 62 ≤ n → 2 ^ 31 ≤ m → Found.IsBelow first → Each (IsBelow n m) (first ∷ (site_reads_as first ++ foundation home))
  below_first home (Rec.Checkpoint sum) le less (epoch, counter, published, doubtful) = (
    tt,
    subst (Each (IsBelow n m)) (sym (in_parts home sum))
        (below_held sum.doubtful (beside home sum) le doubtful
        (below_local sum.counter sum.locals _ (omega arith) (below_owner home sum.owner sum (omega arith) (omega arith) (omega arith) (omega arith)))),
  )
  below_first home (Rec.Setup site engine protocol items) le less b = (tt, (omega arith, (omega arith, (tt, tt))))
  below_first home (Rec.Start epoch) le less b = (omega arith, (omega arith, (omega arith, (tt, tt))))
  below_first home (Rec.Prepared t e number ticket writes) le less b = let low = b.1 in let top = b.3 in ((omega arith, omega arith), (omega arith, (omega arith, (tt, tt))))
  below_first home (Rec.Ended t d) le less b = (tt, (omega arith, (omega arith, (tt, tt))))
  below_first home (Rec.Local t number writes) le less b = let low = b.1 in (omega arith, (omega arith, (omega arith, (tt, tt))))

  below_read : (home : Home) (newest : SiteRecord) (older : List SiteRecord) → 2 ^ 62 ≤ n → 2 ^ 31 ≤ m → Each Found.IsBelow (newest ∷ older) → Each (IsBelow n m) (all_read home newest older)
  below_read home first [] le less b = below_first home first le less b.0
  below_read home newest (next ∷ older) le less b = (by_record newest b.0, below_read home next older le less b.1) where
    by_record : (r : SiteRecord) → Found.IsBelow r → IsBelow n m r
    by_record (Rec.Checkpoint sum) h = tt
    by_record (Rec.Setup site engine protocol items) h = tt
    by_record (Rec.Start epoch) h = omega arith
    by_record (Rec.Prepared t e number ticket writes) h = let low = h.1 in let top = h.3 in (omega arith, omega arith)
    by_record (Rec.Ended t d) h = tt
    by_record (Rec.Local t number writes) h = let low = h.1 in omega arith

below_opened : (home : Home) (past : SitePast) → IsOpened home past → AreBelow home past
below_opened home past o = subst (AreBelow home) (sym o.is) (from o.journal.records o.journal.torn o.usable.below o.is_home) where
  from : (rs : List SiteRecord) (torn : ℕ) → Each Found.IsBelow rs → home_of_first (first_of rs) ≡ Some home → AreBelow home (opened_site (record { records = rs; torn = torn }))
  from [] torn b is = cc
  from (newest ∷ older) torn b is =
      let past : SitePast = opened_site (record { records = newest ∷ older; torn = torn }) in
      let n = number_bound past in
      let m = epoch_bound past in
      let is_n = number_bound_is past in
      let is_m = epoch_bound_is past in
      let kept : Each (IsBelow n m) (records home past) =
      subst (Each (IsBelow n m)) (sym (opened_is home newest older torn (torn_short torn))) (below_read n m home newest older (omega (arith, is_n)) (omega (arith, is_m)) b) in
      record { kept = kept; counter = last_below n m (records home past) kept }

pub are_below : (home : Home) (past : SitePast) → IsGoingOn home past → AreBelow home past
are_below home [] made = record { kept = (omega arith, (tt, tt)); counter = omega arith }
are_below home (x ∷ past) (inl opened) = below_opened home (x ∷ past) opened
are_below home (x ∷ past) (inr (line, made)) =
    let b = are_below home past made in
    let whole : IsGoingOn home (x ∷ past) = inr (line, made) in
    more_below home past x made whole (subst (IsSmall (suc (number_bound past)) (suc (epoch_bound past))) (sym line.is) (small_next home past made b x.event)) b

-- the next line of a past that events made
pub made_small : (home : Home) (past : SitePast) → IsGoingOn home past → (event : SiteEvent) → IsSmall (suc (number_bound past)) (suc (epoch_bound past)) (site_line home past event)
made_small home past made event = small_next home past made (are_below home past made) event

pub number_fits : (home : Home) (past : SitePast) → IsGoingOn home past → length past < 2 ^ 30 → NumberFits home past
number_fits home past made short = let le = (are_below home past made).counter in let is = number_bound_is past in omega arith

pub epoch_fits : (home : Home) (past : SitePast) → IsGoingOn home past → length past < 2 ^ 30 → EpochFits home past
epoch_fits home past made short = let le = epoch_below (number_bound past) (epoch_bound past) (records home past) (are_below home past made).kept in let is = epoch_bound_is past in omega arith

pub published_fits : (home : Home) (past : SitePast) → IsGoingOn home past → length past < 2 ^ 30 → published (epoch_start home past) (engine_lines past) + 1 < 2 ^ 64
published_fits home past made short =
    let most = made_published home past made in
    let le = ticket_below (number_bound past) (epoch_bound past) (records home past) (are_below home past made).kept in
    let is = number_bound_is past in
    omega arith
