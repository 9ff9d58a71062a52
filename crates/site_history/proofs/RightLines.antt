-- Each line of a site is a good one, so the engine lines of every past are right.
use Rattle.std.proofs.Common.{◌≡◌, Bool, true, false, cond, List, [], ◌∷◌, ◌++◌, refl}
use Rattle.std.specs.Prelude.{◌+◌, nat_lt}
use Rattle.mdb_base.specs.Words.{when}
use Rattle.fed_rules.specs.declared.answers.Answer.TheVariants as Say
use Rattle.fed_rules.specs.declared.events.SiteEvent.{SiteEvent}
use Rattle.fed_rules.specs.declared.events.SiteEvent.TheVariants as Ev
use Rattle.fed_rules.specs.declared.records.SiteRecord.{SiteRecord}
use Rattle.fed_rules.specs.declared.records.SiteRecord.TheVariants as Rec
use Rattle.fed_rules.specs.Disk.{CutBack, Append, Sync, Stops, is_torn, longest, TrimFront}
use Rattle.fed_rules.specs.EngineLines.{IsRight}
use Rattle.fed_rules.specs.Happenings.{is_down, quiet}
use Rattle.fed_rules.specs.Site.{answered, of_back, site_line, site_past, unless_tripped, of_check, checkpoint}
use Rattle.fed_rules.specs.SitePast.{SitePast, SiteHappening, disk, epoch, epoch_start, engine_lines, records, trip}
use Rattle.fed_rules.specs.SiteRecords.{Home, site_frame, site_payload}
use Rattle.site_history.specs.Events.{IsFresh, AreFresh}
use Rattle.site_history.specs.Lines.{HasRightLines, LinesAreRight}
use Rattle.site_history.proofs.Starts.{HasRisingWrites, EachAppend, each_after, start_agrees}
use Rattle.site_history.proofs.Agreement.{IsKept, IsGoodLine, kept_good, kept_start, kept_stopped, kept_tripped, still, summed}
use Rattle.site_history.proofs.LocalLines.{good_abort, good_act, good_ask, good_begin, good_commit, good_drop, good_fate}
use Rattle.site_history.proofs.MessageLines.{good_give}
use Rattle.fed_rules.specs.SiteSums.{site_sum}

-- whether the event starts the site again
abbrev pub is_back : SiteEvent → Bool
is_back Ev.Back = true
is_back event = false

good_check : (home : Home) (past : SitePast) → IsKept home past → IsGoodLine home past (of_check home past)
unfolding of_check when
good_check home past k = by_size (nat_lt longest (site_payload (checkpoint home past)))
  where
    by_size : (b : Bool) → IsGoodLine home past (when b (quiet Ev.Check Say.Large)
        (record { event = Ev.Check; answer = Say.Checked; sends = []; calls = Append (checkpoint home past) ∷ Sync ∷ TrimFront ∷ []; lines = [] }))
    by_size true = still home past Ev.Check Say.Large [] k refl
    by_size false = summed home past Ev.Check Say.Checked (site_sum home (records home past)) k refl

-- what a site that is up answers is a good line
pub good_answered : (home : Home) (past : SitePast) (event : SiteEvent) → IsKept home past → IsFresh home past event → is_back event ≡ false
    → IsGoodLine home past (answered home past event)
unfolding answered
good_answered home past (Ev.Begin tid) k fresh b = good_begin home past tid k fresh
good_answered home past (Ev.Act tid act) k fresh b = good_act home past tid act k
good_answered home past (Ev.Commit tid) k fresh b = good_commit home past tid k
good_answered home past (Ev.Abort tid) k fresh b = good_abort home past tid k
good_answered home past (Ev.Fate tx) k fresh b = good_fate home past tx k
good_answered home past (Ev.Give message) k fresh b = good_give home past message k
good_answered home past (Ev.Ask tid) k fresh b = good_ask home past tid k
good_answered home past (Ev.Drop tid) k fresh b = good_drop home past tid k
good_answered home past (Ev.Halt cut) k fresh b = still home past (Ev.Halt cut) Say.Down [] k refl
good_answered home past (Ev.Trip calls cut) k fresh b = still home past (Ev.Trip calls cut) Say.Set [] k refl
good_answered home past Ev.Back k fresh b = cc
good_answered home past Ev.Check k fresh b = good_check home past k

-- one more line with no engine line, of a site that is up or down
quiet_kept : (home : Home) (past : SitePast) (event : SiteEvent) → IsKept home past
    → IsKept home (record { event = event; answer = Say.Down; sends = []; calls = []; lines = [] } ∷ past)
quiet_kept home past event k = kept_good home past _ k (still home past event Say.Down [] k refl)

kept_when : (home : Home) (past : SitePast) (b : Bool) (x y : SiteHappening) → IsKept home (x ∷ past) → IsKept home (y ∷ past)
    → IsKept home (when b x y ∷ past)
unfolding when
kept_when home past true x y p q = p
kept_when home past false x y p q = q

pub back_appends : (b : Bool) (n : SiteRecord) → HasRisingWrites n → EachAppend HasRisingWrites (cond b (CutBack ∷ []) [] ++ Append n ∷ Sync ∷ [])
back_appends true n h = (h, tt)
back_appends false n h = (h, tt)

back_calls : (home : Home) (past : SitePast) → EachAppend HasRisingWrites (of_back home past).calls
unfolding of_back
back_calls home past = back_appends (is_torn site_frame (disk home past)) (Rec.Start (epoch home past + 1)) tt

-- a site that comes up
kept_back : (home : Home) (past : SitePast) → IsKept home past → IsKept home (of_back home past ∷ past)
unfolding of_back
kept_back home past k =
    kept_start home past (of_back home past) refl
    (each_after site_frame HasRisingWrites (disk home past) (of_back home past).calls k.rising (back_calls home past))

back_right : (home : Home) (past : SitePast) → IsKept home past → IsRight (epoch_start home past) ((of_back home past).lines ++ engine_lines past)
unfolding of_back
back_right home past k = k.right

kept_up : (home : Home) (past : SitePast) (event : SiteEvent) → IsKept home past → IsFresh home past event → is_back event ≡ false
    → IsKept home (when (is_down past) (record { event = event; answer = Say.Down; sends = []; calls = []; lines = [] })
    (unless_tripped home past (answered home past event)) ∷ past)
kept_up home past event k fresh b =
    let good = good_answered home past event k fresh b in
    kept_when home past (is_down past) _ _ (quiet_kept home past event k)
    (kept_tripped home past (trip past) (answered home past event) k (kept_good home past (answered home past event) k good) good.appends)

-- the past with the next line
pub kept_line : (home : Home) (past : SitePast) (event : SiteEvent) → IsKept home past → IsFresh home past event
    → IsKept home (site_line home past event ∷ past)
unfolding site_line
kept_line home past (Ev.Trip calls cut) k fresh = kept_good home past _ k (still home past (Ev.Trip calls cut) Say.Set [] k refl)
kept_line home past (Ev.Halt cut) k fresh =
    kept_when home past (is_down past) _ _ (quiet_kept home past (Ev.Halt cut) k)
    (kept_stopped home past (Ev.Halt cut) (Stops cut ∷ []) k tt)
kept_line home past Ev.Back k fresh =
    kept_when home past (is_down past) _ _
    (kept_tripped home past (trip past) (of_back home past) k (kept_back home past k) (back_calls home past))
    (kept_good home past _ k (still home past Ev.Back Say.Awake [] k refl))
kept_line home past (Ev.Begin tid) k fresh = kept_up home past (Ev.Begin tid) k fresh refl
kept_line home past (Ev.Act tid act) k fresh = kept_up home past (Ev.Act tid act) k fresh refl
kept_line home past (Ev.Commit tid) k fresh = kept_up home past (Ev.Commit tid) k fresh refl
kept_line home past (Ev.Abort tid) k fresh = kept_up home past (Ev.Abort tid) k fresh refl
kept_line home past (Ev.Fate tx) k fresh = kept_up home past (Ev.Fate tx) k fresh refl
kept_line home past (Ev.Give message) k fresh = kept_up home past (Ev.Give message) k fresh refl
kept_line home past (Ev.Ask tid) k fresh = kept_up home past (Ev.Ask tid) k fresh refl
kept_line home past (Ev.Drop tid) k fresh = kept_up home past (Ev.Drop tid) k fresh refl
kept_line home past Ev.Check k fresh = kept_up home past Ev.Check k fresh refl

pub kept_first : (home : Home) → IsKept home []
kept_first home = record {
  kind = refl;
  right = tt;
  agrees = start_agrees home (records home []) (tt, (tt, tt));
  rising = (tt, (tt, tt));
}

pub kept_past : (home : Home) (events : List SiteEvent) → AreFresh home events → IsKept home (site_past home events)
kept_past home [] fresh = kept_first home
kept_past home (event ∷ events) (now, before) =
    kept_line home (site_past home events) event (kept_past home events before) now

-- the next engine lines, also where a trip comes
next_right : (home : Home) (past : SitePast) (event : SiteEvent) → IsKept home past → IsFresh home past event
    → IsRight (epoch_start home past) ((answered home past event).lines ++ engine_lines past)
unfolding answered
next_right home past Ev.Back k fresh = back_right home past k
next_right home past (Ev.Halt cut) k fresh = k.right
next_right home past (Ev.Trip calls cut) k fresh = k.right
next_right home past (Ev.Begin tid) k fresh = (good_begin home past tid k fresh).right
next_right home past (Ev.Act tid act) k fresh = (good_act home past tid act k).right
next_right home past (Ev.Commit tid) k fresh = (good_commit home past tid k).right
next_right home past (Ev.Abort tid) k fresh = (good_abort home past tid k).right
next_right home past (Ev.Fate tx) k fresh = (good_fate home past tx k).right
next_right home past (Ev.Give message) k fresh = (good_give home past message k).right
next_right home past (Ev.Ask tid) k fresh = (good_ask home past tid k).right
next_right home past (Ev.Drop tid) k fresh = (good_drop home past tid k).right
next_right home past Ev.Check k fresh = (good_check home past k).right

pub right_of_kept : (home : Home) (past : SitePast) → IsKept home past → HasRightLines home past
right_of_kept home past k = record { right = k.right; next = λ event now. next_right home past event k now; sealed = k.agrees }

pub lines_right : LinesAreRight
lines_right home events fresh = right_of_kept home (site_past home events) (kept_past home events fresh)
