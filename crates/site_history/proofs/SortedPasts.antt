-- Where the events of a site are sorted, so are its records, and no attempt begins as a local one while the site is in doubt of it.
use Rattle.std.proofs.Common.{◌≡◌, ℕ, ◌+◌, Bool, true, false, cond, Option, Some, None, List, [], ◌∷◌, ◌++◌, take, refl}
use Rattle.std.specs.Prelude.{nat_le, length}
use Rattle.mdb_base.specs.declared.names.Tx.{Tx}
use Rattle.mdb_base.specs.Words.{Each, when}
use Rattle.fed_rules.specs.declared.answers.Answer.TheVariants as Say
use Rattle.fed_rules.specs.declared.events.SiteEvent.{SiteEvent}
use Rattle.fed_rules.specs.declared.events.SiteEvent.TheVariants as Ev
use Rattle.fed_rules.specs.declared.records.SiteRecord.{SiteRecord}
use Rattle.fed_rules.specs.declared.records.SiteRecord.TheVariants.{Start}
use Rattle.fed_rules.specs.Disk.{Append, Call, CutBack, TrimFront, Stops, Sync, is_torn}
use Rattle.fed_rules.specs.Happenings.{Trip, is_down, stopped, tripped}
use Rattle.fed_rules.specs.Runs.{EngineLine}
use Rattle.fed_rules.specs.Site.{answered, of_back, site_line, site_past, unless_tripped}
use Rattle.fed_rules.specs.SitePast.{SiteHappening, SitePast, disk, epoch, records, trip}
use Rattle.fed_rules.specs.SiteRecords.{Home, site_frame}
use Rattle.site_history.specs.Events.{AreFresh, AreSorted, IsFresh, IsSorted}
use Rattle.site_history.proofs.Agreement.{IsKept}
use Rattle.site_history.proofs.Histories.{IsSortedRecord, no_local_doubt}
use Rattle.site_history.proofs.Moves.{Moves, OnlySyncs, move_answered, rests, begins_local, begins_work, goes_on, commits_local, prepares_run, settles_held, checks_sum}
use Rattle.site_history.proofs.RightLines.{is_back, kept_first, kept_line}
use Rattle.site_history.proofs.Starts.{EachAppend, append_take, each_after}

-- each record that the line appends is sorted
record AppendsSorted (local : Tx → Bool) (x : SiteHappening) : Type 0 where
  appends : EachAppend (IsSortedRecord local) x.calls

sorted_syncs : (local : Tx → Bool) (rest : List (Call SiteRecord)) → OnlySyncs rest → EachAppend (IsSortedRecord local) rest
sorted_syncs local [] s = tt
sorted_syncs local (Sync ∷ rest) s = sorted_syncs local rest s
sorted_syncs local (Append newest ∷ rest) s = elim s [ ]
sorted_syncs local (CutBack ∷ rest) s = elim s [ ]
sorted_syncs local (TrimFront ∷ rest) s = sorted_syncs local rest s
sorted_syncs local (Stops cut ∷ rest) s = elim s [ ]

sorted_moves : (home : Home) (past : SitePast) (local : Tx → Bool) (event : SiteEvent) (calls : List (Call SiteRecord)) (lines : List EngineLine)
    → Moves home past local event calls lines → EachAppend (IsSortedRecord local) calls
sorted_moves home past local event calls lines rests = tt
sorted_moves home past local event calls lines (begins_local mine free none) = tt
sorted_moves home past local event calls lines (begins_work others none fresh) = tt
sorted_moves home past local event calls lines (goes_on run here calm) = tt
sorted_moves home past local event calls lines (commits_local run mine here) = (mine, tt)
sorted_moves home past local event calls lines (prepares_run asks run asked others here took) = (others, tt)
sorted_moves home past local event calls lines (checks_sum is) = (tt, tt)
sorted_moves home past local event calls lines (settles_held {rest = rest} held doubt synced just) = (tt, sorted_syncs local rest synced)

sorted_when : (local : Tx → Bool) (b : Bool) (x y : SiteHappening) → AppendsSorted local x → AppendsSorted local y → AppendsSorted local (when b x y)
unfolding when
sorted_when local true x y p q = p
sorted_when local false x y p q = q

sorted_stopped : (home : Home) (past : SitePast) (local : Tx → Bool) (event : SiteEvent) (calls : List (Call SiteRecord))
    → EachAppend (IsSortedRecord local) calls → AppendsSorted local (stopped site_frame (disk home past) event calls)
unfolding stopped
sorted_stopped home past local event calls a = record { appends = a }

sorted_tripped : (home : Home) (past : SitePast) (local : Tx → Bool) (o : Option Trip) (x : SiteHappening) → AppendsSorted local x
    → AppendsSorted local (tripped site_frame (disk home past) o x)
unfolding tripped
sorted_tripped home past local None x s = s
sorted_tripped home past local (Some t) x s =
    sorted_when local (nat_le t.calls (length x.calls)) (stopped site_frame (disk home past) x.event (take t.calls x.calls ++ Stops t.cut ∷ [])) x
    (sorted_stopped home past local x.event (take t.calls x.calls ++ Stops t.cut ∷ [])
    (append_take (IsSortedRecord local) t.calls x.calls (Stops t.cut ∷ []) s.appends tt))
    s

sorted_back : (home : Home) (past : SitePast) (local : Tx → Bool) → AppendsSorted local (of_back home past)
unfolding of_back
sorted_back home past local = record { appends = by_torn (is_torn site_frame (disk home past)) (epoch home past + 1) }
  where
    by_torn : (b : Bool) (n : ℕ) → EachAppend (IsSortedRecord local) (cond b (CutBack ∷ []) [] ++ Append (Start n) ∷ Sync ∷ [])
    by_torn true n = (tt, tt)
    by_torn false n = (tt, tt)

sorted_up : (home : Home) (past : SitePast) (local : Tx → Bool) (event : SiteEvent) → IsKept home past → IsSorted local event
    → IsFresh home past event → is_back event ≡ false
    → AppendsSorted local (when (is_down past) (record { event = event; answer = Say.Down; sends = []; calls = []; lines = [] })
    (unless_tripped home past (answered home past event)))
sorted_up home past local event k sorted fresh b =
    let x = answered home past event in
    sorted_when local (is_down past) (record { event = event; answer = Say.Down; sends = []; calls = []; lines = [] })
    (unless_tripped home past (answered home past event)) (record { appends = tt })
    (sorted_tripped home past local (trip past) x
    (record { appends = sorted_moves home past local event x.calls x.lines (move_answered home past local event k sorted fresh b).moves }))

sorted_line : (home : Home) (past : SitePast) (local : Tx → Bool) (event : SiteEvent) → IsKept home past → IsSorted local event
    → IsFresh home past event → AppendsSorted local (site_line home past event)
unfolding site_line
sorted_line home past local (Ev.Trip calls cut) k sorted fresh = record { appends = tt }
sorted_line home past local (Ev.Halt cut) k sorted fresh =
    sorted_when local (is_down past) _ _ (record { appends = tt }) (sorted_stopped home past local (Ev.Halt cut) (Stops cut ∷ []) tt)
sorted_line home past local Ev.Back k sorted fresh =
    sorted_when local (is_down past) _ _ (sorted_tripped home past local (trip past) (of_back home past) (sorted_back home past local))
    (record { appends = tt })
sorted_line home past local (Ev.Begin tid) k sorted fresh = sorted_up home past local (Ev.Begin tid) k sorted fresh refl
sorted_line home past local (Ev.Act tid act) k sorted fresh = sorted_up home past local (Ev.Act tid act) k sorted fresh refl
sorted_line home past local (Ev.Commit tid) k sorted fresh = sorted_up home past local (Ev.Commit tid) k sorted fresh refl
sorted_line home past local (Ev.Abort tid) k sorted fresh = sorted_up home past local (Ev.Abort tid) k sorted fresh refl
sorted_line home past local (Ev.Fate tx) k sorted fresh = sorted_up home past local (Ev.Fate tx) k sorted fresh refl
sorted_line home past local (Ev.Give message) k sorted fresh = sorted_up home past local (Ev.Give message) k sorted fresh refl
sorted_line home past local (Ev.Ask tid) k sorted fresh = sorted_up home past local (Ev.Ask tid) k sorted fresh refl
sorted_line home past local (Ev.Drop tid) k sorted fresh = sorted_up home past local (Ev.Drop tid) k sorted fresh refl
sorted_line home past local Ev.Check k sorted fresh = sorted_up home past local Ev.Check k sorted fresh refl

-- a sorted event is fresh
pub fresh_sorted : (home : Home) (past : SitePast) (local : Tx → Bool) (event : SiteEvent) → Each (IsSortedRecord local) (records home past)
    → IsSorted local event → IsFresh home past event
fresh_sorted home past local (Ev.Begin tid) rs sorted = no_local_doubt local (records home past) tid rs sorted
fresh_sorted home past local (Ev.Act tid act) rs sorted = tt
fresh_sorted home past local (Ev.Commit tid) rs sorted = tt
fresh_sorted home past local (Ev.Abort tid) rs sorted = tt
fresh_sorted home past local (Ev.Fate tx) rs sorted = tt
fresh_sorted home past local (Ev.Give message) rs sorted = tt
fresh_sorted home past local (Ev.Ask tid) rs sorted = tt
fresh_sorted home past local (Ev.Drop tid) rs sorted = tt
fresh_sorted home past local (Ev.Halt cut) rs sorted = tt
fresh_sorted home past local (Ev.Trip calls cut) rs sorted = tt
fresh_sorted home past local Ev.Back rs sorted = tt
fresh_sorted home past local Ev.Check rs sorted = tt

pub record IsSortedPast (home : Home) (local : Tx → Bool) (events : List SiteEvent) : Type 0 where
  pub fresh : AreFresh home events
  pub kept : IsKept home (site_past home events)
  pub records : Each (IsSortedRecord local) (records home (site_past home events))

pub sorted_past : (home : Home) (local : Tx → Bool) (events : List SiteEvent) → AreSorted local events → IsSortedPast home local events
sorted_past home local [] sorted = record { fresh = tt; kept = kept_first home; records = (tt, (tt, tt)) }
sorted_past home local (event ∷ events) (now, before) =
    let s = sorted_past home local events before in
    let past = site_past home events in
    let fresh = fresh_sorted home past local event s.records now in
    record {
      fresh = (fresh, s.fresh);
      kept = kept_line home past event s.kept fresh;
      records = each_after site_frame (IsSortedRecord local) (disk home past) (site_line home past event).calls s.records
          (sorted_line home past local event s.kept now fresh).appends;
    }

-- sorted events are fresh
pub are_fresh : (home : Home) (local : Tx → Bool) (events : List SiteEvent) → AreSorted local events → AreFresh home events
are_fresh home local events sorted = (sorted_past home local events sorted).fresh
