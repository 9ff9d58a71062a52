-- In every past that sorted events make the journal on the disk says what all records say.
use Rattle.std.proofs.Common.{◌≡◌, Bool, true, false, cond, Option, Some, None, List, [], ◌∷◌, ◌++◌, take, refl, sym, ap, inl, arith}
use Rattle.std.specs.Prelude.{nat_le, length, ◌+◌}
use Rattle.mdb_base.specs.declared.names.Tx.{Tx}
use Rattle.mdb_base.specs.Words.{when}
use Rattle.fed_rules.specs.declared.answers.Answer.TheVariants as Say
use Rattle.fed_rules.specs.declared.events.SiteEvent.{SiteEvent}
use Rattle.fed_rules.specs.declared.events.SiteEvent.TheVariants as Ev
use Rattle.fed_rules.specs.declared.records.SiteRecord.{SiteRecord}
use Rattle.fed_rules.specs.declared.records.SiteRecord.TheVariants.{Start}
use Rattle.fed_rules.specs.Disk.{Append, Call, CutBack, TrimFront, Stops, Sync, Disk, after_call, is_torn}
use Rattle.fed_rules.specs.Happenings.{Trip, is_down, stopped, tripped}
use Rattle.fed_rules.specs.Runs.{EngineLine}
use Rattle.fed_rules.specs.Site.{answered, of_back, site_line, site_past, site_past_on, unless_tripped}
use Rattle.fed_rules.specs.SitePast.{SiteHappening, SitePast, disk, epoch, journal, records, trip}
use Rattle.fed_rules.specs.SiteRecords.{Home, site_frame, start_of}
use Rattle.fed_rules.specs.SiteSums.{journal_sum, site_sum, start_from}
use Rattle.fed_rules.specs.Durable.{IsSound}
use Rattle.site_history.specs.Events.{AreSorted, IsFresh, IsSorted}
use Rattle.site_history.specs.SiteOrders.{OfSortedEvents}
use Rattle.site_history.proofs.Histories.{no_local_doubt}
use Rattle.site_history.proofs.Moves.{Moves, JustSyncs, move_answered, rests, begins_local, begins_work, goes_on, commits_local, prepares_run, settles_held, checks_sum}
use Rattle.site_history.proofs.RightLines.{is_back}
use Rattle.site_history.proofs.WellKept.{IsWellKept, well_first, well_on}
use Rattle.site_history.proofs.InOrderPasts.{OrdersPast, comes_in_order, orders_on}
use Rattle.site_history.proofs.Journals.{Fits, IsSummed, fits_stopped, journal_says_all, summed_calls}

syncs_fit : (home : Home) (calls : List (Call SiteRecord)) (d : Disk SiteRecord) → JustSyncs calls → Fits home d calls
syncs_fit home [] d s = tt
syncs_fit home (Sync ∷ calls) d s = syncs_fit home calls (after_call site_frame d Sync) s
syncs_fit home (Append r ∷ calls) d s = elim s [ ]
syncs_fit home (CutBack ∷ calls) d s = elim s [ ]
syncs_fit home (TrimFront ∷ calls) d s = elim s [ ]
syncs_fit home (Stops c ∷ calls) d s = elim s [ ]

move_fits : (home : Home) (past : SitePast) (local : Tx → Bool) (event : SiteEvent) (calls : List (Call SiteRecord)) (lines : List EngineLine)
    → IsSound site_frame (disk home past) → Moves home past local event calls lines → Fits home (disk home past) calls
move_fits home past local event calls lines s rests = tt
move_fits home past local event calls lines s (begins_local mine free none) = tt
move_fits home past local event calls lines s (begins_work others none fresh) = tt
move_fits home past local event calls lines s (goes_on run here calm) = tt
move_fits home past local event calls lines s (commits_local run mine here) = tt
move_fits home past local event calls lines s (prepares_run n run asked others here took) = tt
move_fits home past local event calls lines s (settles_held {rest = rest} held doubt synced just) = syncs_fit home rest _ just
move_fits home past local event calls lines s (checks_sum {sum = sum} is) =
    (is, ((sum, records home past, refl, (let h = s.frames in omega (arith, h))), tt))

pub record SummedPast (home : Home) (past : SitePast) : Type 0 where
  pub summed : IsSummed home (disk home past)

summed_when : (home : Home) (past : SitePast) (b : Bool) (x y : SiteHappening) → SummedPast home (x ∷ past) → SummedPast home (y ∷ past)
    → SummedPast home (when b x y ∷ past)
unfolding when
summed_when home past true x y p q = p
summed_when home past false x y p q = q

summed_whole : (home : Home) (past : SitePast) (x : SiteHappening) → SummedPast home past → Fits home (disk home past) x.calls → SummedPast home (x ∷ past)
summed_whole home past x s f = record { summed = summed_calls home (disk home past) x.calls f s.summed }

summed_stopped : (home : Home) (past : SitePast) (event : SiteEvent) (calls : List (Call SiteRecord)) → SummedPast home past → Fits home (disk home past) calls
    → SummedPast home (stopped site_frame (disk home past) event calls ∷ past)
unfolding stopped
summed_stopped home past event calls s f = summed_whole home past (stopped site_frame (disk home past) event calls) s f

summed_tripped : (home : Home) (past : SitePast) (o : Option Trip) (x : SiteHappening) → SummedPast home past → Fits home (disk home past) x.calls
    → SummedPast home (tripped site_frame (disk home past) o x ∷ past)
unfolding tripped
summed_tripped home past None x s f = summed_whole home past x s f
summed_tripped home past (Some t) x s f =
    summed_when home past (nat_le t.calls (length x.calls)) _ x
    (summed_stopped home past x.event (take t.calls x.calls ++ Stops t.cut ∷ []) s (fits_stopped home t.calls t.cut x.calls (disk home past) f))
    (summed_whole home past x s f)

quiet_line : (home : Home) (past : SitePast) (event : SiteEvent) → SummedPast home past
    → SummedPast home (record { event = event; answer = Say.Down; sends = []; calls = []; lines = [] } ∷ past)
quiet_line home past event s = summed_whole home past (record { event = event; answer = Say.Down; sends = []; calls = []; lines = [] }) s tt

up : (home : Home) (local : Tx → Bool) (past : SitePast) (event : SiteEvent) → IsWellKept home local past → SummedPast home past → IsSorted local event
    → IsFresh home past event → is_back event ≡ false
    → SummedPast home (when (is_down past) (record { event = event; answer = Say.Down; sends = []; calls = []; lines = [] })
    (unless_tripped home past (answered home past event)) ∷ past)
up home local past event h s sorted fresh b =
    let x = answered home past event in
    let m = move_answered home past local event h.kept sorted fresh b in
    summed_when home past (is_down past) (record { event = event; answer = Say.Down; sends = []; calls = []; lines = [] })
    (unless_tripped home past (answered home past event)) (quiet_line home past event s)
    (summed_tripped home past (trip past) x s (move_fits home past local event x.calls x.lines s.summed.sound m.moves))

back_line : (home : Home) (past : SitePast) → SummedPast home past → SummedPast home (unless_tripped home past (of_back home past) ∷ past)
unfolding of_back
back_line home past s = summed_tripped home past (trip past) (of_back home past) s (by_torn (is_torn site_frame (disk home past)))
  where
    by_torn : (b : Bool) → Fits home (disk home past) (cond b (CutBack ∷ []) [] ++ Append (Start (epoch home past + 1)) ∷ Sync ∷ [])
    by_torn true = tt
    by_torn false = tt

next_line : (home : Home) (local : Tx → Bool) (past : SitePast) (event : SiteEvent) → IsWellKept home local past → SummedPast home past → IsSorted local event
    → SummedPast home (site_line home past event ∷ past)
unfolding site_line
next_line home local past (Ev.Trip calls cut) h s sorted = summed_whole home past _ s tt
next_line home local past (Ev.Halt cut) h s sorted =
    summed_when home past (is_down past) _ _ (quiet_line home past (Ev.Halt cut) s) (summed_stopped home past (Ev.Halt cut) (Stops cut ∷ []) s tt)
next_line home local past Ev.Back h s sorted = summed_when home past (is_down past) _ _ (back_line home past s) (summed_whole home past _ s tt)
next_line home local past (Ev.Begin tid) h s sorted =
    up home local past (Ev.Begin tid) h s sorted (no_local_doubt local (records home past) tid h.sorted sorted) refl
next_line home local past (Ev.Act tid act) h s sorted = up home local past (Ev.Act tid act) h s sorted tt refl
next_line home local past (Ev.Commit tid) h s sorted = up home local past (Ev.Commit tid) h s sorted tt refl
next_line home local past (Ev.Abort tid) h s sorted = up home local past (Ev.Abort tid) h s sorted tt refl
next_line home local past (Ev.Fate tx) h s sorted = up home local past (Ev.Fate tx) h s sorted tt refl
next_line home local past (Ev.Give message) h s sorted = up home local past (Ev.Give message) h s sorted tt refl
next_line home local past (Ev.Ask tid) h s sorted = up home local past (Ev.Ask tid) h s sorted tt refl
next_line home local past (Ev.Drop tid) h s sorted = up home local past (Ev.Drop tid) h s sorted tt refl
next_line home local past Ev.Check h s sorted = up home local past Ev.Check h s sorted tt refl

-- what further events make of a past that is well kept and summed
pub summed_on : (home : Home) (local : Tx → Bool) (first : SitePast) → IsWellKept home local first → SummedPast home first → (events : List SiteEvent)
    → AreSorted local events → SummedPast home (site_past_on home first events)
summed_on home local first w s [] sorted = s
summed_on home local first w s (event ∷ events) (now, before) =
    next_line home local (site_past_on home first events) event (well_on home local first w events before) (summed_on home local first w s events before) now

summed_past : (home : Home) (local : Tx → Bool) (events : List SiteEvent) → AreSorted local events → SummedPast home (site_past home events)
summed_past home local events sorted = summed_on home local [] (well_first home local) (record {
  summed = record { sound = record { frames = omega arith; synced = omega arith }; sums = tt; front = inl refl };
}) events sorted

-- what stands on the disk of every past that sorted events make
pub pasts_summed : OfSortedEvents (λ home past. IsSummed home (disk home past))
pasts_summed home local events sorted = (summed_past home local events sorted).summed

-- the journal says what all records say
pub journals_say_all : OfSortedEvents (λ home past. journal_sum home (journal home past) ≡ site_sum home (records home past))
journals_say_all home local events sorted =
    let past = site_past home events in
    journal_says_all home (disk home past) (summed_past home local events sorted).summed (comes_in_order home local events sorted)

-- so a start of the site is told by its journal alone
pub journals_tell_starts : OfSortedEvents (λ home past. start_of home (records home past) ≡ start_from (journal_sum home (journal home past)))
journals_tell_starts home local events sorted = ap start_from (sym (journals_say_all home local events sorted))

-- so it goes on behind a past of which it holds
pub says_all_on : (home : Home) (local : Tx → Bool) (first : SitePast) → IsWellKept home local first → SummedPast home first → OrdersPast home first
    → (events : List SiteEvent) → AreSorted local events
    → journal_sum home (journal home (site_past_on home first events)) ≡ site_sum home (records home (site_past_on home first events))
says_all_on home local first w s o events sorted =
    journal_says_all home (disk home (site_past_on home first events)) (summed_on home local first w s events sorted).summed
    (orders_on home local first w o events sorted).orderly.all.order
