-- Why each record of a site stands where it does: a Setup first, a Start with the next epoch, an Ended behind a doubt, and a Local with a number.
use Rattle.std.proofs.Common.{◌≡◌, ℕ, ◌≤◌, Bool, true, false, cond, min, Option, Some, None, List, [], ◌∷◌, ◌++◌, take, zero, suc, refl, subst, arith}
use Rattle.std.specs.Prelude.{nat_le, length, ◌+◌}
use Rattle.mdb_base.specs.declared.names.Tx.{Tx}
use Rattle.mdb_base.specs.Words.{when}
use Rattle.fed_rules.specs.declared.answers.Answer.TheVariants as Say
use Rattle.fed_rules.specs.declared.events.SiteEvent.{SiteEvent}
use Rattle.fed_rules.specs.declared.events.SiteEvent.TheVariants as Ev
use Rattle.fed_rules.specs.declared.records.SiteRecord.{SiteRecord}
use Rattle.fed_rules.specs.declared.records.SiteRecord.TheVariants.{Setup, Start, Prepared, Ended, Local, Checkpoint}
use Rattle.fed_rules.specs.Disk.{Append, Call, CutBack, TrimFront, Stops, Sync, Disk, after_call, after_calls, is_torn, whole}
use Rattle.fed_rules.specs.EngineLines.{IsRight}
use Rattle.fed_rules.specs.Happenings.{Trip, is_down, stopped, tripped}
use Rattle.fed_rules.specs.Runs.{EngineLine}
use Rattle.fed_rules.specs.Site.{answered, number_of, of_back, site_line, site_past, unless_tripped}
use Rattle.fed_rules.specs.SitePast.{SiteHappening, SitePast, disk, engine_lines, epoch, epoch_start, records, trip}
use Rattle.fed_rules.specs.SiteRecords.{Held, Home, doubt_of, epoch_of, site_frame}
use Rattle.fed_rules.specs.Usable.{SetUpFirst}
use Rattle.fed_rules.proofs.ForCallers.{whole_front}
use Rattle.site_history.specs.Events.{AreSorted, IsFresh, IsSorted}
use Rattle.site_history.proofs.ForCallers.{IsWellKept, JustSyncs, Moves, begins_local, begins_work, checks_sum, commits_local, goes_on, good_answered, is_back, move_answered, no_local_doubt, prepares_run, rests, sealed_above, settles_held, well_past}

-- why the record stands on these
abbrev pub Writes : List SiteRecord → SiteRecord → Type 0
Writes rs (Setup site engine protocol items) = rs ≡ []
Writes rs (Start e) = e ≡ epoch_of rs + 1
Writes rs (Prepared t e n k w) = Unit {0}
Writes rs (Ended t d) = (held : Held) × (doubt_of rs t ≡ Some held)
Writes rs (Local t n w) = 1 ≤ n
Writes rs (Checkpoint sum) = Unit {0}

abbrev pub AreWritten : List SiteRecord → Type 0
AreWritten [] = Unit {0}
AreWritten (r ∷ rs) = Writes rs r × AreWritten rs

abbrev Fits : Disk SiteRecord → List (Call SiteRecord) → Type 0
Fits d [] = Unit {0}
Fits d (Append r ∷ calls) = Writes d.records r × Fits (after_call site_frame d (Append r)) calls
Fits d (call ∷ calls) = Fits (after_call site_frame d call) calls

pub written_front : (newer kept : List SiteRecord) → AreWritten (newer ++ kept) → AreWritten kept
written_front [] kept w = w
written_front (x ∷ newer) kept w = written_front newer kept w.1

written_calls : (d : Disk SiteRecord) (calls : List (Call SiteRecord)) → Fits d calls → AreWritten d.records → AreWritten (after_calls site_frame d calls).records
written_calls d [] f w = w
written_calls d (Append r ∷ calls) f w = written_calls (after_call site_frame d (Append r)) calls f.1 (f.0, w)
written_calls d (Sync ∷ calls) f w = written_calls (after_call site_frame d Sync) calls f w
written_calls d (CutBack ∷ calls) f w = written_calls (after_call site_frame d CutBack) calls f w
written_calls d (TrimFront ∷ calls) f w = written_calls (after_call site_frame d TrimFront) calls f w
written_calls d (Stops cut ∷ calls) f w =
    let place = min d.length (d.synced + cut) in
    let (newer, e) = whole_front site_frame place d.records in
    written_calls (after_call site_frame d (Stops cut)) calls f (written_front newer (whole site_frame place d.records) (subst AreWritten e w))

fits_stopped : (n cut : ℕ) (calls : List (Call SiteRecord)) (d : Disk SiteRecord) → Fits d calls → Fits d (take n calls ++ Stops cut ∷ [])
fits_stopped zero cut calls d f = tt
fits_stopped (suc n) cut [] d f = tt
fits_stopped (suc n) cut (Append r ∷ calls) d f = (f.0, fits_stopped n cut calls (after_call site_frame d (Append r)) f.1)
fits_stopped (suc n) cut (Sync ∷ calls) d f = fits_stopped n cut calls (after_call site_frame d Sync) f
fits_stopped (suc n) cut (CutBack ∷ calls) d f = fits_stopped n cut calls (after_call site_frame d CutBack) f
fits_stopped (suc n) cut (TrimFront ∷ calls) d f = fits_stopped n cut calls (after_call site_frame d TrimFront) f
fits_stopped (suc n) cut (Stops c ∷ calls) d f = fits_stopped n cut calls (after_call site_frame d (Stops c)) f

syncs_fit : (calls : List (Call SiteRecord)) (d : Disk SiteRecord) → JustSyncs calls → Fits d calls
syncs_fit [] d s = tt
syncs_fit (Sync ∷ calls) d s = syncs_fit calls (after_call site_frame d Sync) s
syncs_fit (Append r ∷ calls) d s = elim s [ ]
syncs_fit (CutBack ∷ calls) d s = elim s [ ]
syncs_fit (TrimFront ∷ calls) d s = elim s [ ]
syncs_fit (Stops c ∷ calls) d s = elim s [ ]

move_fits : (home : Home) (past : SitePast) (local : Tx → Bool) (event : SiteEvent) (calls : List (Call SiteRecord)) (lines : List EngineLine)
    → IsRight (epoch_start home past) (lines ++ engine_lines past) → Moves home past local event calls lines → Fits (disk home past) calls
move_fits home past local event calls lines s rests = tt
move_fits home past local event calls lines s (begins_local mine free none) = tt
move_fits home past local event calls lines s (begins_work others none fresh) = tt
move_fits home past local event calls lines s (goes_on run here calm) = tt
move_fits home past local event calls lines s (commits_local {tid = tid} run mine here) =
    (let above = sealed_above (epoch_start home past) (engine_lines past) tid (number_of home past run) run s.1 here.live in omega (arith, above), tt)
move_fits home past local event calls lines s (prepares_run n run asked others here took) = (tt, tt)
move_fits home past local event calls lines s (settles_held {rest = rest} held doubt synced just) = ((held, doubt), syncs_fit rest _ just)
move_fits home past local event calls lines s (checks_sum {sum = sum} is) = (tt, tt)

pub record WrittenPast (home : Home) (past : SitePast) : Type 0 where
  pub written : AreWritten (records home past)

written_when : (home : Home) (past : SitePast) (b : Bool) (x y : SiteHappening) → WrittenPast home (x ∷ past) → WrittenPast home (y ∷ past)
    → WrittenPast home (when b x y ∷ past)
unfolding when
written_when home past true x y p q = p
written_when home past false x y p q = q

written_whole : (home : Home) (past : SitePast) (x : SiteHappening) → WrittenPast home past → Fits (disk home past) x.calls → WrittenPast home (x ∷ past)
written_whole home past x s f = record { written = written_calls (disk home past) x.calls f s.written }

written_stopped : (home : Home) (past : SitePast) (event : SiteEvent) (calls : List (Call SiteRecord)) → WrittenPast home past → Fits (disk home past) calls
    → WrittenPast home (stopped site_frame (disk home past) event calls ∷ past)
unfolding stopped
written_stopped home past event calls s f = written_whole home past (stopped site_frame (disk home past) event calls) s f

written_tripped : (home : Home) (past : SitePast) (o : Option Trip) (x : SiteHappening) → WrittenPast home past → Fits (disk home past) x.calls
    → WrittenPast home (tripped site_frame (disk home past) o x ∷ past)
unfolding tripped
written_tripped home past None x s f = written_whole home past x s f
written_tripped home past (Some t) x s f =
    written_when home past (nat_le t.calls (length x.calls)) _ x
    (written_stopped home past x.event (take t.calls x.calls ++ Stops t.cut ∷ []) s (fits_stopped t.calls t.cut x.calls (disk home past) f))
    (written_whole home past x s f)

quiet_line : (home : Home) (past : SitePast) (event : SiteEvent) → WrittenPast home past
    → WrittenPast home (record { event = event; answer = Say.Down; sends = []; calls = []; lines = [] } ∷ past)
quiet_line home past event s = written_whole home past (record { event = event; answer = Say.Down; sends = []; calls = []; lines = [] }) s tt

up : (home : Home) (local : Tx → Bool) (past : SitePast) (event : SiteEvent) → IsWellKept home local past → WrittenPast home past → IsSorted local event
    → IsFresh home past event → is_back event ≡ false
    → WrittenPast home (when (is_down past) (record { event = event; answer = Say.Down; sends = []; calls = []; lines = [] })
    (unless_tripped home past (answered home past event)) ∷ past)
up home local past event h s sorted fresh b =
    let x = answered home past event in
    let m = move_answered home past local event h.kept sorted fresh b in
    written_when home past (is_down past) (record { event = event; answer = Say.Down; sends = []; calls = []; lines = [] })
    (unless_tripped home past (answered home past event)) (quiet_line home past event s)
    (written_tripped home past (trip past) x s (move_fits home past local event x.calls x.lines (good_answered home past event h.kept fresh b).right m.moves))

back_line : (home : Home) (past : SitePast) → WrittenPast home past → WrittenPast home (unless_tripped home past (of_back home past) ∷ past)
unfolding of_back
back_line home past s = written_tripped home past (trip past) (of_back home past) s (by_torn (is_torn site_frame (disk home past)))
  where
    by_torn : (b : Bool) → Fits (disk home past) (cond b (CutBack ∷ []) [] ++ Append (Start (epoch home past + 1)) ∷ Sync ∷ [])
    by_torn true = (refl, tt)
    by_torn false = (refl, tt)

next_line : (home : Home) (local : Tx → Bool) (past : SitePast) (event : SiteEvent) → IsWellKept home local past → WrittenPast home past → IsSorted local event
    → WrittenPast home (site_line home past event ∷ past)
unfolding site_line
next_line home local past (Ev.Trip calls cut) h s sorted = written_whole home past _ s tt
next_line home local past (Ev.Halt cut) h s sorted =
    written_when home past (is_down past) _ _ (quiet_line home past (Ev.Halt cut) s) (written_stopped home past (Ev.Halt cut) (Stops cut ∷ []) s tt)
next_line home local past Ev.Back h s sorted = written_when home past (is_down past) _ _ (back_line home past s) (written_whole home past _ s tt)
next_line home local past (Ev.Begin tid) h s sorted =
    up home local past (Ev.Begin tid) h s sorted (no_local_doubt local (records home past) tid h.sorted sorted) refl
next_line home local past (Ev.Act tid act) h s sorted = up home local past (Ev.Act tid act) h s sorted tt refl
next_line home local past (Ev.Commit tid) h s sorted = up home local past (Ev.Commit tid) h s sorted tt refl
next_line home local past (Ev.Abort tid) h s sorted = up home local past (Ev.Abort tid) h s sorted tt refl
next_line home local past (Ev.Fate tx) h s sorted = up home local past (Ev.Fate tx) h s sorted tt refl
next_line home local past (Ev.Give message) h s sorted = up home local past (Ev.Give message) h s sorted tt refl
next_line home local past (Ev.Ask tid) h s sorted = up home local past (Ev.Ask tid) h s sorted tt refl
next_line home local past (Ev.Drop tid) h s sorted = up home local past (Ev.Drop tid) h s sorted tt refl
next_line home local past Ev.Check h s sorted = up home local past Ev.Check h s sorted tt refl

pub written_past : (home : Home) (local : Tx → Bool) (events : List SiteEvent) → AreSorted local events → WrittenPast home (site_past home events)
written_past home local [] sorted = record { written = (refl, (refl, tt)) }
written_past home local (event ∷ events) (now, before) =
    next_line home local (site_past home events) event (well_past home local events before) (written_past home local events before) now

-- ---- one Setup

pub set_more : (x : SiteRecord) (rs rest : List SiteRecord) → Writes rs x → (rs ≡ [] → rest ≡ []) → SetUpFirst rest → SetUpFirst (x ∷ rest)
set_more x rs [] w none s = tt
set_more (Setup site engine protocol items) rs (y ∷ ys) w none s = let no_rest : y ∷ ys ≡ [] = none w in cc
set_more (Start e) rs (y ∷ ys) w none s = s
set_more (Prepared t e n k v) rs (y ∷ ys) w none s = s
set_more (Ended t d) rs (y ∷ ys) w none s = s
set_more (Local t n v) rs (y ∷ ys) w none s = s
set_more (Checkpoint sum) rs (y ∷ ys) w none s = s

pub set_all : (rs : List SiteRecord) → AreWritten rs → SetUpFirst rs
set_all [] w = tt
set_all (x ∷ rs) w = set_more x rs rs w.0 (λ e. e) (set_all rs w.1)

-- each record among them has its reason
pub written_at : (newer : List SiteRecord) (r : SiteRecord) (before : List SiteRecord) → AreWritten (newer ++ r ∷ before) → Writes before r
written_at [] r before w = w.0
written_at (x ∷ newer) r before w = written_at newer r before w.1
