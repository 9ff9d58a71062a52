-- What a site's past says: its disk and records, its epoch, its runs, which of them are live, and which attempts are closed.
use Rattle.std.specs.Prelude.{ℕ, Bool, false, cond, not, ◌&&◌, ◌||◌, Option, Some, None, List, [], ◌∷◌, ◌++◌}
use Rattle.mdb_base.specs.declared.names.Tid.{Tid}
use Rattle.mdb_base.specs.declared.names.Tx.{Tx}
use Rattle.mdb_base.specs.Names.{same_tid, same_tx}
use Rattle.mdb_base.specs.Words.{some_of, first_where, how_many, map_some}
use Rattle.fed_rules.specs.declared.answers.Answer.{Answer}
use Rattle.fed_rules.specs.declared.answers.Answer.TheVariants as Say
use Rattle.fed_rules.specs.declared.events.SiteEvent.{SiteEvent}
use Rattle.fed_rules.specs.declared.events.SiteEvent.TheVariants as Ev
use Rattle.fed_rules.specs.declared.messages.FromSite.{FromSite}
use Rattle.fed_rules.specs.declared.messages.ToSite.TheVariants as To
use Rattle.fed_rules.specs.declared.records.SiteRecord.{SiteRecord}
use Rattle.fed_rules.specs.declared.records.SiteRecord.TheVariants as Rec
use Rattle.fed_rules.specs.Disk as Disk
use Rattle.fed_rules.specs.Disk.{Call, Append, Sync, empty_disk, after_calls}
use Rattle.fed_rules.specs.Happenings.{Happening, Trip, stops, comes_up, armed}
use Rattle.fed_rules.specs.Runs as Runs
use Rattle.fed_rules.specs.Runs.{EngineLine, Begins, Acts, Takes, Seals, Refuses, Commits, Aborts, Run, run_at, unended, is_sealed, tid_of, gives_up}
use Rattle.fed_rules.specs.SiteRecords.{Home, site_frame, epoch_of, start_of}

-- one line of a site
abbrev pub SiteHappening : Type 0
SiteHappening = Happening SiteEvent FromSite SiteRecord

-- the lines of a site, the newest first
abbrev pub SitePast : Type 0
SitePast = List SiteHappening

-- a site is set up by its Setup record and its first Start, synced
abbrev pub set_up_calls : Home → List (Call SiteRecord)
set_up_calls home = Append (Rec.Setup home.site home.engine home.protocol home.items) ∷ Append (Rec.Start 1) ∷ Sync ∷ []

-- the site's disk
abbrev pub disk : Home → SitePast → Disk.Disk SiteRecord
disk home [] = after_calls site_frame empty_disk (set_up_calls home)
disk home (x ∷ past) = after_calls site_frame (disk home past) x.calls

-- all records that ever stood there and weren't lost by a stop, the newest first
abbrev pub records : Home → SitePast → List SiteRecord
records home past = (disk home past).records

-- the records that stand on the site's disk, the newest first
abbrev pub journal : Home → SitePast → List SiteRecord
journal home past = Disk.journal site_frame (disk home past)

-- the epoch, which counts the starts of the site
abbrev pub epoch : Home → SitePast → ℕ
epoch home past = epoch_of (records home past)

abbrev pub trip_of : SiteEvent → Option Trip
trip_of (Ev.Trip calls cut) = Some (record { calls = calls; cut = cut })
trip_of event = None

-- the trip in force
abbrev pub trip : SitePast → Option Trip
trip past = armed trip_of past

-- what the engine started this epoch from: what the records say at the last start, or at a stop behind it
abbrev pub epoch_start : Home → SitePast → Runs.Start
epoch_start home [] = start_of home (records home [])
epoch_start home (x ∷ past) =
    cond (stops x.answer || comes_up x.answer) (start_of home (records home (x ∷ past))) (epoch_start home past)

-- the engine lines of this epoch, the newest first; a stop ends every live run
abbrev pub engine_lines : SitePast → List EngineLine
engine_lines [] = []
engine_lines (x ∷ past) = cond (stops x.answer || comes_up x.answer) [] (x.lines ++ engine_lines past)

-- the unended run of an attempt
abbrev pub run_of : Home → SitePast → Tid → Option Run
run_of home past tid = run_at (epoch_start home past) (engine_lines past) tid

abbrev pub unless_sealed : Run → Option Run
unless_sealed run = cond (is_sealed run) None (Some run)

abbrev pub live_one : Option Run → Option Run
live_one None = None
live_one (Some run) = unless_sealed run

-- the live run of an attempt, which is neither sealed nor ended
abbrev pub live : Home → SitePast → Tid → Option Run
live home past tid = live_one (run_of home past tid)

-- the attempt of this transaction that is live here
abbrev pub live_of_tx : Home → SitePast → Tx → Option Tid
live_of_tx home past tx =
    map_some (λ run. run.tid) (first_where (λ run. same_tx run.tid.tx tx && not (is_sealed run)) (unended (epoch_start home past) (engine_lines past)))

-- whether a line begins an attempt of this transaction as a local one
abbrev pub begins_tx : Tx → Answer → Bool
begins_tx tx (Say.Begun tid) = same_tx tid.tx tx
begins_tx tx answer = false

-- how many attempts of a local transaction were begun
abbrev pub attempts_of : SitePast → Tx → ℕ
attempts_of past tx = how_many (λ x. begins_tx tx x.answer) past

-- whether the transaction was begun as a local one
abbrev pub is_local : SitePast → Tid → Bool
is_local past tid = some_of (λ x. begins_tx tid.tx x.answer) past

-- whether an engine line ends a run of the attempt
abbrev pub ends : Tid → EngineLine → Bool
ends tid (Commits ended) = same_tid ended tid
ends tid line = gives_up line && same_tid (tid_of line) tid

-- whether the event is a decision on the attempt
abbrev pub decides_on : Tid → SiteEvent → Bool
decides_on tid (Ev.Give (To.Decide decided decision)) = same_tid decided tid
decides_on tid event = false

-- an attempt is closed where in this epoch one of its runs ended, or a decision on it was taken
abbrev pub is_closed : SitePast → Tid → Bool
is_closed [] tid = false
is_closed (x ∷ past) tid =
    cond (comes_up x.answer) false (decides_on tid x.event || some_of (ends tid) x.lines || is_closed past tid)
