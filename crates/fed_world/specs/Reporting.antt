-- What a world hands to the report of its session.
use Rattle.std.specs.Prelude.{◌≡◌, cond, false, Option, Some, None, []}
use Rattle.mdb_base.specs.declared.names.SiteId.{SiteId}
use Rattle.mdb_base.specs.declared.names.Tid.{Tid}
use Rattle.mdb_base.specs.declared.names.Tx.{Tx}
use Rattle.mdb_base.specs.declared.rows.SiteRows.{SiteRows}
use Rattle.mdb_base.specs.Names.{same_tid}
use Rattle.presumptions.specs.declared.Decision.{Decision}
use Rattle.presumptions.specs.declared.Decision.TheVariants as Decided
use Rattle.fed_rules.specs.declared.records.CoordRecord.{CoordRecord}
use Rattle.fed_rules.specs.declared.report.Outcome.{Outcome}
use Rattle.fed_rules.specs.declared.report.Report.{Report}
use Rattle.fed_rules.specs.declared.scenario.Scenario.{Scenario}
use Rattle.fed_rules.specs.CoordPast.{records}
use Rattle.fed_rules.specs.CoordRecords.{committed_of, outcome}
use Rattle.fed_rules.specs.Found.{Found, Journal}
use Rattle.fed_rules.specs.Happenings.{is_down}
use Rattle.fed_rules.specs.Orders.{table_of}
use Rattle.fed_rules.specs.Reports.{report_of}
use Rattle.fed_rules.specs.Resumed.{rest_of}
use Rattle.fed_rules.specs.Sessions.{Session}
use Rattle.fed_rules.specs.Story.{Story, coord_past}
use Rattle.global_manager.specs.Stands.{EachManaged}
use Rattle.fed_world.specs.declared.world.World.{World}
use Rattle.fed_world.specs.Worlds.{ManagerRecalls}

-- the rows of a site in a story
abbrev pub rows_at : Scenario → Story → SiteId → SiteRows
rows_at scenario story site = record { site = site; rows = table_of scenario story site }

-- this is the attempt of the transaction for which the coordinator keeps a Commit record, where it is up
abbrev pub Tells : World → Tx → Option Tid → Type 0
Tells world tx found = EachManaged (ManagerRecalls world.cores.coordinator) (λ terms programs past. is_down past ≡ false → found ≡ committed_of (records past) tx)

-- how an attempt ended in a story
abbrev pub outcome_at : Story → Tid → Outcome
outcome_at story tid = record { tid = tid; decision = outcome (records (coord_past story)) tid }

-- how an attempt ended of whose transaction this attempt committed
abbrev pub decision_given : Option Tid → Tid → Decision
decision_given None tid = Decided.Abort
decision_given (Some committed) tid = cond (same_tid committed tid) Decided.Commit Decided.Abort

-- what is reported of a session that goes on from disks: nothing is known of the order and the reads of what committed before, so there is none
abbrev pub found_report : Found → Story → Report
found_report found story =
    let rest = rest_of found story in
    record { order = []; reads = []; outcomes = rest.outcomes; forgotten = rest.forgotten; tables = rest.tables }

abbrev pub report_by : Option (Journal CoordRecord) → Session → Story → Report
report_by None session story = report_of session.plan story
report_by (Some journal) session story = found_report session.found story

-- what is reported of a session
abbrev pub report_for : Session → Story → Report
report_for session story = report_by session.found.coordinator session story
