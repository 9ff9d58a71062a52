-- The values of the report: the least merge of the site orders with the reads of its members, the outcomes, the forgotten ones, and the tables.
use Rattle.std.specs.Prelude.{Bool, not, ◌&&◌, List, map}
use Rattle.mdb_base.specs.declared.names.Tid.{Tid}
use Rattle.mdb_base.specs.Names.{same_tid, tid_before}
use Rattle.mdb_base.specs.Words.{those}
use Rattle.mdb_base.specs.declared.rows.SiteRows.{SiteRows}
use Rattle.order_laws.specs.Least.{least_merge}
use Rattle.fed_rules.specs.declared.report.Outcome.{Outcome}
use Rattle.fed_rules.specs.declared.report.Report.{Report}
use Rattle.fed_rules.specs.declared.scenario.Scenario.{Scenario}
use Rattle.fed_rules.specs.Closing.{rising}
use Rattle.fed_rules.specs.CoordPast as Coordinator
use Rattle.fed_rules.specs.CoordPast.{begun_tids, is_known, standing}
use Rattle.fed_rules.specs.CoordRecords.{outcome}
use Rattle.fed_rules.specs.Happenings.{is_down}
use Rattle.fed_rules.specs.Orders.{orders, reads_of, table_of}
use Rattle.fed_rules.specs.Scenarios.{protocols, sites}
use Rattle.fed_rules.specs.Story.{Story, coord_past}

-- at each place stands the least attempt all of whose predecessors at every site stand before it
abbrev pub printed_order : Scenario → Story → List Tid
printed_order scenario story = least_merge same_tid tid_before (orders scenario story)

-- the global attempts that were begun, rising
abbrev pub begun : Story → List Tid
begun story = rising (begun_tids (coord_past story))

abbrev pub outcomes : Story → List Outcome
outcomes story = map (λ tid. record { tid = tid; decision = outcome (Coordinator.records (coord_past story)) tid }) (begun story)

-- an attempt is forgotten where it was begun, the coordinator is up, and the attempt isn't known
abbrev pub is_forgotten : Scenario → Story → Tid → Bool
is_forgotten scenario story tid =
    not (is_down (coord_past story)) && not (is_known (standing (protocols scenario) (coord_past story) tid))

abbrev pub forgotten : Scenario → Story → List Tid
forgotten scenario story = those (is_forgotten scenario story) (begun story)

abbrev pub tables : Scenario → Story → List SiteRows
tables scenario story = map (λ site. record { site = site; rows = table_of scenario story site }) (sites scenario)

-- the report of a session in this order, which may be any merge of the site orders
abbrev pub report_in : Scenario → Story → List Tid → Report
report_in scenario story order =
    record {
      order = order;
      reads = map (λ tid. record { tid = tid; values = reads_of scenario story tid }) order;
      outcomes = outcomes story;
      forgotten = forgotten scenario story;
      tables = tables scenario story;
    }

-- the report of a session, in the printed order
abbrev pub report_of : Scenario → Story → Report
report_of scenario story = report_in scenario story (printed_order scenario story)
