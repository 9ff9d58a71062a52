-- The report of a session in an order that is given.
use Rattle.std.specs.Prelude.{◌≡◌, Option, Some, None, List}
use Rattle.mdb_base.specs.declared.names.Tid.{Tid}
use Rattle.fed_rules.specs.declared.report.Report.{Report}
use Rattle.fed_rules.specs.declared.scenario.Scenario.{Scenario}
use Rattle.fed_rules.specs.Orders.{IsMerge}
use Rattle.fed_rules.specs.Reports.{report_in}
use Rattle.fed_rules.specs.Story.{Story}

-- where the order is a merge of the site orders, this is the report in it, and where it is none, there is no report
abbrev pub IsReportIn : Scenario → Story → List Tid → Option Report → Type 0
IsReportIn scenario story order None = IsMerge scenario story order → ⊥
IsReportIn scenario story order (Some report) = IsMerge scenario story order × (report ≡ report_in scenario story order)
