-- What is gathered of a session before its report is written.
use Rattle.std.specs.Prelude.{◌≡◌, List, map}
use Rattle.mdb_base.specs.declared.names.Tid.{Tid}
use Rattle.fed_rules.specs.declared.scenario.Scenario.{Scenario}
use Rattle.fed_rules.specs.Orders.{IsMerge, orders}
use Rattle.fed_rules.specs.Reports.{forgotten, outcomes, report_in, tables}
use Rattle.fed_rules.specs.Story.{Story}
use Rattle.federation_laws.specs.OneOrder.{HasOneOrder}
use Rattle.session_report.specs.declared.gathering.Gathered.{Gathered}
use Rattle.session_report.specs.Told.{reads_told}

-- what is gathered is the session's: the orders of the sites, for which there is one order, the reads of the members of any merge of them,
-- the outcomes of the attempts that were begun, all of them forgotten, and the tables
pub record IsGathered (scenario : Scenario) (story : Story) (gathered : Gathered) : Type 0 where
  pub one_order : HasOneOrder scenario story
  pub ordered : gathered.orders.items ≡ orders scenario story
  pub read : (order : List Tid) → IsMerge scenario story order → map (reads_told gathered.telling) order ≡ (report_in scenario story order).reads
  pub ended : gathered.ends.items ≡ outcomes story
  pub begun : gathered.begun.items ≡ forgotten scenario story
  pub shown : gathered.tables.items ≡ tables scenario story
