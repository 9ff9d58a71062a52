-- The tables of a session that goes on from the disks that another one left.
use Rattle.std.specs.Prelude.{◌≡◌, Some, List}
use Rattle.mdb_base.specs.declared.names.Key.{Key}
use Rattle.mdb_base.specs.declared.names.SiteId.{SiteId}
use Rattle.mdb_base.specs.declared.names.Tid.{Tid}
use Rattle.mdb_base.specs.Rows.{look_up}
use Rattle.mdb_base.specs.Words.{Each}
use Rattle.order_laws.specs.Chains.{In}
use Rattle.fed_rules.specs.declared.commands.Command.{Command}
use Rattle.fed_rules.specs.declared.records.SiteRecord.{SiteRecord}
use Rattle.fed_rules.specs.declared.scenario.Scenario.{Scenario}
use Rattle.fed_rules.specs.GoingOn.{AllDown}
use Rattle.fed_rules.specs.Orders.{first_tables, is_committed, programs_of, table_of}
use Rattle.fed_rules.specs.Plans.{AreSites, IsScenario}
use Rattle.fed_rules.specs.Reopened.{opened_site}
use Rattle.fed_rules.specs.Reports.{printed_order}
use Rattle.fed_rules.specs.Resumed.{left_by, plan_of, resumed}
use Rattle.fed_rules.specs.Scenarios.{home_of}
use Rattle.fed_rules.specs.Serial.{serial_tables}
use Rattle.fed_rules.specs.SitePast.{SitePast, records}
use Rattle.fed_rules.specs.SiteRecords.{Held, Home, Install, doubt_of, due_installs, installs}
use Rattle.fed_rules.specs.Story.{Story, past_of, story_of}
use Rattle.site_history.specs.Sums.{StaysBelow}
use Rattle.resume_laws.specs.Premises.{SaysSame, site_left}

-- no installed one of a greater number writes a key of one in doubt
abbrev pub DoubtsAreClear : List SiteRecord → Type 0
DoubtsAreClear rs =
    (tid : Tid) (held : Held) → doubt_of rs tid ≡ Some held → Each (StaysBelow (record { tid = held.tid; number = held.number; writes = held.writes })) (installs rs)

-- no two that are due have one number
abbrev pub NumbersDiffer : List Install → Type 0
NumbersDiffer dues = (a b : Install) → In a dues → In b dues → a.number ≡ b.number → a ≡ b

-- what is taken from other laws of a site's records and of its journal
pub record TableFits (left : Story) (home : Home) (here : SitePast) : Type 0 where
  pub before : DoubtsAreClear (records home here)
  pub now : (first : Home) → DoubtsAreClear (records first (opened_site (site_left home here)))
  pub differ : NumbersDiffer (due_installs (is_committed left) (records home here))

-- the tables are those that a serial run of the committed programs gives
abbrev pub TablesAreSerial : Type 0
TablesAreSerial =
    (scenario : Scenario) → IsScenario scenario → (commands : List Command) → AllDown scenario (story_of scenario commands) → SaysSame scenario (story_of scenario commands)
    → AreSites (plan_of (left_by scenario (story_of scenario commands))).sites
    → ((site : SiteId) (home : Home) → home_of scenario site ≡ Some home → TableFits (story_of scenario commands) home (past_of site (story_of scenario commands)))
    → (site : SiteId) (home : Home) → home_of scenario site ≡ Some home → (key : Key)
    → look_up (table_of (plan_of (left_by scenario (story_of scenario commands))) (resumed (left_by scenario (story_of scenario commands))) site) key
    ≡ serial_tables (programs_of scenario (printed_order scenario (story_of scenario commands))) (first_tables scenario) site key
