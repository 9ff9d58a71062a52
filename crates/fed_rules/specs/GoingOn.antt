-- That a session goes on rightly from the disks that another one left.
use Rattle.std.specs.Prelude.{◌≡◌, ℕ, ◌<◌, ◌^◌, true, Some, List, [], length}
use Rattle.mdb_base.specs.declared.names.Key.{Key}
use Rattle.mdb_base.specs.declared.names.SiteId.{SiteId}
use Rattle.mdb_base.specs.declared.names.Tid.{Tid}
use Rattle.mdb_base.specs.Rows.{look_up}
use Rattle.mdb_base.specs.Words.{Each}
use Rattle.presumptions.specs.declared.Decision.{Decision}
use Rattle.presumptions.specs.declared.Participant.{Participant}
use Rattle.fed_rules.specs.declared.commands.Command.{Command}
use Rattle.fed_rules.specs.declared.records.CoordRecord.{CoordRecord}
use Rattle.fed_rules.specs.declared.records.SiteRecord.{SiteRecord}
use Rattle.fed_rules.specs.declared.scenario.Scenario.{Scenario}
use Rattle.fed_rules.specs.Endings.{Settles, outcome_in}
use Rattle.fed_rules.specs.Found.{Found, Journal}
use Rattle.fed_rules.specs.Happenings.{is_down}
use Rattle.fed_rules.specs.Orders.{first_tables, programs_of, table_of}
use Rattle.fed_rules.specs.Plans.{IsScenario}
use Rattle.fed_rules.specs.Reports.{printed_order}
use Rattle.fed_rules.specs.Resumed.{left_by, plan_of, resumed}
use Rattle.fed_rules.specs.Scenarios.{home_of, protocols}
use Rattle.fed_rules.specs.Serial.{serial_tables}
use Rattle.fed_rules.specs.SiteRecords.{Home}
use Rattle.fed_rules.specs.Story.{Story, coord_past, past_of, story_of}
use Rattle.fed_rules.specs.Usable.{AreUnnamed, IsUsableCoordinator, IsUsableSite}

-- the coordinator and every declared site are down
pub record AllDown (scenario : Scenario) (story : Story) : Type 0 where
  pub coordinator : is_down (coord_past story) ≡ true
  pub sites : (site : SiteId) (home : Home) → home_of scenario site ≡ Some home → is_down (past_of site story) ≡ true

-- every journal is usable, and no transaction that the coordinator's names is local at a site
pub record IsUsable (scenario : Scenario) (found : Found) : Type 0 where
  pub coordinator : (journal : Journal CoordRecord) → found.coordinator ≡ Some journal → IsUsableCoordinator (protocols scenario) journal.records
  pub sites : Each (λ (journal : Journal SiteRecord). (number : ℕ) × IsUsableSite number journal.records) found.sites
  pub unnamed : (journal : Journal CoordRecord) → found.coordinator ≡ Some journal
      → Each (λ (site : Journal SiteRecord). AreUnnamed journal.records site.records) found.sites

-- the disks are usable; each site that settles an attempt says its outcome over the session that left them, which is the one that is printed; and the
-- tables at the end are those that a serial run of the committed programs of that session gives
pub record GoesOnRightly (scenario : Scenario) (left : Story) : Type 0 where
  pub usable : IsUsable scenario (left_by scenario left)
  pub outcomes : (tid : Tid) → outcome_in (resumed (left_by scenario left)) tid ≡ outcome_in left tid
  pub settles : (site : SiteId) (tid : Tid) (decision : Decision) → Settles (past_of site (resumed (left_by scenario left))) tid decision
      → decision ≡ outcome_in left tid
  pub tables : (site : SiteId) (home : Home) → home_of scenario site ≡ Some home → (key : Key)
      → look_up (table_of (plan_of (left_by scenario left)) (resumed (left_by scenario left)) site) key
      ≡ serial_tables (programs_of scenario (printed_order scenario left)) (first_tables scenario) site key

-- whatever happened in a session that began with empty disks, if only all its actors are down and it has few lines
abbrev pub SessionsGoOn : Type 0
SessionsGoOn =
    (scenario : Scenario) → IsScenario scenario → (commands : List Command) → length commands < 2 ^ 30
    → AllDown scenario (story_of scenario commands) → GoesOnRightly scenario (story_of scenario commands)
