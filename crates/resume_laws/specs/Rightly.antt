-- A session goes on rightly from the disks that another one left, if these are usable and say what the records said.
use Rattle.std.specs.Prelude.{◌≡◌, ◌<◌, ◌^◌, Some, List, length}
use Rattle.mdb_base.specs.declared.names.SiteId.{SiteId}
use Rattle.fed_rules.specs.declared.commands.Command.{Command}
use Rattle.fed_rules.specs.declared.scenario.Scenario.{Scenario}
use Rattle.fed_rules.specs.GoingOn.{AllDown, GoesOnRightly, IsUsable}
use Rattle.fed_rules.specs.Plans.{AreSites, IsScenario}
use Rattle.fed_rules.specs.Resumed.{left_by, plan_of, resumed}
use Rattle.fed_rules.specs.Scenarios.{home_of}
use Rattle.fed_rules.specs.SiteRecords.{Home}
use Rattle.fed_rules.specs.Story.{Story, past_of, story_of}
use Rattle.closing_laws.specs.AtRest.{IsAtRest}
use Rattle.resume_laws.specs.Premises.{SaysSame}
use Rattle.resume_laws.specs.Tables.{TableFits}

-- what is taken from other laws of the disks that a session left
pub record IsReadable (scenario : Scenario) (left : Story) : Type 0 where
  pub usable : IsUsable scenario (left_by scenario left)
  pub says : SaysSame scenario left
  pub plan : AreSites (plan_of (left_by scenario left)).sites
  pub tables : (site : SiteId) (home : Home) → home_of scenario site ≡ Some home → TableFits left home (past_of site left)

abbrev pub ReadableGoOn : Type 0
ReadableGoOn =
    (scenario : Scenario) → IsScenario scenario → (commands : List Command) → AllDown scenario (story_of scenario commands)
    → IsReadable scenario (story_of scenario commands) → GoesOnRightly scenario (story_of scenario commands)

-- of every session that began with empty disks and has fewer lines than 2^30 the disks are readable
abbrev pub DisksAreReadable : Type 0
DisksAreReadable =
    (scenario : Scenario) → IsScenario scenario → (commands : List Command) → length commands < 2 ^ 30 → IsReadable scenario (story_of scenario commands)

-- and the session that goes on from them is at rest at its end: every actor is up, no trip is armed, and nothing is live, in doubt or known
abbrev pub SessionsRest : Type 0
SessionsRest =
    (scenario : Scenario) → IsScenario scenario → (commands : List Command) → length commands < 2 ^ 30
    → IsAtRest (plan_of (left_by scenario (story_of scenario commands))) (resumed (left_by scenario (story_of scenario commands)))
