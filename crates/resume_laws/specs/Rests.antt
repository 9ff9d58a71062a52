-- A session that goes on from disks is at rest at its end.
use Rattle.std.specs.Prelude.{List}
use Rattle.fed_rules.specs.declared.commands.Command.{Command}
use Rattle.fed_rules.specs.declared.scenario.Scenario.{Scenario}
use Rattle.fed_rules.specs.Found.{Found}
use Rattle.fed_rules.specs.Plans.{AreSites, IsScenario}
use Rattle.fed_rules.specs.Resumed.{left_by, plan_of, resumed}
use Rattle.fed_rules.specs.Story.{story_of}
use Rattle.found_laws.specs.FoundSessions.{AreUsable}
use Rattle.closing_laws.specs.AtRest.{IsAtRest}
use Rattle.resume_laws.specs.Premises.{SaysSame}

-- every actor is up, no trip is armed, and nothing is live, in doubt or known, if the journals say what the records said and name sites in their range, each once
abbrev pub ResumedSessionsRest : Type 0
ResumedSessionsRest =
    (scenario : Scenario) → IsScenario scenario → (commands : List Command) → SaysSame scenario (story_of scenario commands)
    → AreSites (plan_of (left_by scenario (story_of scenario commands))).sites
    → IsAtRest (plan_of (left_by scenario (story_of scenario commands))) (resumed (left_by scenario (story_of scenario commands)))

-- so it is of a session that goes on from usable disks, whoever left them
abbrev pub UsableSessionsRest : Type 0
UsableSessionsRest = (found : Found) → AreUsable found → IsAtRest (plan_of found) (resumed found)
