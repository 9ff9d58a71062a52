-- The coordinator's past in a story, as a past that events make.
use Rattle.std.specs.Prelude.{List}
use Rattle.fed_rules.specs.declared.commands.Command.{Command}
use Rattle.fed_rules.specs.declared.scenario.Scenario.{Scenario}
use Rattle.fed_rules.specs.Scenarios.{policy, protocols}
use Rattle.fed_rules.specs.Story.{coord_past, story_of}
use Rattle.coord_laws.specs.Pasts.{IsMadeByEvents}

-- in the story of any commands events make the coordinator's past, and each `go` among them is of the next attempt of its transaction
abbrev pub CoordinatorsAreMadeByEvents : Type 0
CoordinatorsAreMadeByEvents =
    (scenario : Scenario) (commands : List Command) → IsMadeByEvents (protocols scenario) (policy scenario) (coord_past (story_of scenario commands))
