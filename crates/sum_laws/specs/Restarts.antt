-- What a restart of the coordinator reads in every story.
use Rattle.std.specs.Prelude.{List}
use Rattle.fed_rules.specs.declared.commands.Command.{Command}
use Rattle.fed_rules.specs.declared.scenario.Scenario.{Scenario}
use Rattle.fed_rules.specs.Scenarios.{protocols}
use Rattle.fed_rules.specs.Story.{coord_past, story_of}
use Rattle.coord_laws.specs.CoordRestarts.{JournalTellsRestart}

-- in every story a restart reads from the journal that stands on the coordinator's disk what all its records say
abbrev pub JournalsTellRestarts : Type 0
JournalsTellRestarts =
    (scenario : Scenario) (commands : List Command) → JournalTellsRestart (protocols scenario) (coord_past (story_of scenario commands))
