-- Lines are right in a session that begins with empty disks exactly where they are right by its scenario.
use Rattle.std.proofs.Common.{List, [], ◌∷◌, reverse}
use Rattle.fed_rules.specs.declared.commands.Command.{Command}
use Rattle.fed_rules.specs.declared.commands.Line.{Line}
use Rattle.fed_rules.specs.declared.scenario.Scenario.{Scenario}
use Rattle.fed_rules.specs.Right.{AreLines, IsRightStory}
use Rattle.fed_rules.specs.Sessions.{fresh}
use Rattle.fed_world.specs.Lines.{AreLinesIn, IsRightIn}

pub right_fresh : (scenario : Scenario) (lines : List Line) → IsRightIn (fresh scenario) lines → IsRightStory scenario lines
right_fresh scenario [] right = tt
right_fresh scenario (line ∷ lines) right = (right_fresh scenario lines right.0, right.1)

pub fresh_right : (scenario : Scenario) (lines : List Line) → IsRightStory scenario lines → IsRightIn (fresh scenario) lines
fresh_right scenario [] right = tt
fresh_right scenario (line ∷ lines) right = (fresh_right scenario lines right.0, right.1)

pub lines_fresh : (lines : List Line) (scenario : Scenario) (commands : List Command) → AreLinesIn lines (fresh scenario) commands → AreLines lines scenario commands
lines_fresh lines scenario commands told = record { commands_are = told.commands_are; right = right_fresh scenario (reverse lines) told.right }
