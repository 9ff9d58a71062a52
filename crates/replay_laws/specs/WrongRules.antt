-- What looks right of a session given again and isn't: closing that adds to a session at rest, and that each command has one right line.
use Rattle.std.specs.Prelude.{◌≡◌, List, ◌∷◌}
use Rattle.fed_rules.specs.declared.commands.Command.{Command}
use Rattle.fed_rules.specs.declared.commands.Command.TheVariants as Cmd
use Rattle.fed_rules.specs.declared.commands.Line.{Line}
use Rattle.fed_rules.specs.declared.scenario.Scenario.{Scenario}
use Rattle.fed_rules.specs.Closing.{closed}
use Rattle.fed_rules.specs.Right.{IsNext}
use Rattle.fed_rules.specs.Story.{Story, story_of}
use Rattle.closing_laws.specs.AtRest.{IsAtRest}

-- to some session at rest it adds a command
pub record AddsAtRest (close : Scenario → List Command → List Command) : Type 0 where
  pub scenario : Scenario
  pub commands : List Command  -- the last one first
  pub at_rest : IsAtRest scenario (story_of scenario commands)
  pub added : close scenario commands ≡ commands → ⊥

-- the coordinator's trip is disarmed also where none is armed
abbrev pub disarmed_always : Scenario → List Command → List Command
disarmed_always scenario commands = closed scenario (Cmd.Trip 0 0 0 ∷ commands)

-- of some story two next lines of the same command aren't the same
pub record NextLinesDiffer : Type 0 where
  pub scenario : Scenario
  pub story : Story
  pub line : Line
  pub other : Line
  pub next : IsNext scenario story line
  pub other_next : IsNext scenario story other
  pub same_command : line.command ≡ other.command
  pub differ : line ≡ other → ⊥
