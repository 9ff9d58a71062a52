-- How the commands of a session are carried out, and what can be printed of a world.
use Rattle.std.specs.Prelude.{ℕ, ◌≡◌, List}
use Rattle.mdb_base.specs.Words.{Each}
use Rattle.fed_rules.specs.declared.commands.Command.{Command}
use Rattle.fed_rules.specs.declared.commands.Line.{Line}
use Rattle.fed_rules.specs.declared.scenario.Scenario.{Scenario}
use Rattle.fed_rules.specs.Closing.{closed}
use Rattle.fed_rules.specs.Plans.{IsScenario}
use Rattle.fed_rules.specs.Story.{story_of}
use Rattle.closing.specs.FreshTowards.{CanClose}
use Rattle.closing.specs.Steps.{with_commands}
use Rattle.fed_world.specs.FreshWorlds.{Rests}
use Rattle.fed_rules.specs.Right.{AreLines}
use Rattle.line_laws.specs.Lines.{IsHeard}
use Rattle.line_laws.specs.Printed.{printed}

-- these commands behind those before, and the ones that close the session
abbrev pub closed_with : List Command → Scenario → List Command → List Command
closed_with commands scenario before = closed scenario (with_commands commands before)

-- there are few enough commands, with those before, that the numbers of those that close the session fit too
abbrev pub CanPlay : List Command → Scenario → List Command → Type 0
CanPlay commands scenario before = CanClose scenario (with_commands commands before)

-- each line can be printed, and the session is at rest
pub record IsPrintable (scenario : Scenario) (commands : List Command) : Type 0 where
  pub whole : IsScenario scenario
  pub heard : Each (IsHeard scenario.sites) commands
  pub rests : Rests scenario commands

-- the text is that of the right lines of these commands, and of their report
pub record IsPrinted (text : List ℕ) (scenario : Scenario) (commands : List Command) : Type 0 where
  pub lines : List Line
  pub lines_are : AreLines lines scenario commands
  pub text_is : text ≡ printed lines scenario (story_of scenario commands)
