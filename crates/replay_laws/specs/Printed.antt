-- A session that is at rest, given as commands, prints its text again.
use Rattle.std.specs.Prelude.{◌≡◌, List, map}
use Rattle.fed_rules.specs.declared.commands.Command.{Command}
use Rattle.fed_rules.specs.declared.commands.Line.{Line}
use Rattle.fed_rules.specs.declared.scenario.Scenario.{Scenario}
use Rattle.fed_rules.specs.Closing.{closed}
use Rattle.fed_rules.specs.Story.{story_of}
use Rattle.closing_laws.specs.AtRest.{IsAtRest}
use Rattle.line_laws.specs.Printed.{printed}
use Rattle.line_laws.specs.Refusals.{RefuseNone}
use Rattle.replay_laws.specs.Replayed.{bare}
use Rattle.fed_rules.specs.Right.{AreLines}

-- what the same commands print again behind which closing stands: the same text but for the edges of cycles, and where no line refuses a commit for
-- a cycle the very same bytes
pub record PrintsAgain (scenario : Scenario) (commands : List Command) (lines others : List Line) : Type 0 where
  pub bare_text : printed (map bare lines) scenario (story_of scenario commands) ≡ printed (map bare others) scenario (story_of scenario (closed scenario commands))
  pub whole : RefuseNone lines → printed lines scenario (story_of scenario commands) ≡ printed others scenario (story_of scenario (closed scenario commands))

-- so it is where the session of these lines is at rest; lines stand as they are printed, the first one first
abbrev pub CommandsPrintAgain : Type 0
CommandsPrintAgain =
    (scenario : Scenario) (commands : List Command) (lines others : List Line) → IsAtRest scenario (story_of scenario commands)
    → AreLines lines scenario commands → AreLines others scenario (closed scenario commands) → PrintsAgain scenario commands lines others
