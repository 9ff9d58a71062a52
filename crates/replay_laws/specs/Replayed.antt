-- A session that is at rest, given as commands: closing adds none, and its lines are the same again but for the cycles that refusals print.
use Rattle.std.specs.Prelude.{◌≡◌, Some, List, [], map, reverse}
use Rattle.fed_rules.specs.declared.answers.Answer.{Answer}
use Rattle.fed_rules.specs.declared.answers.Answer.TheVariants as Say
use Rattle.fed_rules.specs.declared.answers.Cause.TheVariants as For
use Rattle.fed_rules.specs.declared.commands.Command.{Command}
use Rattle.fed_rules.specs.declared.commands.Line.{Line}
use Rattle.fed_rules.specs.declared.scenario.Scenario.{Scenario}
use Rattle.fed_rules.specs.Closing.{closed}
use Rattle.fed_rules.specs.Reports.{report_of}
use Rattle.fed_rules.specs.Right.{IsRightStory, AreLines}
use Rattle.fed_rules.specs.Story.{story_of}
use Rattle.closing_laws.specs.AtRest.{IsAtRest}
use Rattle.line_laws.specs.Refusals.{RefuseNone}

-- behind a session at rest closing adds no command
abbrev pub ClosingAddsNothing : Type 0
ClosingAddsNothing =
    (scenario : Scenario) (commands : List Command) → IsAtRest scenario (story_of scenario commands) → closed scenario commands ≡ commands

-- an answer without the edges of the cycle that a refusal prints
abbrev pub without_cycle : Answer → Answer
without_cycle (Say.Decides decision (Some (For.Cycle edges)) forgets) = Say.Decides decision (Some (For.Cycle [])) forgets
without_cycle answer = answer

-- a line without them
abbrev pub bare : Line → Line
bare line = record { command = line.command; answer = without_cycle line.answer; sends = line.sends }

-- the commands of lines
abbrev pub commands_in : List Line → List Command
commands_in lines = map (λ line. line.command) lines

-- right lines of the same commands are the same but for the edges of cycles
abbrev pub RightLinesAgree : Type 0
RightLinesAgree =
    (scenario : Scenario) (lines others : List Line) → IsRightStory scenario lines → IsRightStory scenario others
    → commands_in lines ≡ commands_in others → map bare lines ≡ map bare others

-- where none of them refuses a commit for a cycle they are the same
abbrev pub RightLinesAreOne : Type 0
RightLinesAreOne =
    (scenario : Scenario) (lines others : List Line) → IsRightStory scenario lines → IsRightStory scenario others
    → commands_in lines ≡ commands_in others → RefuseNone lines → lines ≡ others

-- what the same commands give again, with closing behind them: as many lines, each but for the edges of cycles, and the same report; where no
-- line refuses a commit for a cycle the very same lines
pub record GivesAgain (scenario : Scenario) (commands : List Command) (lines others : List Line) : Type 0 where
  pub bare_lines : map bare lines ≡ map bare others
  pub report : report_of scenario (story_of scenario commands) ≡ report_of scenario (story_of scenario (closed scenario commands))
  pub whole : RefuseNone lines → lines ≡ others

-- so it is where the session of these lines is at rest; lines stand as they are printed, the first one first
abbrev pub CommandsGiveAgain : Type 0
CommandsGiveAgain =
    (scenario : Scenario) (commands : List Command) (lines others : List Line) → IsAtRest scenario (story_of scenario commands)
    → AreLines lines scenario commands → AreLines others scenario (closed scenario commands) → GivesAgain scenario commands lines others
