-- What the commands of printed lines print when they are given to `replay`.
use Rattle.std.specs.Prelude.{ℕ, ◌≡◌, List, map}
use Rattle.fed_rules.specs.declared.commands.Line.{Line}
use Rattle.fed_rules.specs.declared.scenario.Scenario.{Scenario}
use Rattle.fed_rules.specs.Story.{Story}
use Rattle.journal_disk.specs.Disk.{Seen}
use Rattle.line_laws.specs.Printed.{printed}
use Rattle.line_laws.specs.Refusals.{RefuseNone}
use Rattle.replay_laws.specs.Replayed.{bare, commands_in}
use Rattle.scenario_text.specs.declared.session.Session.{Session}
use Rattle.session_outputs.specs.Replays.{PlaysWhole}

-- the session of these lines' commands
abbrev pub session_again : Scenario → List Line → Session
session_again scenario lines = record { scenario = scenario; commands = commands_in lines }

-- the text is that of these lines, and of the report of the story, but for the edges of the cycles for which lines refuse commits
pub record PrintsButCycles (text : List ℕ) (lines : List Line) (scenario : Scenario) (story : Story) : Type 0 where
  pub others : List Line
  pub alike : map bare others ≡ map bare lines
  pub text_is : text ≡ printed others scenario story

-- whatever a replay of these lines' commands prints, on whatever disks, is the output again but for the edges of cycles; and it is the very
-- same bytes where no line refuses a commit for a cycle
pub record ReplaysAlike (output : List ℕ) (lines : List Line) (scenario : Scenario) (story : Story) : Type 0 where
  pub but_cycles : (text : List ℕ) (old new : List Seen) → PlaysWhole text old new (session_again scenario lines)
      → PrintsButCycles text lines scenario story
  pub bytes : RefuseNone lines → (text : List ℕ) (old new : List Seen) → PlaysWhole text old new (session_again scenario lines)
      → text ≡ output
