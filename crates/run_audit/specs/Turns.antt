-- What the check of one printed line comes to.
use Rattle.std.specs.Prelude.{ℕ, suc, ◌≡◌, Option, Some, None, List, ◌∷◌}
use Rattle.fed_rules.specs.declared.commands.Command.{Command}
use Rattle.fed_rules.specs.declared.commands.Line.{Line}
use Rattle.fed_rules.specs.declared.scenario.Scenario.{Scenario}
use Rattle.fed_rules.specs.Story.{story_of}
use Rattle.scenario_text.specs.Pieces.{TextLine}
use Rattle.audit_rules.specs.declared.verdict.Verdict.{Verdict}
use Rattle.audit_rules.specs.declared.verdict.What.{What}
use Rattle.audit_rules.specs.Agreement.{verdict_from}
use Rattle.audit_rules.specs.Faults.{fault_of}
use Rattle.audit_text.specs.declared.lines.FirstLine.{FirstLine}
use Rattle.audit_text.specs.Lines.{printed_in, is_entry}

-- the line of a text
abbrev pub line_of : FirstLine → TextLine
line_of line = record { bytes = line.bytes.now; ended = line.ended }

-- the line has this first fault, or none, and then its command was carried out
abbrev pub Checks : (Scenario → List Command → Type 0) → Line → Scenario → List Command → Option What → Type 0
Checks K printed scenario commands None = (fault_of scenario (story_of scenario commands) printed ≡ None) × K scenario (printed.command ∷ commands)
Checks K printed scenario commands (Some what) = fault_of scenario (story_of scenario commands) printed ≡ Some what

-- the verdict on this line and those behind it is the verdict on those behind it and the story with one command more, which was carried out
pub record GoesOn (K : Scenario → List Command → Type 0) (scenario : Scenario) (commands : List Command) (number : ℕ) (line : TextLine) (behind : List TextLine) : Type 0 where
  pub command : Command
  pub stands : K scenario (command ∷ commands)
  pub verdict : verdict_from printed_in is_entry scenario number (line ∷ behind) (story_of scenario commands)
      ≡ verdict_from printed_in is_entry scenario (suc number) behind (story_of scenario (command ∷ commands))

-- the verdict is found at this line, or it goes on behind it
abbrev pub Turns : (Scenario → List Command → Type 0) → Scenario → List Command → ℕ → TextLine → List TextLine → Option Verdict → Type 0
Turns K scenario commands number line behind None = GoesOn K scenario commands number line behind
Turns K scenario commands number line behind (Some verdict) =
    verdict ≡ verdict_from printed_in is_entry scenario number (line ∷ behind) (story_of scenario commands)
