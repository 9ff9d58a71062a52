-- When lines are right: each one's answer and places are those of the story of the commands before it.
use Rattle.std.specs.Prelude.{◌≡◌, List, [], ◌∷◌, ◌++◌, map, reverse}
use Rattle.fed_rules.specs.declared.commands.Command.{Command}
use Rattle.fed_rules.specs.declared.commands.Line.{Line}
use Rattle.fed_rules.specs.Right.{IsNext}
use Rattle.fed_rules.specs.Sessions.{Session}
use Rattle.fed_rules.specs.Story.{Story, story_in}

-- the story that lines of this session tell, the last one first
abbrev pub told_in : Session → List Line → Story
told_in session lines = story_in session (map (λ line. line.command) lines)

-- each line is the next one on the lines before it; the last one stands first
abbrev pub IsRightIn : Session → List Line → Type 0
IsRightIn session [] = Unit {0}
IsRightIn session (line ∷ lines) = IsRightIn session lines × IsNext session.plan (told_in session lines) line

-- these are the right lines of these commands, the first line first
pub record AreLinesIn (lines : List Line) (session : Session) (commands : List Command) : Type 0 where
  pub commands_are : map (λ line. line.command) (reverse lines) ≡ commands
  pub right : IsRightIn session (reverse lines)

-- the lines made before stay as they are, and behind them stands one of the command, of which this holds
pub record AddsWhere (old new : List Line) (command : Command) (P : Line → Type 0) : Type 0 where
  pub line : Line
  pub is : line.command ≡ command
  pub lines : new ≡ old ++ line ∷ []
  pub holds : P line
