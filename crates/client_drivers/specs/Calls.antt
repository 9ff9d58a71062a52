-- What a door tells: its calls with their answers, the latest first.
use Rattle.std.specs.Prelude.{List, ◌∷◌, Result}
use Rattle.fed_rules.specs.declared.answers.Answer.{Answer}
use Rattle.fed_rules.specs.declared.commands.Command.{Command}
use Rattle.line_text.specs.declared.error.DoorErr.{DoorErr}

-- a call of a door, named as the command that it stands for, with its answer
pub record Called : Type 0 where
  pub command : Command
  pub answer : Result Answer DoorErr

-- the door tells this call and its answer, and behind them whatever it told before
abbrev pub Notes : {D : Type 0} → (D → List Called → Type 0) → D → D → Command → Result Answer DoorErr → Type 0
Notes {D} tells old new command answer = (before : List Called) → tells old before → tells new (record { command = command; answer = answer } ∷ before)
