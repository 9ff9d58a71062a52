-- A door that answers from a tape.
use Rattle.std.specs.Prelude.{◌≡◌, ◌≢◌, List, [], ◌∷◌, ◌++◌, map, reverse, IsOk, Result, Ok, Err}
use Rattle.mdb_base.specs.Words.{Each}
use Rattle.fed_rules.specs.declared.answers.Answer.{Answer}
use Rattle.fed_rules.specs.declared.commands.Command.{Command}
use Rattle.line_text.specs.declared.error.DoorErr.{DoorErr}
use Rattle.line_text.specs.declared.error.DoorErr.TheVariants as Fails
use Rattle.client_drivers.specs.Calls.{Called}

-- the answers that are left, and the calls that were answered from the tape, oldest first
pub record Tape : Type 0 where
  pub answers : List Answer
  pub calls : List Command

-- The calls that a tape tells, the latest first: those that it noted, each answered, and behind the end of the tape any that want of memory
-- was the answer of.
pub record TapeTells (tape : Tape) (told : List Called) : Type 0 where
  pub refused : List Called
  pub answered : List Called
  pub all : told ≡ refused ++ answered
  pub each_refused : Each (λ (c : Called). c.answer ≡ Err Fails.Memory) refused
  pub at_end : refused ≢ [] → tape.answers ≡ []
  pub each_answered : Each (λ (c : Called). IsOk c.answer) answered
  pub noted : map (λ (c : Called). c.command) answered ≡ reverse tape.calls

-- the next answer of the tape, or want of memory, behind which nothing is left
abbrev pub Gives : Tape → Tape → Result Answer DoorErr → Type 0
Gives old new (Ok answer) = old.answers ≡ answer ∷ new.answers
Gives old new (Err error) = (error ≡ Fails.Memory) × (new.answers ≡ [])
