-- What a command to an actor comes to: an event that the actor's next line answers, or an answer without a line.
use Rattle.std.specs.Prelude.{ℕ}
use Rattle.mdb_base.specs.declared.names.Tid.{Tid}
use Rattle.mdb_base.specs.declared.names.Tx.{Tx}
use Rattle.fed_rules.specs.declared.answers.Answer.{Answer}
use Rattle.fed_rules.specs.declared.answers.Answer.TheVariants as Say

-- an event is submitted to the actor, or the command is declined with this answer, which changes nothing
pub data Request (Event : Type 0) : Type 0 where
  Submits : Event → Request Event
  Declines : Answer → Request Event

-- how many attempts a transaction has
abbrev pub most_attempts : ℕ
most_attempts = 32

-- where all attempts were begun, what would begin a further one answers spent
abbrev pub unless_begun : Answer → Answer
unless_begun (Say.Begun tid) = Say.Spent
unless_begun answer = answer

-- the attempt that would begin next
abbrev pub attempt : Tx → ℕ → Tid
attempt tx n = record { tx = tx; attempt = n }
