-- The answers of a coordinator that goes on with an attempt: what it sends, or that it waits.
use Rattle.std.proofs.Common.{List, [], ◌∷◌}
use Rattle.fed_rules.specs.declared.answers.Answer.{Answer}
use Rattle.fed_rules.specs.declared.answers.Answer.TheVariants as Say
use Rattle.fed_rules.specs.declared.messages.Due.{Due}
use Rattle.fed_rules.specs.Coord.{defers_some, defers_all}

-- an answer with which operations are sent
abbrev pub IsSending : Answer → Type 0
IsSending Say.Only = Unit {0}
IsSending Say.Defers = Unit {0}
IsSending answer = ⊥

pub some_sending : (held : List Due) → IsSending (defers_some held)
some_sending [] = tt
some_sending (due ∷ held) = tt

pub all_sending : (held sent : List Due) → IsSending (defers_all held sent)
all_sending held [] = some_sending held
all_sending held (due ∷ sent) = tt
