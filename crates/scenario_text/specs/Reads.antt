-- Readings of a text: a value, or the reason why there is none. Several readings in a row stop at the first reason.
use Rattle.std.specs.Prelude.{◌≡◌, Option, Some, None, Result, Ok, Err}
use Rattle.scenario_text.specs.declared.bad.BadWhy.{BadWhy}
use Rattle.scenario_text.specs.declared.bad.BadWhy.TheVariants.{Count, Spelling}
use Rattle.scenario_text.specs.declared.fault.Fault.{Fault}
use Rattle.scenario_text.specs.declared.fault.Fault.TheVariants as faults

infixl 10 ◌>>=◌
abbrev pub ◌>>=◌ : {A B : Type 0} → Result A BadWhy → (A → Result B BadWhy) → Result B BadWhy
(Ok x) >>= next = next x
(Err why) >>= next = Err why

-- so many words are there, else it is their count that is wrong
abbrev pub counted : {A : Type 0} → Option A → Result A BadWhy
counted None = Err Count
counted (Some x) = Ok x

-- the word has this form, else it is its spelling that is wrong
abbrev pub spelled : {A : Type 0} → Option A → Result A BadWhy
spelled None = Err Spelling
spelled (Some x) = Ok x

-- what a function answered, seen by view, is this reading, unless memory ran out
abbrev pub Fails : {Y : Type 0} → Fault → Result Y BadWhy → Type 0
Fails faults.Memory read = Unit {0}
Fails (faults.Bad why) read = read ≡ Err why

abbrev pub Gives : {X Y : Type 0} → (X → Y) → Result X Fault → Result Y BadWhy → Type 0
Gives view (Ok x) read = read ≡ Ok (view x)
Gives view (Err fault) read = Fails fault read
