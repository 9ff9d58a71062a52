-- Answers without a cycle in them.
use Rattle.std.specs.Prelude.{Option, Some, None}
use Rattle.fed_rules.specs.declared.answers.Answer.{Answer}
use Rattle.fed_rules.specs.declared.answers.Answer.TheVariants as Say
use Rattle.fed_rules.specs.declared.answers.Cause.{Cause}
use Rattle.fed_rules.specs.declared.answers.Cause.TheVariants as For

-- a cause that is no cycle
abbrev pub IsShortCause : Cause → Type 0
IsShortCause (For.Cycle edges) = ⊥
IsShortCause cause = Unit {0}

-- none, or a cause that is no cycle
abbrev pub HasShortCause : Option Cause → Type 0
HasShortCause None = Unit {0}
HasShortCause (Some cause) = IsShortCause cause

-- an answer that names no cycle
abbrev pub IsShortAnswer : Answer → Type 0
IsShortAnswer (Say.Decides decision cause forgets) = HasShortCause cause
IsShortAnswer answer = Unit {0}
