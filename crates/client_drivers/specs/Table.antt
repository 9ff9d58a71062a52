-- The table of the drivers: what a driver does behind its calls and their answers, which stand with the latest first.
use Rattle.std.specs.Prelude.{ℕ, suc, Bool, true, false, ◌&&◌, cond, nat_eq, nat_lt, List, [], ◌∷◌, length, Option, Some, None, Result, Ok, Err}
use Rattle.mdb_base.specs.declared.names.Tid.{Tid}
use Rattle.mdb_base.specs.declared.names.Tx.{Tx}
use Rattle.mdb_base.specs.Names.{same_tid, same_tx}
use Rattle.fed_rules.specs.declared.answers.Answer.{Answer}
use Rattle.fed_rules.specs.declared.answers.Answer.TheVariants as Say
use Rattle.fed_rules.specs.declared.commands.Command.{Command}
use Rattle.fed_rules.specs.declared.commands.Command.TheVariants as Call
use Rattle.line_text.specs.declared.error.DoorErr.{DoorErr}
use Rattle.client_drivers.specs.declared.doors.Driven.{Driven}
use Rattle.client_drivers.specs.Calls.{Called}

-- a driver makes a call, or it ends
pub data Turn : Type 0 where
  Makes : Command → Turn
  Ends : Result Driven DoorErr → Turn

-- an answer that ends a driver, and whether the transaction is committed then
abbrev pub end_of : Answer → Option Bool
end_of (Say.Committed tid) = Some true
end_of (Say.Sealed tid number) = Some true
end_of Say.Spent = Some false
end_of answer = None

-- behind so many calls: it ends at such an answer, and makes the next call at another one
abbrev pub at_answer : ℕ → Option Bool → Command → Turn
at_answer made (Some committed) next = Ends (Ok (record { used = made; committed = committed }))
at_answer made None next = Makes next

-- a door's error is answered at once
abbrev pub at_result : ℕ → Result Answer DoorErr → (Answer → Command) → Turn
at_result made (Err error) next = Ends (Err error)
at_result made (Ok answer) next = at_answer made (end_of answer) (next answer)

-- a driver makes at most so many calls
abbrev pub within : ℕ → List Called → Turn → Turn
within turns calls (Ends result) = Ends result
within turns calls (Makes next) = cond (nat_lt (length calls) turns) (Makes next) (Ends (Ok (record { used = length calls; committed = false })))

-- Local transactions.

abbrev pub behind_begin : Tx → Answer → Command
behind_begin tx (Say.Begun tid) = Call.Step tx
behind_begin tx (Say.Running tid) = Call.Step tx
behind_begin tx answer = Call.Fate tx

-- it is the so many-th step in a row that waits
abbrev pub behind_wait : ℕ → ℕ → Tx → Command
behind_wait tries waits tx = cond (nat_lt waits tries) (Call.Step tx) (cond (nat_eq waits tries) (Call.Abort tx) (Call.Fate tx))

abbrev pub behind_step : ℕ → ℕ → Tx → Answer → Command
behind_step tries waits tx (Say.Read key value) = Call.Step tx
behind_step tries waits tx (Say.Wrote key value) = Call.Step tx
behind_step tries waits tx (Say.Waits by) = behind_wait tries waits tx
behind_step tries waits tx (Say.Dies by) = Call.Begin tx
behind_step tries waits tx (Say.Late by) = Call.Begin tx
behind_step tries waits tx Say.End = Call.Commit tx
behind_step tries waits tx answer = Call.Fate tx

abbrev pub behind_commit : Tx → Answer → Command
behind_commit tx (Say.Invalid by key) = Call.Begin tx
behind_commit tx Say.Unfinished = Call.Step tx
behind_commit tx answer = Call.Fate tx

abbrev pub behind_abort : Tx → Answer → Command
behind_abort tx (Say.Aborted tid) = Call.Begin tx
behind_abort tx Say.Idle = Call.Begin tx
behind_abort tx answer = Call.Fate tx

abbrev pub behind_fate : Tx → Answer → Command
behind_fate tx Say.Ended = Call.Begin tx
behind_fate tx Say.Unbegun = Call.Begin tx
behind_fate tx (Say.Running tid) = Call.Step tx
behind_fate tx answer = Call.Fate tx

-- the call behind this one and its answer, where so many steps in a row waited
abbrev pub local_row : ℕ → ℕ → Tx → Command → Answer → Command
local_row tries waits tx (Call.Begin t) answer = behind_begin tx answer
local_row tries waits tx (Call.Step t) answer = behind_step tries waits tx answer
local_row tries waits tx (Call.Commit t) answer = behind_commit tx answer
local_row tries waits tx (Call.Abort t) answer = behind_abort tx answer
local_row tries waits tx (Call.Fate t) answer = behind_fate tx answer
local_row tries waits tx command answer = Call.Fate tx

abbrev pub is_step : Command → Bool
is_step (Call.Step tx) = true
is_step command = false

abbrev pub is_waits : Answer → Bool
is_waits (Say.Waits by) = true
is_waits answer = false

abbrev pub answers_waits : Result Answer DoorErr → Bool
answers_waits (Ok answer) = is_waits answer
answers_waits (Err error) = false

-- how many steps in a row waited, the last call being the last of them
abbrev pub waits_in_row : List Called → ℕ
waits_in_row [] = 0
waits_in_row (c ∷ before) = cond (is_step c.command && answers_waits c.answer) (suc (waits_in_row before)) 0

abbrev pub local_next : ℕ → Tx → List Called → Turn
local_next tries tx [] = Makes (Call.Begin tx)
local_next tries tx (c ∷ before) = at_result (length (c ∷ before)) c.answer (local_row tries (waits_in_row (c ∷ before)) tx c.command)

-- what the driver of a local transaction does
abbrev pub local_turn : ℕ → ℕ → Tx → List Called → Turn
local_turn tries turns tx calls = within turns calls (local_next tries tx calls)

-- Global transactions.

-- the attempt that runs is asked again, and given up behind so many agains of it
abbrev pub behind_running : ℕ → ℕ → Tid → Command
behind_running tries agains tid = cond (nat_lt agains tries) (Call.Again tid) (Call.Late tid)

-- where the attempt that runs is one of this transaction
abbrev pub behind_global_fate : ℕ → (Tid → ℕ) → Tx → Answer → Command
behind_global_fate tries agains tx Say.Ended = Call.Go tx
behind_global_fate tries agains tx Say.Unbegun = Call.Go tx
behind_global_fate tries agains tx (Say.Running tid) = cond (same_tx tid.tx tx) (behind_running tries (agains tid) tid) (Call.Fate tx)
behind_global_fate tries agains tx answer = Call.Fate tx

abbrev pub global_row : ℕ → (Tid → ℕ) → Tx → Command → Answer → Command
global_row tries agains tx (Call.Fate t) answer = behind_global_fate tries agains tx answer
global_row tries agains tx command answer = Call.Fate tx

abbrev pub is_again : Tid → Command → Bool
is_again tid (Call.Again t) = same_tid t tid
is_again tid command = false

-- how many agains of this attempt were made
abbrev pub agains_of : List Called → Tid → ℕ
agains_of [] tid = 0
agains_of (c ∷ before) tid = cond (is_again tid c.command) (suc (agains_of before tid)) (agains_of before tid)

abbrev pub global_next : ℕ → Tx → List Called → Turn
global_next tries tx [] = Makes (Call.Go tx)
global_next tries tx (c ∷ before) = at_result (length (c ∷ before)) c.answer (global_row tries (agains_of (c ∷ before)) tx c.command)

-- what the driver of a global transaction does
abbrev pub global_turn : ℕ → ℕ → Tx → List Called → Turn
global_turn tries turns tx calls = within turns calls (global_next tries tx calls)
