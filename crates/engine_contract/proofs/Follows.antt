-- Which call may follow which line: what a line leaves of its attempt's run, and of the numbers.
use Rattle.std.proofs.Common.{◌≡◌, ℕ, ◌+◌, ◌<◌, ◌^◌, Some, List, ◌∷◌, refl}
use Rattle.mdb_base.specs.declared.names.Engine.{Engine}
use Rattle.fed_rules.specs.Replies.{Drawn, AtBegin, AtSealing}
use Rattle.mdb_base.specs.declared.names.Key.{Key}
use Rattle.mdb_base.specs.declared.names.Tid.{Tid}
use Rattle.mdb_base.specs.declared.acts.PlainAct.{PlainAct}
use Rattle.mdb_base.specs.declared.acts.PlainAct.TheVariants.{Read, Write}
use Rattle.mdb_base.specs.declared.replies.Reply.TheVariants.{Done, Value, Ticket, Wait, Refused}
use Rattle.mdb_base.specs.declared.replies.Why.{Why}
use Rattle.fed_rules.specs.Runs.{Start, EngineLine, Begins, Acts, Takes, Refuses, Commits, Aborts, Got, Wrote, Run, begun, run_at, counter}
use Rattle.fed_rules.specs.EngineLines.{IsFree, IsTicketless}
use Rattle.engine_contract.specs.Calls.{NumberFits}
use Rattle.fed_rules.proofs.ForCallers.{run_at_own}

-- a begin leaves a live run without a ticket
pub begun_then : (start : Start) (older : List EngineLine) (tid : Tid) (n : ℕ) → IsTicketless start (Begins tid n ∷ older) tid (begun tid n)
begun_then start older tid n = (run_at_own start older (Begins tid n) _ refl, refl, refl)

-- a granted read is put before the run's accesses
pub read_then : (start : Start) (older : List EngineLine) (tid : Tid) (run : Run) (key : Key) (value : ℕ) → run_at start older tid ≡ Some run → run_at start (Acts tid (Read key) (Value value) ∷ older) tid ≡ Some (record run { acts = Got key value ∷ run.acts })
read_then start older tid run key value h = run_at_own start older (Acts tid (Read key) (Value value)) _ h

-- and so is a granted write
pub wrote_then : (start : Start) (older : List EngineLine) (tid : Tid) (run : Run) (key : Key) (value : ℕ) → run_at start older tid ≡ Some run → run_at start (Acts tid (Write key value) Done ∷ older) tid ≡ Some (record run { acts = Wrote key value ∷ run.acts })
wrote_then start older tid run key value h = run_at_own start older (Acts tid (Write key value) Done) _ h

-- waiting changes nothing
pub waits_then : (start : Start) (older : List EngineLine) (tid : Tid) (run : Run) (act : PlainAct) (by : Tid) → run_at start older tid ≡ Some run → run_at start (Acts tid act (Wait by) ∷ older) tid ≡ Some run
waits_then start older tid run act by h = run_at_own start older (Acts tid act (Wait by)) _ h

pub waits_for_ticket_then : (start : Start) (older : List EngineLine) (tid : Tid) (run : Run) (by : Tid) → run_at start older tid ≡ Some run → run_at start (Takes tid (Wait by) ∷ older) tid ≡ Some run
waits_for_ticket_then start older tid run by h = run_at_own start older (Takes tid (Wait by)) _ h

-- a run that took the ticket has it
pub took_then : (start : Start) (older : List EngineLine) (tid : Tid) (run : Run) (ticket : ℕ) → run_at start older tid ≡ Some run → run_at start (Takes tid (Ticket ticket) ∷ older) tid ≡ Some (record run { ticket = Some ticket })
took_then start older tid run ticket h = run_at_own start older (Takes tid (Ticket ticket)) _ h

-- a refused one has ended
pub refused_then : (start : Start) (older : List EngineLine) (tid : Tid) (run : Run) (act : PlainAct) (why : Why) → run_at start older tid ≡ Some run → IsFree start (Acts tid act (Refused why) ∷ older) tid
refused_then start older tid run act why h = run_at_own start older (Acts tid act (Refused why)) _ h

pub ticket_refused_then : (start : Start) (older : List EngineLine) (tid : Tid) (run : Run) (why : Why) → run_at start older tid ≡ Some run → IsFree start (Takes tid (Refused why) ∷ older) tid
ticket_refused_then start older tid run why h = run_at_own start older (Takes tid (Refused why)) _ h

pub seal_refused_then : (start : Start) (older : List EngineLine) (tid : Tid) (run : Run) (why : Why) → run_at start older tid ≡ Some run → IsFree start (Refuses tid why ∷ older) tid
seal_refused_then start older tid run why h = run_at_own start older (Refuses tid why) _ h

-- and so has a committed one, and an aborted one
pub committed_then : (start : Start) (older : List EngineLine) (tid : Tid) (run : Run) → run_at start older tid ≡ Some run → IsFree start (Commits tid ∷ older) tid
committed_then start older tid run h = run_at_own start older (Commits tid) _ h

pub aborted_then : (start : Start) (older : List EngineLine) (tid : Tid) (run : Run) → run_at start older tid ≡ Some run → IsFree start (Aborts tid ∷ older) tid
aborted_then start older tid run h = run_at_own start older (Aborts tid) _ h

-- a sealing draws at most one
pub NumberFits-below : (drawn : Drawn) (start : Start) (lines : List EngineLine) → counter start lines + 1 < 2 ^ 64 → NumberFits drawn start lines
NumberFits-below AtBegin start lines h = tt
NumberFits-below AtSealing start lines h = h
