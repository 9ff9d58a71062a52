-- Which calls a line lets follow: the conditions of the calls on a list with that line newest.
use Rattle.std.proofs.Common.{ℕ, ◌+◌, ◌<◌, ◌^◌, List, ◌∷◌, refl}
use Rattle.mdb_base.specs.declared.names.Key.{Key}
use Rattle.mdb_base.specs.declared.names.Tid.{Tid}
use Rattle.mdb_base.specs.declared.acts.PlainAct.{PlainAct}
use Rattle.mdb_base.specs.declared.acts.PlainAct.TheVariants.{Read, Write}
use Rattle.mdb_base.specs.declared.replies.Reply.TheVariants.{Done, Value, Ticket, Wait}
use Rattle.fed_rules.specs.Runs.{Start, EngineLine, Begins, Acts, Takes, Seals, counter, published}
use Rattle.engine_contract.specs.Calls.{CanAct, CanTake, CanSeal, CanCommit, CanAbort, HasJustBegun, HasJustSealed}
use Rattle.fed_rules.specs.Replies.{rule}
use Rattle.engine_contract.proofs.Follows.{begun_then, read_then, wrote_then, waits_then, waits_for_ticket_then, took_then, NumberFits-below}
use Rattle.fed_rules.proofs.ForCallers.{sealed_then}

-- what was begun can act, take the ticket and be taken back
pub begun_acts : {start : Start} {older : List EngineLine} {tid : Tid} {n : ℕ} → CanAct tid start (Begins tid n ∷ older)
begun_acts {start} {older} {tid} {n} = let h = begun_then start older tid n in record { run = _; live = (h.0, h.1) }

pub begun_takes : {start : Start} {older : List EngineLine} {tid : Tid} {n : ℕ} → published start older + 1 < 2 ^ 64 → CanTake tid start (Begins tid n ∷ older)
begun_takes {start} {older} {tid} {n} few = record { run = _; ticketless = begun_then start older tid n; fits = few }

pub begun_unbegins : {start : Start} {older : List EngineLine} {tid : Tid} {n : ℕ} → HasJustBegun tid start (Begins tid n ∷ older)
begun_unbegins = record { number = _; older = _; newest = refl }

-- what was granted an access or waits can act
pub read_acts : {start : Start} {older : List EngineLine} {tid : Tid} {key : Key} {value : ℕ} → CanAct tid start older → CanAct tid start (Acts tid (Read key) (Value value) ∷ older)
read_acts {start} {older} {tid} {key} {value} c = record { run = _; live = (read_then start older tid c.run key value c.live.0, c.live.1) }

pub wrote_acts : {start : Start} {older : List EngineLine} {tid : Tid} {key : Key} {value : ℕ} → CanAct tid start older → CanAct tid start (Acts tid (Write key value) Done ∷ older)
wrote_acts {start} {older} {tid} {key} {value} c = record { run = _; live = (wrote_then start older tid c.run key value c.live.0, c.live.1) }

pub waits_acts : {start : Start} {older : List EngineLine} {tid : Tid} {act : PlainAct} {by : Tid} → CanAct tid start older → CanAct tid start (Acts tid act (Wait by) ∷ older)
waits_acts {start} {older} {tid} {act} {by} c = record { run = _; live = (waits_then start older tid c.run act by c.live.0, c.live.1) }

pub waits_for_ticket_acts : {start : Start} {older : List EngineLine} {tid : Tid} {by : Tid} → CanAct tid start older → CanAct tid start (Takes tid (Wait by) ∷ older)
waits_for_ticket_acts {start} {older} {tid} {by} c = record { run = _; live = (waits_for_ticket_then start older tid c.run by c.live.0, c.live.1) }

-- what took the ticket can act
pub took_acts : {start : Start} {older : List EngineLine} {tid : Tid} {ticket : ℕ} → CanAct tid start older → CanAct tid start (Takes tid (Ticket ticket) ∷ older)
took_acts {start} {older} {tid} {ticket} c = record { run = _; live = (took_then start older tid c.run ticket c.live.0, c.live.1) }

-- what can act can be sealed and aborted
pub act_seals : {start : Start} {lines : List EngineLine} {tid : Tid} → CanAct tid start lines → counter start lines + 1 < 2 ^ 64 → CanSeal tid start lines
act_seals {start} {lines} {tid} c few = record { run = c.run; live = c.live; fits = NumberFits-below (rule start.kind).drawn start lines few }

pub act_aborts : {start : Start} {lines : List EngineLine} {tid : Tid} → CanAct tid start lines → CanAbort tid start lines
act_aborts c = record { run = c.run; unended = c.live.0 }

pub seal_acts : {start : Start} {lines : List EngineLine} {tid : Tid} → CanSeal tid start lines → CanAct tid start lines
seal_acts c = record { run = c.run; live = c.live }

-- what was sealed can be committed, aborted and taken back
pub sealed_commits : {start : Start} {older : List EngineLine} {tid : Tid} {n : ℕ} → CanAct tid start older → CanCommit tid start (Seals tid n ∷ older)
sealed_commits {start} {older} {tid} {n} c = record { run = _; number = n; sealed = sealed_then start older tid c.run n c.live.0 }

pub commit_aborts : {start : Start} {lines : List EngineLine} {tid : Tid} → CanCommit tid start lines → CanAbort tid start lines
commit_aborts c = record { run = c.run; unended = c.sealed.0 }

pub sealed_unseals : {start : Start} {older : List EngineLine} {tid : Tid} {n : ℕ} → HasJustSealed tid start (Seals tid n ∷ older)
sealed_unseals = record { number = _; older = _; newest = refl }
