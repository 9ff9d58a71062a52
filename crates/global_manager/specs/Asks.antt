-- What is asked of the coordinator, as a request over its programs and its past.
use Rattle.std.specs.Prelude.{Bool, true, false}
use Rattle.fed_rules.specs.declared.events.CoordEvent.{CoordEvent}
use Rattle.fed_rules.specs.declared.events.CoordEvent.TheVariants as Ev
use Rattle.fed_rules.specs.declared.events.CoordStep.{CoordStep}
use Rattle.fed_rules.specs.CoordCommands.{attempt_request, fate_request, go_request}
use Rattle.fed_rules.specs.CoordPast.{CoordPast}
use Rattle.fed_rules.specs.OwnPrograms.{OwnPrograms}
use Rattle.fed_rules.specs.Requests.{Request, Submits}
use Rattle.fed_rules.specs.Terms.{IsAmong, Terms}
use Rattle.actor_store.specs.declared.errors.StepErr.{StepErr}
use Rattle.global_manager.specs.declared.asks.CoordAsk.{CoordAsk}
use Rattle.global_manager.specs.declared.asks.CoordAsk.TheVariants as Coord
use Rattle.global_manager.specs.Stands.{EachManaged, Fails, Serves}

-- what the coordinator makes of it
abbrev pub coord_request : CoordAsk → Terms → OwnPrograms → CoordPast → Request CoordEvent
coord_request (Coord.Go tx) terms programs past = go_request terms.protocols terms.policy (programs tx) past tx
coord_request (Coord.Fate tx) terms programs past = fate_request (programs tx) tx
coord_request (Coord.Again tid) terms programs past = attempt_request past tid (Ev.Again tid)
coord_request (Coord.Late tid) terms programs past = attempt_request past tid (Ev.Late tid)
coord_request (Coord.Take site message) terms programs past = Submits (Ev.Take site message)
coord_request (Coord.Halt cut) terms programs past = Submits (Ev.Halt cut)
coord_request (Coord.Trip calls cut) terms programs past = Submits (Ev.Trip calls cut)
coord_request Coord.Back terms programs past = Submits Ev.Back
coord_request Coord.Check terms programs past = Submits Ev.Check

-- it may be asked: a message comes from one of the coordinator's sites
abbrev pub CanAsk : CoordAsk → Terms → OwnPrograms → CoordPast → Type 0
CanAsk (Coord.Take site message) terms programs past = IsAmong site terms.protocols
CanAsk ask terms programs past = Unit {0}

-- an operator asks it: it goes to the core as it is, whatever the past
abbrev pub is_operation : CoordAsk → Bool
is_operation (Coord.Halt cut) = true
is_operation (Coord.Trip calls cut) = true
is_operation Coord.Back = true
is_operation Coord.Check = true
is_operation ask = false

-- what comes of it, from what the manager stood for before to what it stands for after
module _ (before after : Terms → OwnPrograms → CoordPast → Type 0) (ask : CoordAsk) where
  -- of each past for which it stood, where this may be asked, the step is the answer to the request, with what that sends and leaves
  abbrev pub ServesOn : CoordStep → Type 0
  ServesOn step = EachManaged before (λ terms programs past. CanAsk ask terms programs past → Serves after step terms programs past (coord_request ask terms programs past))

  -- of each such past the request isn't answered, for this reason
  abbrev pub FailsOn : StepErr → Type 0
  FailsOn why = EachManaged before (λ terms programs past. CanAsk ask terms programs past → Fails after why terms programs past (coord_request ask terms programs past))
