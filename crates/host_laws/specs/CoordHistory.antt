-- When the lines of the coordinator's host are right: each is what the rules make of the lines before it and the packets that were taken.
use Rattle.std.specs.Prelude.{◌≡◌, ℕ, IsSome, Option, Some, None, List, [], ◌∷◌, slice_get}
use Rattle.fed_rules.specs.declared.commands.Command.{Command}
use Rattle.fed_rules.specs.declared.commands.Command.TheVariants as Cmd
use Rattle.fed_rules.specs.declared.messages.FromSite.{FromSite}
use Rattle.fed_messages.specs.declared.Envelope.{Envelope}
use Rattle.fed_rules.specs.Terms.{IsAmong}
use Rattle.host_laws.specs.CoordPlans.{CoordPlan}
use Rattle.host_laws.specs.CoordTurns.{CoordTurn, MayAnswer, coord_is_due, coord_last_stamp, coord_past_of, coord_request_at, coord_sends_at, coord_trips_of, places_sent}
use Rattle.host_laws.specs.Lines.{next_stamp, stamp_of}
use Rattle.host_laws.specs.Turns.{is_trip}

-- the envelope that a `take` takes is the one that the line names by its number
pub record IsTaken (place : ℕ) (took : Option (Envelope FromSite)) : Type 0 where
  pub envelope : Envelope FromSite
  pub is : took ≡ Some envelope
  pub place_is : place ≡ envelope.index

-- a command of the coordinator's host: of global transactions and their attempts, with the envelope that it takes from one of its sites, or
-- of the next stop that is left
abbrev pub IsCoordCommand : CoordPlan → List CoordTurn → Command → Option (Envelope FromSite) → Type 0
IsCoordCommand plan turns (Cmd.Go tx) took = IsSome (plan.programs tx) × (took ≡ None)
IsCoordCommand plan turns (Cmd.Fate tx) took = IsSome (plan.programs tx) × (took ≡ None)
IsCoordCommand plan turns (Cmd.Again tid) took = took ≡ None
IsCoordCommand plan turns (Cmd.Late tid) took = took ≡ None
IsCoordCommand plan turns (Cmd.Take site place) took = IsAmong site plan.terms.protocols × IsTaken place took
IsCoordCommand plan turns (Cmd.Trip actor calls cut) took =
    (slice_get plan.stops (coord_trips_of turns) ≡ Some (record { actor = actor; calls = calls; cut = cut })) × (took ≡ None)
IsCoordCommand plan turns (Cmd.Back actor) took = (actor ≡ 0) × (took ≡ None)
IsCoordCommand plan turns command took = ⊥

-- the line is the next one: its answer and its places are those of the rules, its stamp is one more than the last one and than that of the
-- message that it takes, and it arms a stop exactly where one has to be armed
pub record IsCoordNext (plan : CoordPlan) (turns : List CoordTurn) (turn : CoordTurn) : Type 0 where
  pub command : IsCoordCommand plan turns turn.line.line.command turn.took
  pub answer : MayAnswer plan.terms (coord_past_of plan turns) (coord_request_at plan turns turn) turn.line.line.answer
  pub sends : turn.line.line.sends ≡ places_sent plan turns (coord_sends_at plan turns turn)
  pub stamp : turn.line.stamp ≡ next_stamp (coord_last_stamp turns) (stamp_of turn.took)
  pub arms : is_trip turn.line.line.command ≡ coord_is_due plan turns

-- each line is the next one on those before it
abbrev pub IsCoordHistory : CoordPlan → List CoordTurn → Type 0
IsCoordHistory plan [] = Unit {0}
IsCoordHistory plan (turn ∷ turns) = IsCoordNext plan turns turn × IsCoordHistory plan turns
