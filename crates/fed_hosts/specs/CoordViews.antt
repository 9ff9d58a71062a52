-- What contracts see of the coordinator's host, and what its calls do.
use Rattle.std.specs.Prelude.{◌≡◌, ◌⊎◌, ℕ, Bool, IsSome, None, Some, List, length, map, reverse, slice_get}
use Rattle.presumptions.specs.declared.Participant.{Participant}
use Rattle.fed_rules.specs.declared.answers.Answer.{Answer}
use Rattle.fed_rules.specs.declared.answers.Answer.TheVariants as Say
use Rattle.fed_rules.specs.declared.commands.Command.{Command}
use Rattle.fed_rules.specs.declared.commands.Command.TheVariants as Cmd
use Rattle.fed_rules.specs.declared.commands.Stamped.{Stamped}
use Rattle.fed_rules.specs.Requests.{attempt}
use Rattle.fed_messages.specs.declared.Packet.{Packet}
use Rattle.global_manager.specs.Stands.{OwnPrograms}
use Rattle.fed_hosts.specs.declared.coord_actor.CoordActor.{CoordActor}
use Rattle.fed_hosts.specs.declared.coord_asks.CoordCall.{CoordCall}
use Rattle.fed_hosts.specs.declared.coord_asks.CoordCall.TheVariants as Call
use Rattle.host_laws.specs.CoordHearing.{HasHeardFrom}
use Rattle.host_laws.specs.CoordHistory.{IsCoordHistory}
use Rattle.host_laws.specs.CoordPlans.{CoordPlan}
use Rattle.host_laws.specs.CoordTurns.{CoordTurn, MayAnswer, coord_past_of, coord_request, took_from}
use Rattle.fed_hosts.specs.Keeps.{most_begun}
use Rattle.host_laws.specs.Plans.{most_lines}
use Rattle.fed_hosts.specs.Views.{Adds}
use Rattle.fed_hosts.specs.Ports.{empties_of, tooks_of}

-- the lines in their order, by rising site the packets that were taken, oldest first, and how often the inlet gave none, the place of the port
-- that the next turn asks first, and whether a disk call failed
pub record CoordView : Type 0 where
  pub lines : List Stamped
  pub tooks : List (List Packet)
  pub empties : List ℕ
  pub first : ℕ
  pub failed : Bool

abbrev pub coord_view_of : {P D : Type 0} → CoordActor P D → Bool → CoordView
coord_view_of actor failed =
    record { lines = actor.lines.items; tooks = tooks_of actor.ports.items; empties = empties_of actor.ports.items; first = actor.first; failed = failed }

-- what was seen of the host is what these turns of the coordinator make: its lines are theirs, right by its plan, with the envelopes that the
-- packets of each site bear
pub record IsCoordSeen (plan : CoordPlan) (turns : List CoordTurn) (view : CoordView) : Type 0 where
  pub right : IsCoordHistory plan turns
  pub lines : view.lines ≡ reverse (map (λ (turn : CoordTurn). turn.line) turns)
  pub count : length view.tooks ≡ length plan.terms.protocols
  pub counts : length view.empties ≡ length plan.terms.protocols
  pub heard : (place : ℕ) (member : Participant) (took : List Packet) → slice_get plan.terms.protocols place ≡ Some member → slice_get view.tooks place ≡ Some took
      → HasHeardFrom took (took_from member.site turns)

-- the command of a call
abbrev pub command_of_call : CoordCall → Command
command_of_call (Call.Go tx) = Cmd.Go tx
command_of_call (Call.Fate tx) = Cmd.Fate tx
command_of_call (Call.Again tid) = Cmd.Again tid
command_of_call (Call.Late tid) = Cmd.Late tid

-- what the rules let answer to a call behind these turns
abbrev pub MayAnswerNext : CoordPlan → List CoordTurn → CoordCall → Answer → Type 0
MayAnswerNext plan turns call answer =
    MayAnswer plan.terms (coord_past_of plan turns) (coord_request plan (coord_past_of plan turns) (command_of_call call) None) answer

-- a host makes no line for this call behind its lines: it has as many as it makes, or a `go` would begin the attempt behind the last that it begins
abbrev pub IsCoordSpent : CoordPlan → List CoordTurn → List Stamped → CoordCall → Type 0
IsCoordSpent plan turns lines (Call.Go tx) = (length lines ≡ most_lines) ⊎ MayAnswerNext plan turns (Call.Go tx) (Say.Begun (attempt tx most_begun))
IsCoordSpent plan turns lines call = length lines ≡ most_lines

-- the transaction of the call is no global one; attempts are named freely
abbrev pub IsUnknown : OwnPrograms → CoordCall → Type 0
IsUnknown programs (Call.Go tx) = programs tx ≡ None
IsUnknown programs (Call.Fate tx) = programs tx ≡ None
IsUnknown programs (Call.Again tid) = ⊥
IsUnknown programs (Call.Late tid) = ⊥

-- it is one
abbrev pub IsKnown : OwnPrograms → CoordCall → Type 0
IsKnown programs (Call.Go tx) = IsSome (programs tx)
IsKnown programs (Call.Fate tx) = IsSome (programs tx)
IsKnown programs (Call.Again tid) = Unit {0}
IsKnown programs (Call.Late tid) = Unit {0}

-- one line is made, with an answer of the rules
pub record MakesCoordLine (plan : CoordPlan) (turns : List CoordTurn) (old new : CoordView) (call : CoordCall) (answer : Answer) : Type 0 where
  pub others : new ≡ record old { lines = new.lines }
  pub adds : Adds old.lines new.lines (command_of_call call) answer
  pub right : MayAnswerNext plan turns call answer

-- without a line it is answered spent exactly where it is spent, and else none where the transaction is no global one; else one line is made
abbrev pub IsCoordServed : CoordPlan → List CoordTurn → CoordView → CoordView → CoordCall → Answer → Type 0
IsCoordServed plan turns old new call answer =
    (IsCoordSpent plan turns old.lines call × (answer ≡ Say.Spent) × (new ≡ old))
    ⊎ ((IsCoordSpent plan turns old.lines call → ⊥)
    × ((IsUnknown plan.programs call × (answer ≡ Say.None) × (new ≡ old)) ⊎ (IsKnown plan.programs call × MakesCoordLine plan turns old new call answer)))

-- what a client's call does
pub record HasCoordServed (plan : CoordPlan) (old new : CoordView) (call : CoordCall) (answer : Answer) : Type 0 where
  pub turns : List CoordTurn
  pub seen : IsCoordSeen plan turns old
  pub served : IsCoordServed plan turns old new call answer
