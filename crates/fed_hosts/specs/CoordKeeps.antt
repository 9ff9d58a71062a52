-- What the coordinator's host keeps.
use Rattle.std.specs.Prelude.{◌≡◌, ◌+◌, ◌*◌, ◌<◌, ◌≤◌, ◌^◌, Bool, true, false, ℕ, Option, Some, List, length, map, reverse, option_map, slice_get}
use Rattle.mdb_base.specs.declared.names.SiteId.{SiteId}
use Rattle.mdb_base.specs.declared.names.Tx.{Tx}
use Rattle.mdb_base.specs.Words.{Each}
use Rattle.presumptions.specs.declared.Participant.{Participant}
use Rattle.fed_rules.specs.declared.commands.Command.{Command}
use Rattle.fed_rules.specs.declared.commands.Command.TheVariants as Cmd
use Rattle.fed_rules.specs.declared.events.CoordEvent.{CoordEvent}
use Rattle.fed_rules.specs.declared.messages.FromSite.{FromSite}
use Rattle.fed_rules.specs.CoordPast.{CoordPast, attempts_of}
use Rattle.fed_rules.specs.Policies.{Policy}
use Rattle.fed_rules.specs.Requests.{Submits}
use Rattle.fed_messages.specs.declared.Envelope.{Envelope}
use Rattle.fed_messages.specs.declared.Packet.{Packet}
use Rattle.journal_disk.specs.Disk.{Seen}
use Rattle.global_manager.specs.Stands.{Stands}
use Rattle.held_disks.specs.Stops.{CoordStopsWithin}
use Rattle.scripted_link.specs.Inlets.{inlet_ring, taken}
use Rattle.scripted_link.specs.Outlets.{offered, outlet_wire}
use Rattle.scripted_link.specs.Rings.{Wire}
use Rattle.fed_hosts.specs.declared.coord_actor.CoordActor.{CoordActor}
use Rattle.fed_hosts.specs.declared.ports.Port.{Port}
use Rattle.host_laws.specs.CoordHearing.{BearsFrom, HasHeardFrom}
use Rattle.host_laws.specs.CoordHistory.{IsCoordCommand, IsCoordHistory}
use Rattle.host_laws.specs.CoordPlans.{CoordPlan}
use Rattle.host_laws.specs.CoordTurns.{CoordTurn, coord_begun_in, coord_is_due, coord_last_stamp, coord_past_of, coord_request, coord_trips_of, offered_to, sent_to, took_from}
use Rattle.fed_hosts.specs.Keeps.{IsCounting, IsStop, most_begun}
use Rattle.fed_hosts.specs.Ports.{HaveMovedOn, backs_of}
use Rattle.host_laws.specs.Plans.{most_lines}

-- the port is that of the site at its place, and its rings are those of the ends: first the one to the site, then the one from it
pub record IsPortPlanned (rings : List Wire) (plan : CoordPlan) (place : ℕ) (port : Port) : Type 0 where
  pub member : Participant
  pub at : slice_get plan.terms.protocols place ≡ Some member
  pub site : port.ends.site ≡ member.site
  pub to : slice_get rings (2 * place) ≡ Some (outlet_wire port.ends.outlet)
  pub from : option_map (λ (wire : Wire). wire.ring) (slice_get rings (2 * place + 1)) ≡ Some (inlet_ring port.ends.inlet)

-- there is a port for each site, by rising site
pub record IsCoordPlanned (rings : List Wire) (plan : CoordPlan) (ports : List Port) : Type 0 where
  pub count : length ports ≡ length plan.terms.protocols
  pub each : (place : ℕ) (port : Port) → slice_get ports place ≡ Some port → IsPortPlanned rings plan place port
  pub stops : Each (IsStop 0) plan.stops

-- the port was offered what the lines sent to its site
pub record IsPortLogged (plan : CoordPlan) (turns : List CoordTurn) (port : Port) : Type 0 where
  pub sent : port.to.items ≡ sent_to plan port.ends.site turns
  pub offers : offered port.ends.outlet ≡ offered_to plan port.ends.site turns

-- the lines are right, and what is kept beside them is theirs
pub record IsCoordLogged {P D : Type 0} (plan : CoordPlan) (turns : List CoordTurn) (actor : CoordActor P D) : Type 0 where
  pub right : IsCoordHistory plan turns
  pub lines : actor.lines.items ≡ reverse (map (λ (turn : CoordTurn). turn.line) turns)
  pub ports : (place : ℕ) (port : Port) → slice_get actor.ports.items place ≡ Some port → IsPortLogged plan turns port
  pub stops : actor.stops.items ≡ plan.stops
  pub armed : actor.armed ≡ coord_trips_of turns
  pub last : actor.last ≡ coord_last_stamp turns
  pub low : coord_last_stamp turns ≤ 2 ^ 62 + length turns
  pub short : length turns ≤ most_lines
  pub few_sent : (site : SiteId) → length (sent_to plan site turns) ≤ length turns
  pub counted : (tx : Tx) → attempts_of (coord_past_of plan turns) tx ≡ coord_begun_in tx turns
  pub few : (tx : Tx) → coord_begun_in tx turns ≤ most_begun

-- and no stop has still to be armed
pub record IsCoordKept {P D : Type 0} (plan : CoordPlan) (turns : List CoordTurn) (actor : CoordActor P D) : Type 0 where
  pub logged : IsCoordLogged plan turns actor
  pub settled : length turns < most_lines → coord_is_due plan turns ≡ false

-- the envelope is that of the packet from the site that was put back; there is one place for each site, by rising site
pub record IsPutBackFrom (plan : CoordPlan) (backs : List (Option Packet)) (site : SiteId) (envelope : Envelope FromSite) : Type 0 where
  pub place : ℕ
  pub member : Participant
  pub at : slice_get plan.terms.protocols place ≡ Some member
  pub site_is : site ≡ member.site
  pub packet : Packet
  pub back : slice_get backs place ≡ Some (Some packet)
  pub bears : BearsFrom packet envelope

-- so is that which a command takes, where it takes one
abbrev pub IsBorneFrom : CoordPlan → List (Option Packet) → Command → Option (Envelope FromSite) → Type 0
IsBorneFrom plan backs (Cmd.Take site place) (Some envelope) = IsPutBackFrom plan backs site envelope
IsBorneFrom plan backs command took = Unit {0}

-- the event is that of a command that the host could have had next; a message in it is that of a packet that was put back
pub record IsCoordUnfinished (plan : CoordPlan) (backs : List (Option Packet)) (turns : List CoordTurn) (event : CoordEvent) : Type 0 where
  pub command : Command
  pub took : Option (Envelope FromSite)
  pub could : IsCoordCommand plan turns command took
  pub borne : IsBorneFrom plan backs command took
  pub is : coord_request plan (coord_past_of plan turns) command took ≡ Submits event

-- what a failed disk call leaves: this holds of what a stop before one further event, or within it, leaves, which a command of the host left
-- unfinished
pub record IsCoordBroken (M : CoordPast → Type 0) (plan : CoordPlan) (backs : List (Option Packet)) (turns : List CoordTurn) : Type 0 where
  pub event : CoordEvent
  pub unfinished : IsCoordUnfinished plan backs turns event
  pub stop : CoordStopsWithin M plan.terms (coord_past_of plan turns) event

-- until a disk call fails, this holds of what the events of the lines made
abbrev pub IsCoordStanding : (CoordPast → Type 0) → Bool → CoordPlan → List (Option Packet) → List CoordTurn → Type 0
IsCoordStanding M false plan backs turns = M (coord_past_of plan turns)
IsCoordStanding M true plan backs turns = IsCoordBroken M plan backs turns

-- the envelopes that the lines took from each site are those that the packets from it bear
abbrev pub HaveHeard : List CoordTurn → List Port → Type 0
HaveHeard turns ports = (place : ℕ) (port : Port) → slice_get ports place ≡ Some port → HasHeardFrom (taken port.ends.inlet) (took_from port.ends.site turns)

-- all that the coordinator's host keeps, by the plan and the rings of the run, where it has answered for what these ports took
pub record CoordKeepsFor {P D : Type 0} (test : P → Policy) (tells : Bool) (seen : D → Seen) (plan : CoordPlan) (rings : List Wire) (failed : Bool) (ports : List Port) (actor : CoordActor P D) : Type 0 where
  pub turns : List CoordTurn
  pub planned : IsCoordPlanned rings plan actor.ports.items
  pub kept : IsCoordKept plan turns actor
  pub moved_on : HaveMovedOn actor.ports.items
  pub heard : HaveHeard turns ports
  pub standing : IsCoordStanding (Stands test tells actor.manager (seen actor.disk) plan.terms plan.programs) failed plan (backs_of actor.ports.items) turns
  pub faults : IsCounting failed plan.faults (seen actor.disk).faults

-- where it has answered for all that it took
abbrev pub CoordKeeps : {P D : Type 0} → (P → Policy) → Bool → (D → Seen) → CoordPlan → List Wire → Bool → CoordActor P D → Type 0
CoordKeeps test tells seen plan rings failed actor = CoordKeepsFor test tells seen plan rings failed actor.ports.items actor
