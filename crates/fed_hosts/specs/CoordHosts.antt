-- How the coordinator's host begins, and what it leaves.
use Rattle.std.specs.Prelude.{◌≡◌, ◌<◌, ◌≤◌, Bool, false, ℕ, Some, List, [], length, reverse, map, slice_get}
use Rattle.mdb_base.specs.declared.names.Tx.{Tx}
use Rattle.mdb_base.specs.Rising.{IsRising}
use Rattle.fed_rules.specs.declared.commands.Stamped.{Stamped}
use Rattle.fed_rules.specs.declared.scenario.StopLine.{StopLine}
use Rattle.fed_rules.specs.Policies.{Policy}
use Rattle.journal_disk.specs.Disk.{Seen}
use Rattle.global_manager.specs.declared.manager.GlobalManager.{GlobalManager}
use Rattle.global_manager.specs.Stands.{Stands}
use Rattle.scripted_link.specs.Inlets.{taken}
use Rattle.scripted_link.specs.Outlets.{offered}
use Rattle.scripted_link.specs.Rings.{Wire}
use Rattle.fed_hosts.specs.declared.coord_parts.CoordParts.{CoordParts}
use Rattle.fed_hosts.specs.declared.ports.Port.{Port}
use Rattle.host_laws.specs.CoordHistory.{IsCoordHistory}
use Rattle.fed_hosts.specs.CoordKeeps.{HaveHeard, IsCoordPlanned, IsCoordStanding, IsPortLogged}
use Rattle.host_laws.specs.CoordPlans.{CoordPlan}
use Rattle.host_laws.specs.CoordTurns.{CoordTurn, coord_begun_in, coord_is_due}
use Rattle.fed_hosts.specs.CoordViews.{CoordView}
use Rattle.fed_hosts.specs.Keeps.{IsCounting, most_begun}
use Rattle.host_laws.specs.Plans.{most_lines}
use Rattle.fed_hosts.specs.Ports.{HaveMovedOn, backs_of, tooks_of}

-- nothing was sent to the site of the port or taken from it
pub record IsNewPort (port : Port) : Type 0 where
  pub sent_none : port.to.items ≡ []
  pub taken_none : taken port.ends.inlet ≡ []
  pub offered_none : offered port.ends.outlet ≡ []

-- a host may begin: nothing happened to its coordinator yet, nothing was offered to its rings or taken from them, and all is as the run names it
pub record CanOpenCoord {P : Type 0} (test : P → Policy) (tells : Bool) (plan : CoordPlan) (rings : List Wire) (manager : GlobalManager P) (disk : Seen) (stops : List StopLine) (ports : List Port) : Type 0 where
  pub planned : IsCoordPlanned rings plan ports
  pub stops_are : stops ≡ plan.stops
  pub stood : Stands test tells manager disk plan.terms plan.programs []
  pub faults : disk.faults ≡ plan.faults
  pub new : (place : ℕ) (port : Port) → slice_get ports place ≡ Some port → IsNewPort port

-- What a host leaves: its lines, with the packets that it took, are what the rules make of its past; its stamps rise, at most 31 of them begin
-- an attempt of a transaction, and no stop has still to be armed; its outlets were offered what they sent, and no packet waits at one while
-- a slot of its ring is known to be free; and until a disk call failed its coordinator stands for what the events of the lines made, and its
-- disk's count stands where it stood; behind that it stands for what a stop before or within the event of a further command leaves.
pub record IsHeldCoord {P D : Type 0} (test : P → Policy) (tells : Bool) (seen : D → Seen) (plan : CoordPlan) (rings : List Wire) (parts : CoordParts P D) : Type 0 where
  pub turns : List CoordTurn
  pub planned : IsCoordPlanned rings plan parts.ports.items
  pub right : IsCoordHistory plan turns
  pub lines : parts.lines ≡ reverse (map (λ (turn : CoordTurn). turn.line) turns)
  pub rise : IsRising (λ (line : Stamped). line.stamp) parts.lines
  pub ports : (place : ℕ) (port : Port) → slice_get parts.ports.items place ≡ Some port → IsPortLogged plan turns port
  pub moved_on : HaveMovedOn parts.ports.items
  pub heard : HaveHeard turns parts.ports.items
  pub short : length turns ≤ most_lines
  pub few : (tx : Tx) → coord_begun_in tx turns ≤ most_begun
  pub settled : length turns < most_lines → coord_is_due plan turns ≡ false
  pub standing : IsCoordStanding (Stands test tells parts.manager (seen parts.disk) plan.terms plan.programs) parts.failed plan (backs_of parts.ports.items) turns
  pub faults : IsCounting parts.failed plan.faults (seen parts.disk).faults

-- it is what was seen of the host
pub record HasReturnedCoord {P D : Type 0} (view : CoordView) (parts : CoordParts P D) : Type 0 where
  pub lines : parts.lines ≡ view.lines
  pub tooks : tooks_of parts.ports.items ≡ view.tooks
  pub failed : parts.failed ≡ view.failed
