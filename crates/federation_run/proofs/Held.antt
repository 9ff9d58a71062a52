-- What is on the disk of a host that was left: what the rules say of its past, or of what some stop leaves.
use Rattle.std.proofs.Common.{◌≡◌, Bool, true, false, Option, List, inl, inr}
use Rattle.fed_rules.specs.CoordPast.{CoordPast}
use Rattle.fed_messages.specs.declared.Packet.{Packet}
use Rattle.journal_disk.specs.Disk.{Seen}
use Rattle.any_engine.specs.declared.engine.AnyEngine.{AnyEngine}
use Rattle.any_engine.specs.Stands as Engines
use Rattle.conservative_take.specs.declared.any_policy.AnyPolicy.{AnyPolicy}
use Rattle.conservative_take.specs.AnyPolicies.{policy_is}
use Rattle.coord_core.specs.Found as Coord_found
use Rattle.site_core.specs.Made.{was_found}
use Rattle.held_disks.specs.Holding.{CoordHolds, SiteHolds}
use Rattle.held_disks.specs.Stops.{CoordStopsWithin}
use Rattle.held_disks.proofs.ForCallers.{before_not_found, coord_holds, site_holds, stopped_not_found, within_not_found}
use Rattle.global_manager.specs.declared.manager.GlobalManager.{GlobalManager}
use Rattle.global_manager.specs.Stands as Manager
use Rattle.local_dbms.specs.declared.dbms.LocalDbms.{LocalDbms}
use Rattle.local_dbms.specs.Stands as Dbms
use Rattle.host_laws.specs.CoordPlans.{CoordPlan}
use Rattle.host_laws.specs.CoordTurns.{CoordTurn, coord_past_of}
use Rattle.host_laws.specs.Plans.{SitePlan}
use Rattle.host_laws.specs.Turns.{SiteTurn, past_of}
use Rattle.fed_hosts.specs.CoordKeeps.{IsCoordStanding}
use Rattle.fed_hosts.specs.Keeps.{IsStanding}

-- of a site's
pub site_left : (tells failed : Bool) (dbms : LocalDbms AnyEngine) (disk : Seen) (plan : SitePlan) (back : Option Packet) (turns : List SiteTurn) → was_found (past_of plan turns) ≡ false
    → IsStanding (Dbms.Stands Engines.Stands tells dbms disk plan.home plan.programs) failed plan back turns → IsStanding (SiteHolds disk.image plan.home) failed plan back turns
site_left tells false dbms disk plan back turns new s = site_holds Engines.Stands tells dbms.core disk plan.home (past_of plan turns) new s.core
site_left tells true dbms disk plan back turns new b = record {
  event = b.event;
  unfinished = b.unfinished;
  stop = (b.stop.0, site_holds Engines.Stands tells dbms.core disk plan.home _ (stopped_not_found plan.home (past_of plan turns) b.event b.stop.0 new) b.stop.1.core, b.stop.2);
}

-- and of the coordinator's
pub coord_left : (tells failed : Bool) (manager : GlobalManager AnyPolicy) (disk : Seen) (plan : CoordPlan) (backs : List (Option Packet)) (turns : List CoordTurn) → Coord_found.was_found (coord_past_of plan turns) ≡ false
    → IsCoordStanding (Manager.Stands policy_is tells manager disk plan.terms plan.programs) failed plan backs turns → IsCoordStanding (CoordHolds disk.image) failed plan backs turns
coord_left tells false manager disk plan backs turns new s = coord_holds policy_is tells manager.core disk plan.terms (coord_past_of plan turns) new s.core
coord_left tells true manager disk plan backs turns new b = record { event = b.event; unfinished = b.unfinished; stop = by_stop b.stop }
  where
    past : CoordPast
    past = coord_past_of plan turns

    by_stop : CoordStopsWithin (Manager.Stands policy_is tells manager disk plan.terms plan.programs) plan.terms past b.event → CoordStopsWithin (CoordHolds disk.image) plan.terms past b.event
    by_stop (inl s) = inl (s.0, coord_holds policy_is tells manager.core disk plan.terms _ (before_not_found plan.terms past s.0 new) s.1.core)
    by_stop (inr s) = inr (s.0, s.1, s.2, coord_holds policy_is tells manager.core disk plan.terms _ (within_not_found plan.terms past b.event s.0 s.1 new) s.3.core)
