-- The actors of a world to which nothing happened yet.
use Rattle.std.proofs.Common.{◌≡◌, ◌∙◌, ℕ, Bool, Some, List, [], ap, slice_get, subst, sym}
use Rattle.fed_rules.specs.declared.scenario.Scenario.{Scenario}
use Rattle.mdb_base.specs.declared.names.SiteId.{SiteId}
use Rattle.fed_rules.specs.Scenarios.{sites}
use Rattle.journal_disk.specs.Disk.{Seen}
use Rattle.any_engine.specs.declared.engine.AnyEngine.{AnyEngine}
use Rattle.local_dbms.specs.declared.dbms.LocalDbms.{LocalDbms}
use Rattle.fed_world.specs.declared.cores.Cores.{Cores}
use Rattle.fed_world.specs.declared.world.World.{World}
use Rattle.fed_world.specs.FreshWorlds.{Stands}
use Rattle.fed_world.proofs.ForCallers.{has_item}
use Rattle.federation_run.specs.Wired.{AreFreshActors, IsStood}

module _ (tells : Bool) (world : World) (disks : List Seen) (scenario : Scenario) (s : Stands tells world disks scenario []) where
  stood : (place : ℕ) (site : SiteId) (dbms : LocalDbms AnyEngine) → slice_get (sites scenario) place ≡ Some site → slice_get world.cores.sites.items.items place ≡ Some dbms → IsStood tells disks scenario site dbms
  stood place site dbms there at =
      let all = s.stand.actors.sites in
      let marks = has_item world.cores.marks.items (sites scenario) place site all.all_marks there in
      let traffic = has_item world.traffic.items (sites scenario) place site all.all_channels there in
      let seat = all.each place site dbms marks.0 traffic.0 there at marks.1 traffic.1 in
      record { home = seat.home; is = seat.is; declared = seat.declared; stood = seat.part.dbms }

  -- they are those of the scenario
  pub fresh : AreFreshActors tells disks scenario world.cores.coordinator world.cores.sites.items.items
  fresh = record { coordinator = s.stand.actors.coordinator; count = s.stand.actors.sites.all_cores; each = stood; others = s.stand.others }

  -- they are those of the scenario that the world bears
  pub fresh_own : AreFreshActors tells disks world.cores.scenario world.cores.coordinator world.cores.sites.items.items
  fresh_own = subst (λ (z : Scenario). AreFreshActors tells disks z world.cores.coordinator world.cores.sites.items.items) (sym s.has.scenario_is) fresh

  -- and stay so where the world is taken apart
  pub fresh_apart : (cores : Cores) → cores ≡ world.cores → AreFreshActors tells disks cores.scenario cores.coordinator cores.sites.items.items
  fresh_apart cores is = subst (λ (k : Cores). AreFreshActors tells disks k.scenario k.coordinator k.sites.items.items) (sym is) fresh_own

  pub scenario_apart : (cores : Cores) → cores ≡ world.cores → cores.scenario ≡ scenario
  scenario_apart cores is = ap (λ (k : Cores). k.scenario) is ∙ s.has.scenario_is
