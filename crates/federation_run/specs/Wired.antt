-- The actors of a run with their scripted stops and their ends of the rings, before each gets its disk and its lock.
use Rattle.std.specs.Prelude.{ℕ, ◌≡◌, Bool, true, false, Some, List, [], length, slice_get}
use Rattle.mdb_base.specs.declared.names.SiteId.{SiteId}
use Rattle.fed_rules.specs.declared.scenario.Scenario.{Scenario}
use Rattle.fed_rules.specs.Scenarios.{global_program, home_of, sites}
use Rattle.fed_rules.specs.SiteRecords.{Home}
use Rattle.journal_disk.specs.Disk.{Seen}
use Rattle.any_engine.specs.declared.engine.AnyEngine.{AnyEngine}
use Rattle.conservative_take.specs.declared.any_policy.AnyPolicy.{AnyPolicy}
use Rattle.global_manager.specs.declared.manager.GlobalManager.{GlobalManager}
use Rattle.local_dbms.specs.declared.dbms.LocalDbms.{LocalDbms}
use Rattle.local_dbms.specs.Stands.{own_programs}
use Rattle.scripted_link.specs.Inlets.{empty_count, inlet_ring, taken}
use Rattle.scripted_link.specs.Outlets.{offered, outlet_wire}
use Rattle.fed_world.specs.Asks.{terms_of}
use Rattle.fed_world.specs.FreshWorlds.{AreDisks}
use Rattle.fed_world.specs.Worlds.{DbmsStands, ManagerStands}
use Rattle.host_laws.specs.Links.{script_of}
use Rattle.fed_hosts.specs.declared.ends.HostEnds.{HostEnds}
use Rattle.fed_hosts.specs.declared.ports.Port.{Port}
use Rattle.fed_hosts.specs.CoordHosts.{IsNewPort}
use Rattle.federation_run.specs.declared.wired.WiredActors.{WiredActors}
use Rattle.federation_run.specs.declared.wired.WiredSite.{WiredSite}
use Rattle.federation_run.specs.Plans.{stops_in}

-- the ends are those of the two rings of the site, which have the scripts of the scenario, and nothing went over them
pub record AreRinged (scenario : Scenario) (site : SiteId) (ends : HostEnds) (port : Port) : Type 0 where
  pub at_site : ends.site ≡ site
  pub at_coordinator : port.ends.site ≡ site
  pub to : inlet_ring ends.inlet ≡ (outlet_wire port.ends.outlet).ring
  pub from : inlet_ring port.ends.inlet ≡ (outlet_wire ends.outlet).ring
  pub to_script : (outlet_wire port.ends.outlet).script ≡ script_of scenario true site
  pub from_script : (outlet_wire ends.outlet).script ≡ script_of scenario false site
  pub taken_none : taken ends.inlet ≡ []
  pub offered_none : offered ends.outlet ≡ []
  pub uncounted : empty_count ends.inlet ≡ 0
  pub new : IsNewPort port

-- the wired site has this local database system, its stops and its ends
pub record IsWired (scenario : Scenario) (site : SiteId) (dbms : LocalDbms AnyEngine) (wired : WiredSite) (port : Port) : Type 0 where
  pub dbms_is : wired.dbms ≡ dbms
  pub stops : wired.stops.items ≡ stops_in scenario site.0
  pub rings : AreRinged scenario site wired.ends port

-- there are a wired site and a port for each of these sites, with their local database systems
pub record AreWired (scenario : Scenario) (sites : List SiteId) (dbmss : List (LocalDbms AnyEngine)) (wired_sites : List WiredSite) (ports : List Port) : Type 0 where
  pub wired_count : length wired_sites ≡ length sites
  pub ports_count : length ports ≡ length sites
  pub each : (place : ℕ) (site : SiteId) (dbms : LocalDbms AnyEngine) (wired : WiredSite) (port : Port) → slice_get sites place ≡ Some site → slice_get dbmss place ≡ Some dbms
      → slice_get wired_sites place ≡ Some wired → slice_get ports place ≡ Some port → IsWired scenario site dbms wired port

-- the local database system is that of the site and, with the disk of its number, stands for no line
pub record IsStood (tells : Bool) (disks : List Seen) (scenario : Scenario) (site : SiteId) (dbms : LocalDbms AnyEngine) : Type 0 where
  pub home : Home
  pub is : home.site ≡ site
  pub declared : home_of scenario site ≡ Some home
  pub stood : DbmsStands tells disks dbms home (own_programs site scenario.transactions) []

-- the actors of the scenario, with these disks, to which nothing happened since they were set up
pub record AreFreshActors (tells : Bool) (disks : List Seen) (scenario : Scenario) (manager : GlobalManager AnyPolicy) (cores : List (LocalDbms AnyEngine)) : Type 0 where
  pub coordinator : ManagerStands tells disks manager (terms_of scenario) (global_program scenario) []
  pub count : length cores ≡ length (sites scenario)
  pub each : (place : ℕ) (site : SiteId) (dbms : LocalDbms AnyEngine) → slice_get (sites scenario) place ≡ Some site → slice_get cores place ≡ Some dbms
      → IsStood tells disks scenario site dbms
  pub others : AreDisks disks scenario

-- the actors of a run of the scenario, with their stops, their rings and these disks, to which nothing happened since they were set up
pub record AreWiredActors (tells : Bool) (disks : List Seen) (scenario : Scenario) (actors : WiredActors) : Type 0 where
  pub manager : ManagerStands tells disks actors.manager (terms_of scenario) (global_program scenario) []
  pub stops : actors.stops.items ≡ stops_in scenario 0
  pub wired_count : length actors.wired_sites.items ≡ length (sites scenario)
  pub ports_count : length actors.ports.items ≡ length (sites scenario)
  pub wired : (place : ℕ) (site : SiteId) (wired : WiredSite) → slice_get (sites scenario) place ≡ Some site → slice_get actors.wired_sites.items place ≡ Some wired
      → (wired.stops.items ≡ stops_in scenario site.0) × IsStood tells disks scenario site wired.dbms
  pub ringed : (place : ℕ) (site : SiteId) (wired : WiredSite) (port : Port) → slice_get (sites scenario) place ≡ Some site → slice_get actors.wired_sites.items place ≡ Some wired
      → slice_get actors.ports.items place ≡ Some port → AreRinged scenario site wired.ends port
  pub others : AreDisks disks scenario
