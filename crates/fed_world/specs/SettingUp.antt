-- How far the setting up of a world came, and the rows that a site starts from.
use Rattle.std.specs.Prelude.{ℕ, ◌≡◌, Bool, false, Option, Some, List, [], ◌∷◌, ◌++◌, length, slice_get}
use Rattle.std.specs.Global.{Vec}
use Rattle.mdb_base.specs.declared.names.SiteId.{SiteId}
use Rattle.mdb_base.specs.declared.names.Tid.{Tid}
use Rattle.mdb_base.specs.Words.{Each, first_where}
use Rattle.order_laws.specs.Chains.{In}
use Rattle.fed_rules.specs.declared.scenario.Scenario.{Scenario}
use Rattle.fed_rules.specs.Disk.{empty_disk}
use Rattle.fed_rules.specs.declared.scenario.SiteLine.{SiteLine}
use Rattle.fed_rules.specs.Plans.{declares}
use Rattle.fed_rules.specs.Scenarios.{global_program, home_of, sites}
use Rattle.fed_rules.specs.SitePast.{set_up_calls}
use Rattle.fed_rules.specs.SiteRecords.{Home}
use Rattle.journal_disk.specs.Disk.{Seen}
use Rattle.any_engine.specs.declared.engine.AnyEngine.{AnyEngine}
use Rattle.conservative_take.specs.declared.any_policy.AnyPolicy.{AnyPolicy}
use Rattle.conservative_take.specs.AnyPolicies.{policy_is}
use Rattle.coord_core.specs.Stands.{IsEmptyDisk}
use Rattle.global_manager.specs.declared.manager.GlobalManager.{GlobalManager}
use Rattle.global_manager.specs.Stands as Manager
use Rattle.local_dbms.specs.declared.dbms.LocalDbms.{LocalDbms}
use Rattle.local_dbms.specs.Stands.{own_programs}
use Rattle.site_core.specs.Store.{SomeStop}
use Rattle.fed_world.specs.declared.errors.WorldErr.{WorldErr}
use Rattle.fed_world.specs.declared.errors.WorldErr.TheVariants as Err_is
use Rattle.session_report.specs.declared.marks.Marks.{Marks}
use Rattle.session_routes.specs.declared.traffic.Traffic.{Traffic}
use Rattle.session_routes.specs.Routes.{IsRouted}
use Rattle.fed_world.specs.declared.setting_up.Beginning.{Beginning}
use Rattle.fed_world.specs.declared.world.World.{World}
use Rattle.fed_world.specs.Asks.{terms_of}
use Rattle.fed_world.specs.Worlds.{DbmsStands}

-- each disk is empty
abbrev pub AreEmpty : List Seen → Type 0
AreEmpty disks = (place : ℕ) (disk : Seen) → slice_get disks place ≡ Some disk → disk.size ≡ 0

-- the site is set up on its disk: some local database system stands for no line there
pub record IsSetUp (tells : Bool) (disks : List Seen) (scenario : Scenario) (site : SiteId) : Type 0 where
  pub home : Home
  pub declared : home_of scenario site ≡ Some home
  pub dbms : LocalDbms AnyEngine
  pub stood : DbmsStands tells disks dbms home (own_programs site scenario.transactions) []

-- nothing is on the disks, but on those of these sites
abbrev pub EmptyBut : List SiteId → List Seen → Type 0
EmptyBut sites disks = (place : ℕ) (disk : Seen) → slice_get disks place ≡ Some disk → (In (record { 0 = place }) sites → ⊥) → disk.size ≡ 0

-- want of memory: the first sites are set up, and nothing is on any other disk
pub record StopsForMemory (tells : Bool) (disks : List Seen) (scenario : Scenario) : Type 0 where
  pub done : List SiteId
  pub left : List SiteId
  pub all : sites scenario ≡ done ++ left
  pub set_up : Each (IsSetUp tells disks scenario) done
  pub empty : EmptyBut done disks

-- a failed disk call: the sites before this one are set up, on its disk is what some stop within its set-up leaves, and nothing is on any other
pub record StopsForDisk (number : ℕ) (tells : Bool) (disks : List Seen) (scenario : Scenario) : Type 0 where
  pub done : List SiteId
  pub left : List SiteId
  pub home : Home
  pub number_is : number ≡ home.site.0
  pub declared : home_of scenario home.site ≡ Some home
  pub all : sites scenario ≡ done ++ home.site ∷ left
  pub set_up : Each (IsSetUp tells disks scenario) done
  pub disk : Seen
  pub own : slice_get disks number ≡ Some disk
  pub stop : SomeStop (disk.image) empty_disk (set_up_calls home)
  pub empty : EmptyBut (home.site ∷ done) disks

-- a world that isn't made
abbrev pub FailsToStart : Bool → WorldErr → List Seen → Scenario → Type 0
FailsToStart tells Err_is.Memory disks scenario = StopsForMemory tells disks scenario
FailsToStart tells (Err_is.Disk number) disks scenario = StopsForDisk number tells disks scenario

-- the line is that of its site
abbrev pub IsHomed : Scenario → SiteLine → Type 0
IsHomed scenario line = first_where (declares line.site) scenario.sites ≡ Some line

-- each declared site is set up, by rising site
pub record AreSetUp (tells : Bool) (cores : List (LocalDbms AnyEngine)) (disks : List Seen) (scenario : Scenario) : Type 0 where
  pub count : length cores ≡ length (sites scenario)
  pub each : (place : ℕ) (site : SiteId) (home : Home) (dbms : LocalDbms AnyEngine) → slice_get (sites scenario) place ≡ Some site → home_of scenario site ≡ Some home
      → slice_get cores place ≡ Some dbms → DbmsStands tells disks dbms home (own_programs site scenario.transactions) []
  pub empty : EmptyBut (sites scenario) disks

-- each of these channels is a site's, and nothing was sent there
abbrev pub IsNewChannel : List SiteId → List Traffic → Type 0
IsNewChannel sites channels = (place : ℕ) (site : SiteId) (one : Traffic) → slice_get sites place ≡ Some site → slice_get channels place ≡ Some one
    → (one.site ≡ site) × (one.to.items ≡ []) × (one.from.items ≡ [])

-- each of these marks is a site's, and none is kept
abbrev pub IsNewMarks : List SiteId → List Marks → Type 0
IsNewMarks sites marks = (place : ℕ) (site : SiteId) (one : Marks) → slice_get sites place ≡ Some site → slice_get marks place ≡ Some one
    → (one.site ≡ site) × (one.kept.items ≡ [])

-- the coordinator of the scenario, with an empty disk, stands for no line
abbrev pub IsNewManager : GlobalManager AnyPolicy → Scenario → Type 0
IsNewManager manager scenario = (tells : Bool) (seen : Seen) → IsEmptyDisk tells seen → Manager.Stands policy_is tells manager seen (terms_of scenario) (global_program scenario) []

-- the world of the scenario begins with this beside its actors
pub record IsBeginningOf (beginning : Beginning) (scenario : Scenario) : Type 0 where
  pub routed : IsRouted beginning.routes scenario
  pub all_channels : length beginning.traffic.items ≡ length (sites scenario)
  pub channels : IsNewChannel (sites scenario) beginning.traffic.items
  pub all_marks : length beginning.marks.items ≡ length (sites scenario)
  pub marks : IsNewMarks (sites scenario) beginning.marks.items

-- the world is of these actors, has neither lines nor messages, and these attempts were begun before
pub record IsNewWorld (world : World) (scenario : Scenario) (coordinator : GlobalManager AnyPolicy) (cores : List (LocalDbms AnyEngine)) (tids : Option (Vec Tid)) : Type 0 where
  pub scenario_is : world.cores.scenario ≡ scenario
  pub coordinator_is : world.cores.coordinator ≡ coordinator
  pub cores_are : world.cores.sites.items.items ≡ cores
  pub routed : IsRouted world.routes scenario
  pub all_channels : length world.traffic.items ≡ length (sites scenario)
  pub channels : IsNewChannel (sites scenario) world.traffic.items
  pub all_marks : length world.cores.marks.items ≡ length (sites scenario)
  pub marks : IsNewMarks (sites scenario) world.cores.marks.items
  pub lines : world.lines.items ≡ []
  pub whole : world.broken ≡ false
  pub begun : world.begun ≡ tids
