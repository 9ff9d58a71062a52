-- How a world goes on from its disks: what its actors are by the journals there, and what is answered.
use Rattle.std.specs.Prelude.{ℕ, ◌≡◌, Bool, false, Option, Some, None, Result, Ok, Err, List, [], ◌∷◌, length, slice_get}
use Rattle.mdb_base.specs.declared.names.SiteId.{SiteId}
use Rattle.mdb_base.specs.Words.{found as each_found, map_some}
use Rattle.fed_rules.specs.declared.records.CoordRecord.{CoordRecord}
use Rattle.fed_rules.specs.declared.records.SiteRecord.{SiteRecord}
use Rattle.fed_rules.specs.declared.scenario.Scenario.{Scenario}
use Rattle.fed_rules.specs.declared.scenario.SiteLine.{SiteLine}
use Rattle.fed_rules.specs.Found.{Found, Journal}
use Rattle.fed_rules.specs.Reopened.{home_by, opened_coordinator, opened_site}
use Rattle.fed_rules.specs.Resumed.{begun, going_on, plan_of, site_line_by}
use Rattle.fed_rules.specs.Scenarios.{global_program, home_of, protocols, sites}
use Rattle.fed_rules.specs.SiteRecords.{Home}
use Rattle.journal_disk.specs.Disk.{Image, Seen}
use Rattle.frame_journal.specs.Journal.{Kept, records}
use Rattle.any_engine.specs.declared.engine.AnyEngine.{AnyEngine}
use Rattle.any_engine.specs.Stands as Engines
use Rattle.conservative_take.specs.AnyPolicies.{policy_is}
use Rattle.conservative_take.specs.declared.any_policy.AnyPolicy.{AnyPolicy}
use Rattle.coord_core.specs.Found as Coordinator
use Rattle.global_manager.specs.declared.manager.GlobalManager.{GlobalManager}
use Rattle.global_manager.specs.Stands as Manager
use Rattle.local_dbms.specs.declared.dbms.LocalDbms.{LocalDbms}
use Rattle.local_dbms.specs.Found.{found_programs}
use Rattle.local_dbms.specs.Stands as Dbms
use Rattle.site_core.specs.Found as Site
use Rattle.found_disks.specs.declared.errors.ReopenErr.{ReopenErr}
use Rattle.found_disks.specs.declared.errors.ReopenErr.TheVariants as Err_is
use Rattle.found_disks.specs.declared.reading.Journals.{Journals}
use Rattle.found_disks.specs.Finding.{FindsAs, NamesOf, found_in}
use Rattle.found_disks.specs.Reading.{AreRead, images_of}
use Rattle.world_recovery.specs.declared.reopening.Actors.{Actors}
use Rattle.world_recovery.specs.declared.reopening.Plan.{Plan}
use Rattle.fed_world.specs.declared.world.World.{World}
use Rattle.fed_world.specs.Asks.{terms_of}
use Rattle.fed_world.specs.SettingUp.{IsNewWorld}
use Rattle.fed_world.specs.Worlds.{OnDisk, Stands}

-- ---- the disks

-- all bytes of each disk are synced
abbrev pub AreSynced : List Image → Type 0
AreSynced images = (number : ℕ) (image : Image) → slice_get images number ≡ Some image → image.synced ≡ length image.bytes

-- on the disk of this site stands its journal
pub record IsOnDisk (images : List Image) (home : Home) : Type 0 where
  pub image : Image
  pub own : slice_get images home.site.0 ≡ Some image
  pub journal : Journal SiteRecord
  pub stands : Site.IsFoundOn image home journal

-- each declared site has its journal on its disk
pub record AreOnDisks (found : Found) (scenario : Scenario) (images : List Image) : Type 0 where
  pub sites_are : scenario.sites ≡ (plan_of found).sites
  pub each : (home : Home) → home_of (plan_of found) home.site ≡ Some home → IsOnDisk images home

-- on disk 0 stands the journal of the coordinator
pub record IsOnFirst (found : Found) (scenario : Scenario) (images : List Image) : Type 0 where
  pub sites_are : scenario.sites ≡ (plan_of found).sites
  pub image : Image
  pub own : slice_get images 0 ≡ Some image
  pub journal : Journal CoordRecord
  pub is : found.coordinator ≡ Some journal
  pub stands : Coordinator.IsFoundOn image (protocols (plan_of found)) journal

-- ---- the actors

-- the local database system goes on at this site from the journal on the disk
abbrev pub GoesBack : Bool → LocalDbms AnyEngine → Found → SiteId → Seen → Type 0
GoesBack tells dbms found site disk = (home : Home) (journal : Journal SiteRecord) → home_of (plan_of found) site ≡ Some home → Site.IsFoundOn disk.image home journal
    → Dbms.Stands Engines.Stands tells dbms disk home (found_programs journal.records) (opened_site journal)

-- each does, by rising site
abbrev pub EachBack : Bool → List (LocalDbms AnyEngine) → List Seen → Found → Type 0
EachBack tells cores disks found = (place : ℕ) (site : SiteId) (dbms : LocalDbms AnyEngine) → slice_get (sites (plan_of found)) place ≡ Some site → slice_get cores place ≡ Some dbms
    → OnDisk disks site.0 (GoesBack tells dbms found site)

pub record AreBack (tells : Bool) (cores : List (LocalDbms AnyEngine)) (disks : List Seen) (found : Found) : Type 0 where
  pub count : length cores ≡ length (sites (plan_of found))
  pub each : EachBack tells cores disks found

-- the coordinator goes on from the journal on disk 0
abbrev pub CoordinatorBack : Bool → GlobalManager AnyPolicy → List Seen → Found → Type 0
CoordinatorBack tells manager disks found = OnDisk disks 0 (λ disk. (journal : Journal CoordRecord) → found.coordinator ≡ Some journal
    → Coordinator.IsFoundOn disk.image (protocols (plan_of found)) journal
    → Manager.Stands policy_is tells manager disk (terms_of (plan_of found)) (global_program (plan_of found)) (opened_coordinator (protocols (plan_of found)) journal))

-- why an actor doesn't go on from a journal that may be read
abbrev pub IsDiskOrMemory : ReopenErr → Type 0
IsDiskOrMemory (Err_is.Disk number) = Unit {0}
IsDiskOrMemory Err_is.Memory = Unit {0}
IsDiskOrMemory (Err_is.Damaged number at) = ⊥
IsDiskOrMemory (Err_is.Foreign number) = ⊥

-- ---- what else a world begins with

-- the line of a site by the records of its journal, the oldest first, where it has one
abbrev pub line_by : List SiteRecord → Option SiteLine
line_by [] = None
line_by (first ∷ newer) = map_some site_line_by (home_by first)

abbrev pub lines_by : List (Kept SiteRecord) → List SiteLine
lines_by journals = each_found (λ journal. line_by (records journal)) journals

-- a scenario of these sites, with neither items nor transactions
abbrev pub of_sites : List SiteLine → Scenario
of_sites lines =
    record {
      sites = lines;
      items = [];
      transactions = [];
      clients = 1;
      turns = 1;
      tries = 1;
      links = [];
      stops = [];
      conservative = false;
    }

-- it begins with this beside its actors
pub record IsPlanOf (plan : Plan) (found : Found) : Type 0 where
  pub scenario : plan.scenario ≡ of_sites (plan_of found).sites
  pub begun : plan.begun.items ≡ begun found

-- these actors go on from the journals on the disks
pub record AreActorsBack (tells : Bool) (actors : Actors) (disks : List Seen) (found : Found) : Type 0 where
  pub coordinator : CoordinatorBack tells actors.coordinator disks found
  pub sites : AreBack tells actors.sites.items disks found

-- the world is made of this and of actors that go on from the journals on the disks
pub record HasActors (tells : Bool) (world : World) (plan : Plan) (disks : List Seen) (found : Found) : Type 0 where
  pub coordinator : CoordinatorBack tells world.cores.coordinator disks found
  pub sites : AreBack tells world.cores.sites.items.items disks found
  pub made : IsNewWorld world plan.scenario world.cores.coordinator world.cores.sites.items.items (Some plan.begun)

-- ---- what is answered

-- the world goes on from the journals on the disks, each of which is usable
pub record GoesOnFrom (tells : Bool) (world : World) (old new : List Seen) : Type 0 where
  pub journals : Journals
  pub read : AreRead (images_of old) journals
  pub named : NamesOf journals None
  pub stands : Stands tells world new (going_on (found_in (images_of old) journals)) []

-- a world exactly where no disk is damaged and each is usable; the first damaged disk exactly where one is; else the first one that isn't usable
abbrev pub ReopensAs : Bool → Result World ReopenErr → List Seen → List Seen → Type 0
ReopensAs tells (Ok world) old new = GoesOnFrom tells world old new
ReopensAs tells (Err why) old new = FindsAs (Err why) (images_of old)
