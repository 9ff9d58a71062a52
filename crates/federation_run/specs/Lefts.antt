-- What the hosts of a run leave.
use Rattle.std.specs.Prelude.{ℕ, ◌≡◌, ◌≤◌, ◌*◌, ◌+◌, ◌-◌, Bool, true, false, Some, None, List, [], ◌∷◌, ◌++◌, length, map, option_map, slice_get}
use Rattle.mdb_base.specs.declared.names.SiteId.{SiteId}
use Rattle.fed_rules.specs.declared.scenario.Scenario.{Scenario}
use Rattle.fed_rules.specs.Scenarios.{home_of, sites}
use Rattle.journal_disk.specs.Disk.{Seen}
use Rattle.any_engine.specs.declared.engine.AnyEngine.{AnyEngine}
use Rattle.any_engine.specs.Stands as Engines
use Rattle.conservative_take.specs.declared.any_policy.AnyPolicy.{AnyPolicy}
use Rattle.conservative_take.specs.AnyPolicies.{policy_is}
use Rattle.scripted_link.specs.Rings.{Wire}
use Rattle.host_laws.specs.CoordPlans.{CoordPlan}
use Rattle.host_laws.specs.Links.{script_of}
use Rattle.host_laws.specs.Plans.{SitePlan}
use Rattle.fed_hosts.specs.declared.coord_parts.CoordParts.{CoordParts}
use Rattle.fed_hosts.specs.declared.parts.SiteParts.{SiteParts}
use Rattle.fed_hosts.specs.CoordHosts.{IsHeldCoord}
use Rattle.fed_hosts.specs.Hosts.{IsHeld}
use Rattle.federation_run.specs.declared.lefts.CoordLeft.{CoordLeft}
use Rattle.federation_run.specs.declared.lefts.Left.{Left}
use Rattle.federation_run.specs.declared.lefts.SiteLeft.{SiteLeft}
use Rattle.federation_run.specs.declared.seats.Seat.{Seat}
use Rattle.federation_run.specs.declared.seats.Seat.TheVariants.{Hosted, Idle}
use Rattle.federation_run.specs.Plans.{coord_plan, count_at, site_plans}

-- a disk as contracts see it
abbrev pub itself : Seen → Seen
itself disk = disk

-- what is left of a site's host, with its disk
abbrev pub parts_of : SiteLeft → Seen → SiteParts AnyEngine Seen
parts_of left disk = record { dbms = left.dbms; disk = disk; lines = left.lines; sent = left.sent; ends = left.ends; failed = left.failed }

-- and of the coordinator's
abbrev pub coord_parts_of : CoordLeft → Seen → CoordParts AnyPolicy Seen
coord_parts_of left disk = record { manager = left.manager; disk = disk; lines = left.lines; ports = left.ports; failed = left.failed }

-- it is what the host of some site of the run leaves, with the disk of this number
pub record IsHeldAt (tells : Bool) (plans : List SitePlan) (rings : List Wire) (disks : List Seen) (left : SiteLeft) : Type 0 where
  pub disk : Seen
  pub own : slice_get disks left.actor ≡ Some disk
  pub held : IsHeld Engines.Stands tells itself plans rings (parts_of left disk)

-- it is what the coordinator's host leaves, with disk 0
pub record IsCoordHeldAt (tells : Bool) (plan : CoordPlan) (rings : List Wire) (disks : List Seen) (left : CoordLeft) : Type 0 where
  pub disk : Seen
  pub own : slice_get disks 0 ≡ Some disk
  pub held : IsHeldCoord policy_is tells itself plan rings (coord_parts_of left disk)

-- so of each site
abbrev pub AreHeldAt : Bool → List SitePlan → List Wire → List Seen → List SiteLeft → Type 0
AreHeldAt tells plans rings disks lefts = (place : ℕ) (left : SiteLeft) → slice_get lefts place ≡ Some left → IsHeldAt tells plans rings disks left

-- a host that is taken out of its seat leaves its disk at the end of the disks and the rest at the end of what is left; a disk alone goes to their end
pub record HasRisenFrom (tells : Bool) (plans : List SitePlan) (rings : List Wire) (disks behind : List Seen) (lefts more : List SiteLeft) : Type 0 where
  pub disk : Seen
  pub left : SiteLeft
  pub disks_are : behind ≡ disks ++ disk ∷ []
  pub lefts_are : more ≡ lefts ++ left ∷ []
  pub actor : left.actor ≡ length disks
  pub held : IsHeld Engines.Stands tells itself plans rings (parts_of left disk)

abbrev pub IsTakenOut : {D N : Type 0} → Bool → (D → Seen) → List SitePlan → List Wire → Seat D N → List Seen → List Seen → List SiteLeft → List SiteLeft → Type 0
IsTakenOut tells seen plans rings (Hosted host) disks behind lefts more = HasRisenFrom tells plans rings disks behind lefts more
IsTakenOut tells seen plans rings (Idle disk) disks behind lefts more = (behind ≡ disks ++ seen disk ∷ []) × (more ≡ lefts)

-- the disks that sat alone are back at their places: the seats are those of the actors 8 to 1, in this order
abbrev pub AreBack : {D N : Type 0} → (D → Seen) → List (Seat D N) → List Seen → Type 0
AreBack {D} {N} seen seats disks = (index : ℕ) (disk : D) → slice_get seats index ≡ Some (Idle disk) → slice_get disks (8 - index) ≡ Some (seen disk)

-- what the hosts of a run leave with nine disks: each its own, and the disks of the other sites are as they were
pub record HasLeft (tells : Bool) (scenario : Scenario) (plans : List SitePlan) (plan : CoordPlan) (rings : List Wire) (old new : List Seen) (left : Left) : Type 0 where
  pub nine : length new ≡ 9
  pub coordinator : IsCoordHeldAt tells plan rings new left.coordinator
  pub sites_are : AreHeldAt tells plans rings new left.sites.items
  pub others : (site : SiteId) → 1 ≤ site.0 → home_of scenario site ≡ None → slice_get new site.0 ≡ slice_get old site.0

-- the rings have the scripts of the scenario
pub record AreScripted (scenario : Scenario) (rings : List Wire) : Type 0 where
  pub to : (place : ℕ) (site : SiteId) (wire : Wire) → slice_get (sites scenario) place ≡ Some site → slice_get rings (2 * place) ≡ Some wire → wire.script ≡ script_of scenario true site
  pub from : (place : ℕ) (site : SiteId) (wire : Wire) → slice_get (sites scenario) place ≡ Some site → slice_get rings (2 * place + 1) ≡ Some wire → wire.script ≡ script_of scenario false site

-- nothing is on the disk of a site that isn't declared, and it didn't fail
pub record IsIdle (counts : List ℕ) (number : ℕ) (disk : Seen) : Type 0 where
  pub empty : disk.size ≡ 0
  pub calm : disk.faults ≡ count_at counts number

-- what a run of the scenario leaves with these disks, where they had failed so often before
pub record IsLeft (tells : Bool) (counts : List ℕ) (disks : List Seen) (scenario : Scenario) (left : Left) : Type 0 where
  pub rings : List Wire
  pub scripted : AreScripted scenario rings
  pub counted : length counts ≡ 9
  pub nine : length disks ≡ 9
  pub coordinator : IsCoordHeldAt tells (coord_plan scenario counts) rings disks left.coordinator
  pub sites_are : AreHeldAt tells (site_plans scenario counts) rings disks left.sites.items
  pub others : (site : SiteId) (disk : Seen) → 1 ≤ site.0 → home_of scenario site ≡ None → slice_get disks site.0 ≡ Some disk → IsIdle counts site.0 disk

-- what is left is that of these sites, each with its own disk
pub record ArePlaced (sites : List SiteId) (lefts : List SiteLeft) : Type 0 where
  pub count : length lefts ≡ length sites
  pub actor : (place : ℕ) (site : SiteId) (left : SiteLeft) → slice_get sites place ≡ Some site → slice_get lefts place ≡ Some left → left.actor ≡ site.0
  pub site : (place : ℕ) (site : SiteId) (left : SiteLeft) → slice_get sites place ≡ Some site → slice_get lefts place ≡ Some left → left.ends.site ≡ site
