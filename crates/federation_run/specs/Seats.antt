-- The sites of a run in their seats, and the disks of the others.
use Rattle.std.specs.Prelude.{ℕ, ◌≡◌, ◌-◌, Bool, Some, List, length, slice_get}
use Rattle.fed_rules.specs.declared.scenario.Scenario.{Scenario}
use Rattle.journal_disk.specs.Disk.{Seen}
use Rattle.any_engine.specs.Stands as Engines
use Rattle.scripted_link.specs.Rings.{Wire}
use Rattle.host_laws.specs.CoordPlans.{CoordPlan}
use Rattle.host_laws.specs.Plans.{SitePlan}
use Rattle.fed_hosts.specs.Hosts.{CanOpen}
use Rattle.federation_run.specs.declared.seats.Seat.{Seat}
use Rattle.federation_run.specs.declared.seats.Seat.TheVariants.{Hosted, Idle}
use Rattle.federation_run.specs.declared.wired.WiredActors.{WiredActors}
use Rattle.federation_run.specs.declared.wired.WiredSite.{WiredSite}
use Rattle.federation_run.specs.Plans.{coord_plan, site_plans, wires_of}

-- the run is named by its scenario, by how often the disks failed before, and by its rings
pub record IsNamed (scenario : Scenario) (counts : List ℕ) (actors : WiredActors) (sites : List SitePlan) (coordinator : CoordPlan) (rings : List Wire) : Type 0 where
  pub sites_are : sites ≡ site_plans scenario counts
  pub coordinator_is : coordinator ≡ coord_plan scenario counts
  pub rings_are : rings ≡ wires_of actors.ports.items actors.wired_sites.items

-- with this disk the host of the actor may begin, where there is a wired site of it
abbrev pub CanSeat : Bool → List SitePlan → List Wire → ℕ → Seen → List WiredSite → Type 0
CanSeat tells sites rings actor disk wired_sites = (place : ℕ) (wired : WiredSite) → slice_get wired_sites place ≡ Some wired → wired.ends.site.0 ≡ actor
    → CanOpen Engines.Stands tells sites rings wired.dbms disk wired.stops.items wired.ends

-- with the disk of its number the host of each wired site may begin
abbrev pub CanSeatAll : Bool → List SitePlan → List Wire → List Seen → List WiredSite → Type 0
CanSeatAll tells sites rings disks wired_sites = (place : ℕ) (wired : WiredSite) (disk : Seen) → slice_get wired_sites place ≡ Some wired → slice_get disks wired.ends.site.0 ≡ Some disk
    → CanOpen Engines.Stands tells sites rings wired.dbms disk wired.stops.items wired.ends

-- there is a wired site of this actor
pub record HasWired (actor : ℕ) (wired_sites : List WiredSite) : Type 0 where
  pub place : ℕ
  pub wired : WiredSite
  pub at : slice_get wired_sites place ≡ Some wired
  pub site : wired.ends.site.0 ≡ actor

-- the last wired site is that of this actor
pub record IsLastWired (actor : ℕ) (wired_sites : List WiredSite) : Type 0 where
  pub wired : WiredSite
  pub at : slice_get wired_sites (length wired_sites - 1) ≡ Some wired
  pub site : wired.ends.site.0 ≡ actor

-- a host sits where there is a wired site, and elsewhere the disk
abbrev pub IsSeat : {D N : Type 0} → ℕ → List WiredSite → D → Seat D N → Type 0
IsSeat actor wired_sites disk (Hosted host) = HasWired actor wired_sites
IsSeat actor wired_sites disk (Idle other) = other ≡ disk

-- the seats of the actors 8 to 1, in this order
pub record AreSeats {D N : Type 0} (wired_sites : List WiredSite) (disks : List D) (seats : List (Seat D N)) : Type 0 where
  pub count : length seats ≡ 8
  pub each : (index : ℕ) (seat : Seat D N) (disk : D) → slice_get seats index ≡ Some seat → slice_get disks (8 - index) ≡ Some disk → IsSeat (8 - index) wired_sites disk seat
