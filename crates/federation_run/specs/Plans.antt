-- What is settled of the actors of a run, by its scenario and by how often the disks failed before.
use Rattle.std.specs.Prelude.{ℕ, ◌≡◌, ◌+◌, ◌*◌, Some, List, [], ◌∷◌, map, slice_get, slice_index_or}
use Rattle.mdb_base.specs.declared.names.Engine.TheVariants.{Locking}
use Rattle.mdb_base.specs.declared.names.SiteId.{SiteId}
use Rattle.mdb_base.specs.Words.{or_else, those}
use Rattle.presumptions.specs.declared.Protocol.TheVariants.{Nothing}
use Rattle.fed_rules.specs.declared.scenario.Scenario.{Scenario}
use Rattle.fed_rules.specs.declared.scenario.StopLine.{StopLine}
use Rattle.fed_rules.specs.Plans.{stops_actor}
use Rattle.fed_rules.specs.Scenarios.{global_program, home_of, sites}
use Rattle.fed_rules.specs.SiteRecords.{Home}
use Rattle.local_dbms.specs.Stands.{own_programs}
use Rattle.fed_world.specs.Asks.{terms_of}
use Rattle.scripted_link.specs.Outlets.{outlet_wire}
use Rattle.scripted_link.specs.Rings.{Wire}
use Rattle.host_laws.specs.CoordPlans.{CoordPlan}
use Rattle.host_laws.specs.Plans.{SitePlan}
use Rattle.fed_hosts.specs.declared.ports.Port.{Port}
use Rattle.federation_run.specs.declared.wired.WiredSite.{WiredSite}

-- how often the disk of this number failed
abbrev pub count_at : List ℕ → ℕ → ℕ
count_at counts number = slice_index_or counts number 0

-- the scripted stops of an actor, in their order
abbrev pub stops_in : Scenario → ℕ → List StopLine
stops_in scenario actor = those (stops_actor actor) scenario.stops

-- the site of this number without rows
abbrev pub bare_home : SiteId → Home
bare_home site = record { site = site; engine = Locking; protocol = Nothing; items = [] }

-- what is settled of a declared site
abbrev pub site_plan : Scenario → List ℕ → SiteId → SitePlan
site_plan scenario counts site =
    record { home = or_else (home_of scenario site) (bare_home site); programs = own_programs site scenario.transactions; stops = stops_in scenario site.0; faults = count_at counts site.0 }

-- of each declared site, by rising number
abbrev pub site_plans : Scenario → List ℕ → List SitePlan
site_plans scenario counts = map (site_plan scenario counts) (sites scenario)

-- and of the coordinator
abbrev pub coord_plan : Scenario → List ℕ → CoordPlan
coord_plan scenario counts = record { terms = terms_of scenario; programs = global_program scenario; stops = stops_in scenario 0; faults = count_at counts 0 }

-- what two lists have at each place, one after the other
abbrev pub in_turn : {A B W : Type 0} → (A → W) → (B → W) → List A → List B → List W
in_turn f g [] ys = []
in_turn f g (x ∷ xs) [] = []
in_turn f g (x ∷ xs) (y ∷ ys) = f x ∷ g y ∷ in_turn f g xs ys

-- for each site the ring to it and then the one from it, as they were made
abbrev pub wires_of : List Port → List WiredSite → List Wire
wires_of ports wired_sites = in_turn (λ (port : Port). outlet_wire port.ends.outlet) (λ (wired : WiredSite). outlet_wire wired.ends.outlet) ports wired_sites
