-- The hosts of the tests: of a locking site without rows, and of a coordinator of two sites.
use Rattle.std.specs.Prelude.{ℕ, ◌≡◌, List, [], ◌∷◌}
use Rattle.mdb_base.specs.declared.names.Engine.TheVariants as Kind
use Rattle.mdb_base.specs.declared.names.SiteId.{SiteId}
use Rattle.presumptions.specs.declared.Participant.{Participant}
use Rattle.presumptions.specs.declared.Protocol.TheVariants as By
use Rattle.fed_rules.specs.declared.scenario.StopLine.{StopLine}
use Rattle.fed_rules.specs.declared.scenario.TxLine.{TxLine}
use Rattle.fed_rules.specs.Policies.{always}
use Rattle.global_manager.specs.Stands as Globals
use Rattle.local_dbms.specs.Stands.{own_programs}
use Rattle.scripted_link.specs.declared.ring.Ends.{Ends}
use Rattle.scripted_link.specs.Inlets.{empty_count, inlet_ring, taken}
use Rattle.scripted_link.specs.Outlets.{offered, outlet_wire}
use Rattle.scripted_link.specs.Rings.{Wire}
use Rattle.host_laws.specs.CoordPlans.{CoordPlan}
use Rattle.host_laws.specs.Plans.{SitePlan}

abbrev pub first_site : SiteId
first_site = record { 0 = 1 }

abbrev pub second_site : SiteId
second_site = record { 0 = 2 }

-- the plan of the first site with these transactions and stops, on a disk of which so many calls have failed
abbrev pub plan_of : List TxLine → List StopLine → ℕ → SitePlan
plan_of transactions stops faults =
    record { home = record { site = first_site; engine = Kind.Locking; protocol = By.Nothing; items = [] }; programs = own_programs first_site transactions; stops = stops; faults = faults }

-- the sites of the coordinator: the first presumes commit, the second abort
abbrev pub two_sites : List Participant
two_sites = record { site = first_site; protocol = By.Commit } ∷ record { site = second_site; protocol = By.Abort } ∷ []

-- the plan of the coordinator
abbrev pub coord_plan_of : List TxLine → List StopLine → ℕ → CoordPlan
coord_plan_of transactions stops faults =
    record { terms = record { protocols = two_sites; policy = always }; programs = Globals.own_programs transactions; stops = stops; faults = faults }

-- a ring to which nothing was offered
pub record IsNewRing (ends : Ends) : Type 0 where
  pub pair : inlet_ring ends.inlet ≡ (outlet_wire ends.outlet).ring
  pub taken_none : taken ends.inlet ≡ []
  pub offered_none : offered ends.outlet ≡ []
  pub uncounted : empty_count ends.inlet ≡ 0

-- the two rings of a site, first the one to it
abbrev pub AreNew : Ends × Ends → Type 0
AreNew rings = IsNewRing rings.0 × IsNewRing rings.1

abbrev pub wires_of : Ends × Ends → List Wire
wires_of rings = outlet_wire rings.0.outlet ∷ outlet_wire rings.1.outlet ∷ []
