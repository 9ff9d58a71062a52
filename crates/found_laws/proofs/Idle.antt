-- A scenario without transactions, as the plan of a session is that goes on from disks: nothing begins in it.
use Rattle.std.proofs.Common.{◌≡◌, Some, None, refl, sym, ◌∙◌}
use Rattle.mdb_base.specs.declared.names.Tx.{Tx}
use Rattle.fed_rules.specs.declared.events.CoordEvent.{CoordEvent}
use Rattle.fed_rules.specs.declared.events.CoordEvent.TheVariants as Coord_event
use Rattle.fed_rules.specs.declared.scenario.Scenario.{Scenario}
use Rattle.fed_rules.specs.Found.{Found}
use Rattle.fed_rules.specs.Resumed.{plan_of}
use Rattle.fed_rules.specs.Scenarios.{global_program, local_home}
use Rattle.fed_rules.specs.SiteRecords.{Home}
use Rattle.fed_rules.specs.Story.{Story}
use Rattle.fed_rules.proofs.ForCallers.{BeginsNothing}
use Rattle.commit_laws.proofs.ForCallers.{CoordCame}

-- a scenario without transactions
pub record IsIdle (scenario : Scenario) : Type 0 where
  pub locals : (tx : Tx) → local_home scenario tx ≡ None
  pub globals : (tx : Tx) → global_program scenario tx ≡ None

pub idle : (found : Found) → IsIdle (plan_of found)
idle found = record { locals = λ tx. refl; globals = λ tx. refl }

pub local_never : {A : Type 0} (scenario : Scenario) (tx : Tx) (home : Home) → IsIdle scenario → local_home scenario tx ≡ Some home → A
local_never scenario tx home idle e = let clash : Some home ≡ None = sym e ∙ idle.locals tx in cc

-- the event of the coordinator
pub begins_nothing : (scenario : Scenario) (story : Story) (event : CoordEvent) → IsIdle scenario → CoordCame scenario story event → BeginsNothing event
begins_nothing scenario story (Coord_event.Go t steps) idle came = let clash : Some steps ≡ None = sym came.1 ∙ idle.globals t.tx in cc
begins_nothing scenario story (Coord_event.Take site message) idle came = tt
begins_nothing scenario story (Coord_event.Again t) idle came = tt
begins_nothing scenario story (Coord_event.Late t) idle came = tt
begins_nothing scenario story (Coord_event.Fate tx) idle came = tt
begins_nothing scenario story (Coord_event.Halt cut) idle came = tt
begins_nothing scenario story (Coord_event.Trip calls cut) idle came = tt
begins_nothing scenario story Coord_event.Back idle came = tt
begins_nothing scenario story Coord_event.Check idle came = tt
