-- What becomes of what the hosts of a run left, on the way to its world.
use Rattle.std.specs.Prelude.{ℕ, ◌≡◌, Option, List}
use Rattle.fed_rules.specs.declared.commands.Line.{Line}
use Rattle.fed_rules.specs.declared.commands.Stamped.{Stamped}
use Rattle.fed_rules.specs.declared.scenario.Scenario.{Scenario}
use Rattle.fed_rules.specs.Scenarios.{sites}
use Rattle.conservative_take.specs.declared.any_policy.AnyPolicy.{AnyPolicy}
use Rattle.global_manager.specs.declared.manager.GlobalManager.{GlobalManager}
use Rattle.trace_merge.specs.Traces.{IsTrace}
use Rattle.fed_world.specs.declared.cores.Cores.{Cores}
use Rattle.host_laws.specs.Merged.{lines_in}
use Rattle.federation_run.specs.declared.lefts.Left.{Left}
use Rattle.federation_run.specs.declared.sorting.Sorted.{Sorted}
use Rattle.federation_run.specs.Lefts.{ArePlaced}
use Rattle.federation_run.specs.Sorting.{AllFit, IsFirstFailed}

-- what is left is that of the sites of the scenario, each with its own disk, and this is the first actor whose host failed, where one did
pub record IsSurveyed (scenario : Scenario) (left : Left) (failed : Option ℕ) : Type 0 where
  pub placed : ArePlaced (sites scenario) left.sites.items
  pub fits : AllFit left.sites.items left.coordinator.ports.items
  pub first : IsFirstFailed left.coordinator left.sites.items failed

-- the lines of these lists by their stamps, without them
pub record AreMerged (lists : List (List Stamped)) (lines : List Line) : Type 0 where
  pub merged : List Stamped
  pub traced : IsTrace lists merged
  pub lines_are : lines ≡ lines_in merged

-- the actors of a world: the coordinator, and what is sorted of the sites
abbrev pub cores_of : Scenario → GlobalManager AnyPolicy → Sorted → Cores
cores_of scenario manager sorted = record { scenario = scenario; coordinator = manager; sites = record { items = sorted.cores }; marks = sorted.marks }
