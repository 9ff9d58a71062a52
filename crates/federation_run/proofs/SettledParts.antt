-- The steps on the way from what the hosts left to the world of a run.
use Rattle.std.proofs.Common.{◌≡◌, ℕ, Bool, Option, List, sym, ap, subst}
use Rattle.std.specs.Prelude.{IfOk, Result}
use Rattle.std.specs.Global.{Vec}
use Rattle.mdb_base.specs.declared.names.SiteId.{SiteId}
use Rattle.fed_rules.specs.declared.commands.Line.{Line}
use Rattle.fed_rules.specs.declared.scenario.Scenario.{Scenario}
use Rattle.fed_rules.specs.Scenarios.{sites}
use Rattle.journal_disk.specs.Disk.{Seen}
use Rattle.any_engine.specs.declared.engine.AnyEngine.{AnyEngine}
use Rattle.conservative_take.specs.declared.any_policy.AnyPolicy.{AnyPolicy}
use Rattle.global_manager.specs.declared.manager.GlobalManager.{GlobalManager}
use Rattle.local_dbms.specs.declared.dbms.LocalDbms.{LocalDbms}
use Rattle.session_report.specs.declared.session.Channel.{Channel}
use Rattle.fed_world.specs.declared.cores.Cores.{Cores}
use Rattle.fed_world.specs.declared.cores.SiteCores.{SiteCores}
use Rattle.fed_world.specs.declared.world.World.{World}
use Rattle.fed_world.specs.Gathering.{Gathers, GathersOn}
use Rattle.fed_world.specs.FreshWorlds.{Stands}
use Rattle.fed_world.specs.Worlds.{AnyStory, EachStory, SomeStory}
use Rattle.fed_hosts.specs.declared.ports.Port.{Port}
use Rattle.federation_run.specs.declared.lefts.Left.{Left}
use Rattle.federation_run.specs.declared.lefts.SiteLeft.{SiteLeft}
use Rattle.federation_run.specs.declared.sorting.Sorted.{Sorted}
use Rattle.federation_run.specs.Lefts.{ArePlaced}
use Rattle.federation_run.specs.Settling.{IsSurveyed, cores_of}
use Rattle.federation_run.specs.Sorting.{AllFit, IsFirstFailed}

-- what was found of these slices is so of what is left
pub surveyed : (scenario : Scenario) (left : Left) (failed : Option ℕ) (named : List SiteId) (placed_ones fit_ones first_ones : List SiteLeft) (ports : List Port)
    → named ≡ sites scenario → placed_ones ≡ left.sites.items → ArePlaced named placed_ones → fit_ones ≡ left.sites.items → ports ≡ left.coordinator.ports.items → AllFit fit_ones ports
    → first_ones ≡ left.sites.items → IsFirstFailed left.coordinator first_ones failed → IsSurveyed scenario left failed
surveyed scenario left failed named placed_ones fit_ones first_ones ports named_are placed_are placed fit_are ports_are fits first_are first = record {
  placed = subst (λ (zs : List SiteId). ArePlaced zs left.sites.items) named_are (subst (λ (ls : List SiteLeft). ArePlaced named ls) placed_are placed);
  fits = subst (λ (ls : List SiteLeft). AllFit ls left.coordinator.ports.items) fit_are (subst (λ (ps : List Port). AllFit fit_ones ps) ports_are fits);
  first = subst (λ (ls : List SiteLeft). IsFirstFailed left.coordinator ls failed) first_are first;
}

module _ (scenario : Scenario) (manager : GlobalManager AnyPolicy) (sorted : Sorted) (lines : List Line) (seated : SiteCores) (seated_are : seated.items ≡ sorted.cores) (channels : List Channel) (channels_are : channels ≡ sorted.channels.items) where
  abbrev pub seated_cores : Cores
  seated_cores = record { scenario = scenario; coordinator = manager; sites = seated; marks = sorted.marks }

  same_cores : seated_cores ≡ cores_of scenario manager sorted
  same_cores = ap (λ (v : Vec (LocalDbms AnyEngine)). let k : Cores = record { scenario = scenario; coordinator = manager; sites = record { items = v }; marks = sorted.marks } in k) seated_are

  -- what is sorted may be gathered in its seats
  pub seated_gather : SomeStory (Gathers (cores_of scenario manager sorted) lines sorted.channels.items) AnyStory → SomeStory (Gathers seated_cores lines channels) AnyStory
  seated_gather some =
      subst (λ (k : Cores). SomeStory (Gathers k lines channels) AnyStory) (sym same_cores)
      (subst (λ (cs : List Channel). SomeStory (Gathers (cores_of scenario manager sorted) lines cs) AnyStory) (sym channels_are) some)

  -- and what stands for it there stands for it
  pub seated_stand : {E : Type 0} (result : Result World E) → IfOk result (λ world. (tells : Bool) (disks : List Seen) → EachStory (GathersOn tells disks seated_cores lines channels) (Stands tells world disks))
      → IfOk result (λ world. (tells : Bool) (disks : List Seen) → EachStory (GathersOn tells disks (cores_of scenario manager sorted) lines sorted.channels.items) (Stands tells world disks))
  seated_stand result stands =
      subst (λ (k : Cores). IfOk result (λ world. (tells : Bool) (disks : List Seen) → EachStory (GathersOn tells disks k lines sorted.channels.items) (Stands tells world disks))) same_cores
      (subst (λ (cs : List Channel). IfOk result (λ world. (tells : Bool) (disks : List Seen) → EachStory (GathersOn tells disks seated_cores lines cs) (Stands tells world disks))) channels_are stands)
