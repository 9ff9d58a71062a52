-- The world of a run, from what its hosts left.
use Rattle.std.proofs.Common.{◌≡◌, ℕ, inl, inr, Bool, Option, Some, None, List, refl, ◌∙◌, subst}
use Rattle.fed_rules.specs.declared.commands.Command.{Command}
use Rattle.fed_rules.specs.declared.commands.Line.{Line}
use Rattle.fed_rules.specs.declared.scenario.Scenario.{Scenario}
use Rattle.fed_rules.specs.Plans.{IsScenario}
use Rattle.journal_disk.specs.Disk.{Seen}
use Rattle.session_report.specs.declared.session.Channel.{Channel}
use Rattle.fed_world.specs.declared.cores.Cores.{Cores}
use Rattle.fed_world.specs.declared.world.World.{World}
use Rattle.fed_world.specs.Gathering.{Gathers, GathersAt, GathersOn}
use Rattle.fed_world.specs.FreshWorlds.{Stands}
use Rattle.fed_world.specs.Worlds.{AnyStory, DbmsStands, EachStory, ManagerStands, SomeStory}
use Rattle.host_laws.specs.Merged.{MergedLinesAreRight, MessagesAreCarried, commands_of, lines_in}
use Rattle.host_laws.specs.Stops.{StopsAreArmed}
use Rattle.federation_run.specs.declared.lefts.Left.{Left}
use Rattle.federation_run.specs.declared.sorting.Sorted.{Sorted}
use Rattle.federation_run.specs.Lefts.{IsLeft}
use Rattle.federation_run.specs.Running.{HasBroken, HasRun}
use Rattle.federation_run.specs.Settling.{AreMerged, IsSurveyed, cores_of}
use Rattle.federation_run.specs.Sorting.{AreSorted, IsFirstFailed}
use Rattle.federation_run.proofs.Logged.{coord_log, logs}
use Rattle.federation_run.proofs.Ran.{all_calm, coordinator_broken, gathers_on, have_run, site_broken}

-- actors that stand for their pasts with their disks have them in memory
gathers_recall : (tells : Bool) (disks : List Seen) (cores : Cores) (lines : List Line) (channels : List Channel) (scenario : Scenario) (commands : List Command)
    → GathersAt (ManagerStands tells disks) (DbmsStands tells disks) cores lines channels scenario commands → Gathers cores lines channels scenario commands
gathers_recall tells disks cores lines channels scenario commands g = record {
  scenario_is = g.scenario_is;
  told = g.told;
  coordinator = record { core = g.coordinator.holds.core.holds; owns = g.coordinator.holds.owns };
  all_cores = g.all_cores;
  all_marks = g.all_marks;
  all_channels = g.all_channels;
  each = λ place site dbms own channel there at marks_at channel_at. (let i = g.each place site dbms own channel there at marks_at channel_at in record {
    home = i.home;
    is = i.is;
    declared = i.declared;
    recalls = record { core = i.recalls.holds.core.holds; owns = i.recalls.holds.owns };
    marked = i.marked;
    kept = i.kept;
    messages = i.messages;
  });
}

module _ (right : MergedLinesAreRight) (carries : MessagesAreCarried) (arms : StopsAreArmed) (tells : Bool) (counts : List ℕ) (disks : List Seen) (scenario : Scenario) (whole : IsScenario scenario) (left : Left)
    (l : IsLeft tells counts disks scenario left) (failed : Option ℕ) (survey : IsSurveyed scenario left failed) (sorted : Sorted)
    (s : AreSorted left.coordinator.lines left.sites.items left.coordinator.ports.items sorted) (lines : List Line) (m : AreMerged sorted.lists.items lines) where
  first_is : (o : Option ℕ) → failed ≡ o → IsFirstFailed left.coordinator left.sites.items o
  first_is o is = subst (λ (p : Option ℕ). IsFirstFailed left.coordinator left.sites.items p) is survey.first

  module _ (none : failed ≡ None) where
    gathers : GathersOn tells disks (cores_of scenario left.coordinator.manager sorted) lines sorted.channels.items scenario (commands_of (lines_in m.merged))
    gathers = gathers_on right carries arms tells counts disks scenario whole left l survey.placed survey.fits sorted s m.merged m.traced (first_is None none) (cores_of scenario left.coordinator.manager sorted) refl sorted.channels.items refl lines m.lines_are

    -- what is left may be gathered
    pub may_gather : SomeStory (Gathers (cores_of scenario left.coordinator.manager sorted) lines sorted.channels.items) AnyStory
    may_gather = record {
      session = scenario;
      commands = commands_of (lines_in m.merged);
      stood = gathers_recall tells disks (cores_of scenario left.coordinator.manager sorted) lines sorted.channels.items scenario (commands_of (lines_in m.merged)) gathers.parts;
      holds = tt;
    }

    -- and is that of a world
    pub has_run : (world : World) → world.lines.items ≡ lines
        → EachStory (GathersOn tells disks (cores_of scenario left.coordinator.manager sorted) lines sorted.channels.items) (Stands tells world disks) → HasRun tells counts disks scenario world
    has_run world kept stands = record {
      coordinator = coord_log tells counts disks scenario whole left l survey.placed survey.fits;
      logs = logs tells counts disks scenario whole left l survey.placed survey.fits;
      lists = sorted.lists.items;
      merged = m.merged;
      run = have_run right carries arms tells counts disks scenario whole left l survey.placed survey.fits sorted s m.merged m.traced;
      lines_are = kept ∙ m.lines_are;
      stands = stands scenario (commands_of (lines_in m.merged)) gathers;
      calm = all_calm right carries arms tells counts disks scenario whole left l survey.placed survey.fits sorted s m.merged m.traced (first_is None none);
    }

  -- the first actor whose host failed
  pub has_broken : (number : ℕ) → failed ≡ Some number → HasBroken counts disks scenario number lines
  has_broken number is = by_actor (first_is (Some number) is)
    where
      by_actor : IsFirstFailed left.coordinator left.sites.items (Some number) → HasBroken counts disks scenario number lines
      by_actor (inl first) =
          coordinator_broken right carries arms tells counts disks scenario whole left l survey.placed survey.fits sorted s m.merged m.traced number lines m.lines_are first.0 first.1
      by_actor (inr at) = site_broken right carries arms tells counts disks scenario whole left l survey.placed survey.fits sorted s m.merged m.traced number lines m.lines_are at
