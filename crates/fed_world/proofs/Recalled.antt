-- What a world stands for with its disks it recalls without them.
use Rattle.std.proofs.Common.{Bool, List}
use Rattle.fed_rules.specs.declared.commands.Command.{Command}
use Rattle.fed_rules.specs.Scenarios.{global_program}
use Rattle.fed_rules.specs.SitePast.{SitePast}
use Rattle.fed_rules.specs.SiteRecords.{Home}
use Rattle.fed_rules.specs.Story.{Story, coord_past, story_in}
use Rattle.fed_rules.specs.Sessions.{Session}
use Rattle.journal_disk.specs.Disk.{Seen}
use Rattle.any_engine.specs.declared.engine.AnyEngine.{AnyEngine}
use Rattle.any_engine.specs.Stands as Engines
use Rattle.conservative_take.specs.AnyPolicies.{policy_is}
use Rattle.global_manager.proofs.ForCallers as Manager
use Rattle.local_dbms.specs.declared.dbms.LocalDbms.{LocalDbms}
use Rattle.local_dbms.specs.Stands.{OwnPrograms}
use Rattle.local_dbms.proofs.ForCallers as Dbms
use Rattle.session_report.specs.declared.marks.Marks.{Marks}
use Rattle.session_routes.specs.declared.traffic.Traffic.{Traffic}
use Rattle.fed_world.specs.Seats.{OfDbms, SitesAt}
use Rattle.fed_world.specs.declared.world.World.{World}
use Rattle.fed_world.specs.Asks.{terms_of}
use Rattle.fed_world.specs.Worlds.{DbmsRecalls, DbmsStands, Recalls, Stands}

-- what holds of each site in its seat holds of it in weaker words
pub sites_weaker : (K L : OfDbms) → ((dbms : LocalDbms AnyEngine) (home : Home) (programs : OwnPrograms) (past : SitePast) → K dbms home programs past → L dbms home programs past)
    → (cores : List (LocalDbms AnyEngine)) (marks : List Marks) (channels : List Traffic) (session : Session) (story : Story)
    → SitesAt K cores marks channels session story → SitesAt L cores marks channels session story
sites_weaker K L weaker cores marks channels session story s = record {
  all_cores = s.all_cores;
  all_marks = s.all_marks;
  all_channels = s.all_channels;
  each = λ place site dbms own traffic there a b c.
      let at = s.each place site dbms own traffic there a b c in
      record {
        home = at.home;
        is = at.is;
        declared = at.declared;
        part = record { dbms = weaker dbms _ _ _ at.part.dbms; marked = at.part.marked; site = at.part.site; marks = at.part.marks; to = at.part.to; from = at.part.from };
      };
}

-- the world recalls what it stands for
pub recalls : (tells : Bool) (world : World) (disks : List Seen) (session : Session) (commands : List Command) → Stands tells world disks session commands → Recalls world session commands
recalls tells world disks session commands s =
    let actors = s.stand.actors in
    let story : Story = story_in session commands in
    record {
      has = s.has;
      routed = s.routed;
      actors = record {
        coordinator = Manager.recalled policy_is tells world.cores.coordinator actors.coordinator.disk (terms_of session.plan) (global_program session.plan) (coord_past story) actors.coordinator.holds;
        sites = sites_weaker (DbmsStands tells disks) DbmsRecalls
            (λ dbms home programs past at. Dbms.recalled Engines.Stands tells dbms at.disk home programs past at.holds)
            world.cores.sites.items.items world.cores.marks.items world.traffic.items session story actors.sites;
      };
    }
