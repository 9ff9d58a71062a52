-- A world whose sites were just set up stands for no line.
use Rattle.std.proofs.Common.{◌≡◌, Bool, IsTrue, Option, Some, None, inl, List, [], length, map, reverse, slice_get, refl, sym, ◌∙◌, ap, subst, arith}
use Rattle.mdb_base.specs.declared.names.SiteId.{SiteId}
use Rattle.mdb_base.proofs.ForCallers.{slice_get-there}
use Rattle.order_laws.specs.Chains.{In}
use Rattle.order_laws.proofs.ForCallers.{each_at, slice_get-in}
use Rattle.record_fields.specs.Named.{IsSite}
use Rattle.fed_rules.specs.declared.commands.Line.{Line}
use Rattle.fed_rules.specs.declared.scenario.Scenario.{Scenario}
use Rattle.fed_rules.specs.Plans.{IsScenario}
use Rattle.fed_rules.specs.Found.{nothing}
use Rattle.fed_rules.specs.Sessions.{fresh}
use Rattle.fed_rules.specs.Scenarios.{home_of, sites}
use Rattle.fed_rules.specs.SiteRecords.{Home}
use Rattle.fed_rules.proofs.ForCallers.{its-site}
use Rattle.world_laws.proofs.ForCallers.{homeless}
use Rattle.journal_disk.specs.Disk.{IsSound, Seen}
use Rattle.any_engine.specs.declared.engine.AnyEngine.{AnyEngine}
use Rattle.conservative_take.specs.declared.any_policy.AnyPolicy.{AnyPolicy}
use Rattle.global_manager.specs.declared.manager.GlobalManager.{GlobalManager}
use Rattle.local_dbms.specs.declared.dbms.LocalDbms.{LocalDbms}
use Rattle.local_dbms.specs.Stands.{own_programs}
use Rattle.session_report.specs.declared.marks.Marks.{Marks}
use Rattle.session_report.specs.Marks.{kept_marks}
use Rattle.session_routes.specs.declared.traffic.Traffic.{Traffic}
use Rattle.std.specs.Global.{Vec}
use Rattle.mdb_base.specs.declared.names.Tid.{Tid}
use Rattle.fed_world.specs.Beginnings.{Remembers}
use Rattle.fed_world.specs.Lines.{IsRightIn}
use Rattle.fed_world.specs.Seats.{SiteAt}
use Rattle.fed_world.specs.declared.world.World.{World}
use Rattle.fed_world.specs.SettingUp.{AreSetUp, EmptyBut, IsNewManager, IsNewWorld}
use Rattle.fed_world.specs.Worlds.{ActorsStand, AreDisks, DbmsStands, HasLines, Stands}
use Rattle.fed_world.proofs.DeclaredSites.{declared_ranged, site_home}

-- a site that was set up has no marks
no_marks : (home : Home) → kept_marks home [] ≡ []
no_marks home = refl

-- the coordinator isn't a site
not_a_site : (scenario : Scenario) → IsScenario scenario → In (record { 0 = 0 }) (sites scenario) → ⊥
not_a_site scenario whole i = let range = each_at IsSite (record { 0 = 0 }) (sites scenario) (declared_ranged scenario whole) i in let least = range.least in omega (arith, least)

-- the bytes told of a disk are as many as it has, and at most all are synced
pub record TellsBytes (seen : Seen) : Type 0 where
  pub bytes : length seen.image.bytes ≡ seen.size
  pub sound : IsSound seen.image

-- no line yet
new_lines : (world : World) (scenario : Scenario) → world.cores.scenario ≡ scenario → world.begun ≡ None → world.lines.items ≡ [] → HasLines world (fresh scenario) []
new_lines world scenario same begun none = record {
  begins = inl refl;
  scenario_is = same;
  remembers = subst (λ (tids : Option (Vec Tid)). Remembers tids nothing) (sym begun) refl;
  commands_are = ap (λ (ls : List Line). map (λ (line : Line). line.command) (reverse ls)) none;
  right = subst (λ (ls : List Line). IsRightIn (fresh scenario) (reverse ls)) (sym none) tt;
}

-- the disks of undeclared sites are empty
new_disks : (disks : List Seen) (scenario : Scenario) → length disks ≡ 9 → EmptyBut (sites scenario) disks → AreDisks disks (fresh scenario)
new_disks disks scenario nine empty = record { nine = nine; others = λ site disk least none at. empty site.0 disk at (homeless scenario.sites scenario.items site none) }

-- a site with its new marks and channel
new_site : (tells : Bool) (disks : List Seen) (dbms : LocalDbms AnyEngine) (own : Marks) (traffic : Traffic) (scenario : Scenario) (site : SiteId) → In site (sites scenario)
    → ((home : Home) → home_of scenario site ≡ Some home → DbmsStands tells disks dbms home (own_programs site scenario.transactions) [])
    → (own.site ≡ site) × (own.kept.items ≡ []) → (traffic.site ≡ site) × (traffic.to.items ≡ []) × (traffic.from.items ≡ []) → SiteAt (DbmsStands tells disks) dbms own traffic (fresh scenario) site []
new_site tells disks dbms own traffic scenario site i stood marks channel =
    let (home, declared) = site_home scenario site i in
    let same : home.site ≡ site = its-site scenario site home declared in
    record {
      home = home;
      is = same;
      declared = declared;
      part = record {
        dbms = stood home declared;
        marked = marks.0 ∙ sym same;
        site = channel.0 ∙ sym same;
        marks = marks.1 ∙ sym (no_marks home);
        to = channel.1;
        from = channel.2;
      };
    }

-- the world of the sites that were set up, with the coordinator and its empty disk
pub new_stands : (tells : Bool) (world : World) (disks : List Seen) (scenario : Scenario) → IsScenario scenario → IsTrue tells → length disks ≡ 9 → ((seen : Seen) → slice_get disks 0 ≡ Some seen → TellsBytes seen)
    → (manager : GlobalManager AnyPolicy) (cores : List (LocalDbms AnyEngine)) → IsNewWorld world scenario manager cores None → IsNewManager manager scenario → AreSetUp tells cores disks scenario
    → Stands tells world disks (fresh scenario) []
new_stands tells world disks scenario whole told nine bytes manager cores w fresh_manager set_up = record {
  has = new_lines world scenario w.scenario_is w.begun w.lines;
  whole = w.whole;
  routed = w.routed;
  stand = stand;
}
  where
    begins : IsNewManager world.cores.coordinator scenario
    begins = subst (λ (m : GlobalManager AnyPolicy). IsNewManager m scenario) (sym w.coordinator_is) fresh_manager

    up : AreSetUp tells world.cores.sites.items.items disks scenario
    up = subst (λ (ds : List (LocalDbms AnyEngine)). AreSetUp tells ds disks scenario) (sym w.cores_are) set_up

    stand : ActorsStand tells world disks (fresh scenario) []
    stand =
        let (seen, own) = slice_get-there disks 0 (omega (arith, nine)) in
        let b = bytes seen own in
        record {
          actors = record {
            coordinator = record {
              disk = seen;
              own = own;
              holds = begins tells seen (record { told = told; empty = up.empty 0 seen own (not_a_site scenario whole); bytes = b.bytes; sound = b.sound });
            };
            sites = record {
              all_cores = up.count;
              all_marks = w.all_marks;
              all_channels = w.all_channels;
              each = λ place site dbms marked traffic at got kept sent.
                  new_site tells disks dbms marked traffic scenario site (slice_get-in (sites scenario) place site at)
                  (λ home declared. up.each place site home dbms at declared got) (w.marks place site marked at kept) (w.channels place site traffic at sent);
            };
          };
          few = record { to = λ site. omega arith; from = λ site. omega arith };
          others = new_disks disks scenario nine up.empty;
        }
