-- All rules of a usable disk together.
use Rattle.std.proofs.Common.{◌≡◌, ℕ, Option, Some, None, refl, subst}
use Rattle.mdb_base.specs.declared.names.SiteId.{SiteId}
use Rattle.mdb_base.proofs.ForCallers.{each_of_found, some_parts}
use Rattle.fed_rules.specs.declared.records.CoordRecord.{CoordRecord}
use Rattle.fed_rules.specs.declared.records.SiteRecord.{SiteRecord}
use Rattle.fed_rules.specs.Found.{Journal}
use Rattle.fed_rules.specs.Resumed.{left_at, left_by}
use Rattle.fed_rules.specs.Scenarios.{home_of, protocols, sites}
use Rattle.fed_rules.specs.SiteRecords.{Home}
use Rattle.fed_rules.specs.CoordPast as Coordinator
use Rattle.fed_rules.specs.Story.{coord_past, story_of}
use Rattle.fed_rules.specs.Usable.{AreUnnamed, IsUsableCoordinator, IsUsableSite}
use Rattle.disk_laws.specs.Left.{DisksAreUsable, CoordinatorsAreUsable, OfShortCoordinators, OfShortGoodSites, SitesAreUsable}
use Rattle.disk_laws.proofs.Apart.{locals_not_named}
use Rattle.disk_laws.proofs.CoordBounds.{leave_coord_below}
use Rattle.disk_laws.proofs.CoordLeft.{leave_declared, leave_no_cycle, leave_one_commit, leave_order}
use Rattle.disk_laws.proofs.CoordLists.{leave_coord_sums, leave_open}
use Rattle.disk_laws.proofs.SiteBounds.{leave_below}
use Rattle.disk_laws.proofs.SiteDrawers.{leave_different}
use Rattle.disk_laws.proofs.SiteFits.{leave_site_sums}
use Rattle.disk_laws.proofs.SiteLeft.{leave_doubts, leave_first, leave_locals, leave_sums}
use Rattle.disk_laws.proofs.SiteLists.{leave_lists}
use Rattle.disk_laws.proofs.SiteOnce.{leave_once, leave_parted}
use Rattle.disk_laws.proofs.SiteTickets.{leave_tickets}
use Rattle.disk_laws.proofs.SiteWritten.{leave_epochs, leave_setup}

pub usable_coordinators : OfShortCoordinators CoordinatorsAreUsable
usable_coordinators scenario good commands short = record {
  below = leave_coord_below scenario good commands short;
  sums = leave_coord_sums scenario commands;
  order = leave_order scenario commands;
  once = leave_one_commit scenario commands;
  sums_of_open = leave_open scenario commands;
  sites = leave_declared scenario commands;
  cycle_free = leave_no_cycle scenario commands;
}

pub usable_sites : OfShortGoodSites SitesAreUsable
usable_sites scenario good commands short site home declared = record {
  below = leave_below scenario commands short site home declared;
  within = leave_sums scenario commands site home declared;
  first = leave_first scenario commands site home declared;
  set_up = leave_setup scenario commands site home declared;
  sums = leave_site_sums scenario commands site home declared;
  epochs = leave_epochs scenario commands site home declared;
  once = leave_once scenario good commands site home declared;
  numbers_differ = leave_different scenario commands site home declared;
  tickets_rise = leave_tickets scenario commands site home declared;
  parted = leave_parted scenario commands site home declared;
  doubts_apart = (leave_doubts scenario commands site home declared).0;
  clear = (leave_doubts scenario commands site home declared).1;
  on_top = leave_locals scenario commands site home declared;
  sums_of_some = leave_lists scenario commands site home declared;
}

pub usable_disks : DisksAreUsable
usable_disks scenario good commands short = record {
  coordinator = λ journal e. subst (λ (j : Journal CoordRecord). IsUsableCoordinator (protocols scenario) j.records) (some_parts e) (usable_coordinators scenario good commands short);
  sites = each_of_found (λ (journal : Journal SiteRecord). (number : ℕ) × IsUsableSite number journal.records) (λ site. left_at (story_of scenario commands) (home_of scenario site)) (sites scenario)
      (λ site journal e. by_home site journal (home_of scenario site) refl e);
  unnamed = λ coordinator c.
      each_of_found (λ (journal : Journal SiteRecord). AreUnnamed coordinator.records journal.records) (λ site. left_at (story_of scenario commands) (home_of scenario site))
      (sites scenario) (λ site journal e. by_names coordinator c site journal (home_of scenario site) refl e);
}
  where
    by_home : (site : SiteId) (journal : Journal SiteRecord) (o : Option Home) → home_of scenario site ≡ o → left_at (story_of scenario commands) o ≡ Some journal
        → (number : ℕ) × IsUsableSite number journal.records
    by_home site journal None declared e = cc
    by_home site journal (Some home) declared e =
        (home.site.0, subst (λ (j : Journal SiteRecord). IsUsableSite home.site.0 j.records) (some_parts e) (usable_sites scenario good commands short site home declared))

    by_names : (coordinator : Journal CoordRecord) → (left_by scenario (story_of scenario commands)).coordinator ≡ Some coordinator → (site : SiteId) (journal : Journal SiteRecord)
        (o : Option Home) → home_of scenario site ≡ o → left_at (story_of scenario commands) o ≡ Some journal → AreUnnamed coordinator.records journal.records
    by_names coordinator c site journal None declared e = cc
    by_names coordinator c site journal (Some home) declared e =
        subst (λ (k : Journal CoordRecord). AreUnnamed k.records journal.records) (some_parts c)
        (subst (λ (j : Journal SiteRecord). AreUnnamed (Coordinator.journal (coord_past (story_of scenario commands))) j.records) (some_parts e)
        (locals_not_named scenario commands site home declared))
