-- What is on the disk of an actor's store: the bytes of the rules, of records of the format.
use Rattle.std.proofs.Common.{◌≡◌, ℕ, Bool, false, Option, Some, List, length, reverse, ap, subst, arith}
use Rattle.fed_rules.specs.CoordPast as Coordinator
use Rattle.fed_rules.specs.CoordPast.{CoordPast}
use Rattle.fed_rules.specs.CoordRecords.{coord_frame}
use Rattle.fed_rules.specs.Disk.{Disk, journal}
use Rattle.fed_rules.specs.Happenings.{Trip}
use Rattle.fed_rules.specs.Policies.{Policy}
use Rattle.fed_rules.specs.Runs.{EngineLine, Start}
use Rattle.fed_rules.specs.SitePast as Site
use Rattle.fed_rules.specs.SitePast.{SitePast}
use Rattle.fed_rules.specs.SiteRecords.{Home, site_frame}
use Rattle.fed_rules.specs.Terms.{Terms}
use Rattle.journal_disk.specs.Disk.{Seen}
use Rattle.frame_journal.specs.Records.{AreRecordsOf}
use Rattle.journal_rules.specs.Stands.{CountsFrames, record_frame}
use Rattle.journal_rules.proofs.ForCallers.{all_standing, journal_stands}
use Rattle.actor_store.specs.Store.{Keeps, Stored, stored, taken_as}
use Rattle.actor_store.proofs.ForCallers.{all_written, sizes, taken_bytes, torn_bytes}
use Rattle.coord_journal.specs.Exact as coord_exact
use Rattle.coord_journal.specs.Frames as coord_frames
use Rattle.coord_journal.specs.Spelling as of_coordinator
use Rattle.site_journal.specs.Exact as site_exact
use Rattle.site_journal.specs.Frames as site_frames
use Rattle.site_journal.specs.Spelling as of_site
use Rattle.coord_core.specs.declared.coord.CoordCore.{CoordCore}
use Rattle.coord_core.specs.Found.{was_found as coord_was_found}
use Rattle.coord_core.specs.Stands.{Stands as CoordStands}
use Rattle.site_core.specs.declared.site.SiteCore.{SiteCore}
use Rattle.site_core.specs.Made.{was_found as site_was_found}
use Rattle.site_core.specs.Stands.{Stands as SiteStands}
use Rattle.held_disks.specs.Holding.{CoordHolds, HoldsRecords, SiteHolds}

module _ {R : Type 0} (spelling : R → List ℕ) (reading : List ℕ → Option R) (is_record : R → Type 0) (frame_bytes : R → ℕ) (counts : CountsFrames spelling frame_bytes) (again : (entry : R) → is_record entry → reading (spelling entry) ≡ Some entry) where
  -- the bytes on a store's disk are those of the rules, and each record is one of the format
  holds_records : (tells : Bool) (seen : Seen) (store : Stored R) (rules : Disk R) (trip : Option Trip) → Keeps spelling is_record frame_bytes tells seen store rules trip
      → HoldsRecords spelling is_record frame_bytes seen.image rules
  holds_records tells seen store rules trip k =
      let same = taken_bytes store.standing seen.image in
      let all = sizes spelling reading is_record frame_bytes counts again (taken_as store.standing seen.image) rules k.stands in
      record {
        bytes = record {
          records = subst (λ (bytes : List ℕ). AreRecordsOf (record_frame spelling) bytes (reverse (journal frame_bytes rules))) same
              (journal_stands spelling frame_bytes counts (taken_as store.standing seen.image) rules k.stands);
          bytes = omega (arith, all.0, ap length same);
          torn = torn_bytes spelling reading is_record frame_bytes counts again store.standing seen.image rules k.torn;
        };
        format = all_standing is_record frame_bytes rules.trimmed rules.records k.written;
      }

-- of a coordinator that stands for its past
pub coord_holds : {P : Type 0} (test : P → Policy) (tells : Bool) (core : CoordCore P) (disk : Seen) (terms : Terms) (past : CoordPast) → coord_was_found past ≡ false
    → CoordStands test tells core disk terms past → CoordHolds disk.image past
coord_holds test tells core disk terms past new s =
    holds_records of_coordinator.spelling of_coordinator.reading of_coordinator.IsRecord coord_frame coord_frames.frame_has_size coord_exact.spelled_is_read
    tells disk (stored core.store) (Coordinator.disk past) (Coordinator.trip past) (all_written new s.stored)

-- and of a site
pub site_holds : {E : Type 0} (stands : E → Start → List EngineLine → Type 0) (tells : Bool) (core : SiteCore E) (disk : Seen) (home : Home) (past : SitePast) → site_was_found past ≡ false
    → SiteStands stands tells core disk home past → SiteHolds disk.image home past
site_holds stands tells core disk home past new s =
    holds_records of_site.spelling of_site.reading of_site.IsRecord site_frame site_frames.frame_has_size site_exact.spelled_is_read
    tells disk (stored core.store) (Site.disk home past) (Site.trip past) (all_written new s.stored)
