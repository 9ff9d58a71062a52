-- Each of the nine disks that a session left is read.
use Rattle.std.proofs.Common.{◌≡◌, ℕ, zero, suc, ◌+◌, ◌≤◌, ◌<◌, false, Option, Some, None, List, [], ◌∷◌, length, map, reverse, refl, ◌∙◌, ap, arith}
use Rattle.std.specs.Prelude.{slice_get}
use Rattle.mdb_base.proofs.ForCallers.{length-map, slice_get-there}
use Rattle.fed_rules.specs.declared.commands.Command.{Command}
use Rattle.fed_rules.specs.declared.records.CoordRecord.{CoordRecord}
use Rattle.fed_rules.specs.declared.records.SiteRecord.{SiteRecord}
use Rattle.fed_rules.specs.declared.scenario.Scenario.{Scenario}
use Rattle.fed_rules.specs.CoordPast as Coordinator
use Rattle.fed_rules.specs.CoordRecords.{coord_frame}
use Rattle.fed_rules.specs.Scenarios.{home_of}
use Rattle.fed_rules.specs.SitePast as Site
use Rattle.fed_rules.specs.SiteRecords.{Home, site_frame}
use Rattle.fed_rules.specs.Story.{Story, coord_past, past_of, story_of}
use Rattle.journal_disk.specs.Disk.{Image, Seen}
use Rattle.frame_journal.specs.Journal.{Kept}
use Rattle.frame_journal.specs.Records.{Entry, as_written}
use Rattle.coord_journal.specs.Exact as coord_exact
use Rattle.coord_journal.specs.Frames as coord_frames
use Rattle.coord_journal.specs.Spelling as Coordinators
use Rattle.site_journal.specs.Exact as site_exact
use Rattle.site_journal.specs.Frames as site_frames
use Rattle.site_journal.specs.Spelling as Sites
use Rattle.found_disks.specs.Reading.{AreReadFrom, IsReadAt, IsReadFirst, images_of}
use Rattle.held_disks.specs.Holding.{HoldsAt}
use Rattle.left_disks.specs.Left.{AreReadable, IsLeft}
use Rattle.left_disks.proofs.LeftJournals.{holds}
use Rattle.left_disks.proofs.OneDisk.{all_those, none_there, whole_there}

-- a journal with these entries
abbrev with_entries : {R : Type 0} → List (Entry R) → Kept R
with_entries entries = record { entries = entries; is_torn = false; places = 0; room = 0 }

module _ (disks : List Seen) (scenario : Scenario) (commands : List Command) (l : IsLeft disks scenario commands) where
  abbrev story : Story
  story = story_of scenario commands

  abbrev images : List Image
  images = images_of disks

  many : length images ≡ 9
  many = length-map (λ (disk : Seen). disk.image) disks ∙ l.nine

  first_read : (kept : Kept CoordRecord) × IsReadFirst images kept
  first_read = by_image (slice_get-there images 0 (omega (arith, many)))
    where
      by_image : (image : Image) × (slice_get images 0 ≡ Some image) → (kept : Kept CoordRecord) × IsReadFirst images kept
      by_image (image, own) =
          let held = holds disks scenario commands l 0 image own in
          let rules = Coordinator.disk (coord_past story) in (
            with_entries (map as_written (reverse (Coordinator.journal (coord_past story)))),
            record {
              image = image;
              own = own;
              holds = record {
                whole = whole_there Coordinators.spelling Coordinators.reading Coordinators.IsRecord coord_frame coord_frames.frame_has_size coord_exact.spelled_is_read image rules held;
                are_records = all_those Coordinators.spelling Coordinators.reading Coordinators.IsRecord coord_frame coord_frames.frame_has_size coord_exact.spelled_is_read image rules held;
              };
            },
          )

  site_read : (number : ℕ) → 1 ≤ number → number < 9 → (kept : Kept SiteRecord) × IsReadAt number images kept
  site_read zero some few = absurd (omega (arith, some))
  site_read (suc number) some few = by_image (slice_get-there images (suc number) (omega (arith, many, few)))
    where
      by_image : (image : Image) × (slice_get images (suc number) ≡ Some image) → (kept : Kept SiteRecord) × IsReadAt (suc number) images kept
      by_image (image, own) = by_home (home_of scenario (record { 0 = suc number })) (holds disks scenario commands l (suc number) image own)
        where
          by_home : (o : Option Home) → HoldsAt image o story → (kept : Kept SiteRecord) × IsReadAt (suc number) images kept
          by_home None none = (
            with_entries [],
            record {
              image = image;
              own = own;
              holds = record {
                whole = none_there Sites.spelling Sites.reading Sites.IsRecord site_frame site_frames.frame_has_size site_exact.spelled_is_read image.bytes none;
                are_records = tt;
              };
            },
          )
          by_home (Some home) held =
              let rules = Site.disk home (past_of home.site story) in (
                with_entries (map as_written (reverse (Site.journal home (past_of home.site story)))),
                record {
                  image = image;
                  own = own;
                  holds = record {
                    whole = whole_there Sites.spelling Sites.reading Sites.IsRecord site_frame site_frames.frame_has_size site_exact.spelled_is_read image rules held;
                    are_records = all_those Sites.spelling Sites.reading Sites.IsRecord site_frame site_frames.frame_has_size site_exact.spelled_is_read image rules held;
                  };
                },
              )

  -- so many from this number on
  sites_read : (count number : ℕ) → 1 ≤ number → number + count ≤ 9 → (sites : List (Kept SiteRecord)) × AreReadFrom number images sites × (length sites ≡ count)
  sites_read zero number some few = ([], tt, refl)
  sites_read (suc count) number some few =
      let (kept, read) = site_read number some (omega (arith, few)) in
      let (more, are, all) = sites_read count (number + 1) (omega arith) (omega (arith, few)) in
      (kept ∷ more, (read, are), ap suc all)

  pub readable : AreReadable images
  readable =
      let (coordinator, first) = first_read in
      let (sites, are, all) = sites_read 8 1 (omega arith) (omega arith) in
      record { coordinator = coordinator; first = first; sites = sites; others = are; all = all }
