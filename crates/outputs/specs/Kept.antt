-- Which records the nine disks of a session hold, whatever it began with: disk 0 is the coordinator's, and disk s that of site s.
use Rattle.std.specs.Prelude.{ℕ, zero, suc, ◌≡◌, Bool, false, Option, Some, None, List, [], reverse, slice_get}
use Rattle.std.specs.List.{AllByRecursion}
use Rattle.fed_rules.specs.declared.scenario.Scenario.{Scenario}
use Rattle.fed_rules.specs.CoordPast as Coordinator
use Rattle.fed_rules.specs.CoordPast.{CoordPast}
use Rattle.fed_rules.specs.Happenings.{is_down}
use Rattle.fed_rules.specs.Scenarios.{home_of}
use Rattle.fed_rules.specs.SitePast as Site
use Rattle.fed_rules.specs.SitePast.{SitePast}
use Rattle.fed_rules.specs.SiteRecords.{Home}
use Rattle.fed_rules.specs.Story.{Story, coord_past, past_of}
use Rattle.journal_disk.specs.Disk.{Image, Seen}
use Rattle.journal_disk.specs.Frames.{AreWhole}
use Rattle.frame_journal.specs.Records.{AreRecordsOf, Entry, entry_frame, spelled, values}
use Rattle.coord_journal.specs.Spelling as of_coordinator
use Rattle.site_journal.specs.Spelling as of_site

-- ---- on one disk

-- the bytes are the frames of these records, the oldest first, each in either version; where a stop tore the last one its rest stands behind them, and
-- while the actor is up nothing does. Each record is one of the format
pub record KeepsRecords {R : Type 0} (spelling : R → List ℕ) (is_record : R → Type 0) (down : Bool) (bytes : List ℕ) (records : List R) : Type 0 where
  pub entries : List (Entry R)
  pub are : values entries ≡ records
  pub frames : AreRecordsOf (entry_frame spelling) bytes entries
  pub alone : down ≡ false → bytes ≡ spelled (entry_frame spelling) entries
  pub format : AllByRecursion is_record records

-- the coordinator's disk has those that it keeps
abbrev pub CoordKeeps : Image → CoordPast → Type 0
CoordKeeps image past = KeepsRecords of_coordinator.spelling of_coordinator.IsRecord (is_down past) image.bytes (reverse (Coordinator.journal past))

-- and a site's those that the site keeps
abbrev pub SiteKeeps : Image → Home → SitePast → Type 0
SiteKeeps image home past = KeepsRecords of_site.spelling of_site.IsRecord (is_down past) image.bytes (reverse (Site.journal home past))

-- that of an undeclared one has no whole frame
abbrev pub KeepsAt : Image → Option Home → Story → Type 0
KeepsAt image None story = AreWhole image.bytes []
KeepsAt image (Some home) story = SiteKeeps image home (past_of home.site story)

-- so it is of the disk of this number
abbrev pub Keeps : Image → Scenario → Story → ℕ → Type 0
Keeps image plan story zero = CoordKeeps image (coord_past story)
Keeps image plan story (suc n) = KeepsAt image (home_of plan (record { 0 = suc n })) story

-- ---- on all of them

-- each disk has the records that its actor keeps
abbrev pub KeepAll : List Seen → Scenario → Story → Type 0
KeepAll disks plan story = (number : ℕ) (disk : Seen) → slice_get disks number ≡ Some disk → Keeps disk.image plan story number

-- and so has each but this one
abbrev pub KeepOthers : ℕ → List Seen → Scenario → Story → Type 0
KeepOthers broken disks plan story = (number : ℕ) (disk : Seen) → slice_get disks number ≡ Some disk → (number ≡ broken → ⊥) → Keeps disk.image plan story number
