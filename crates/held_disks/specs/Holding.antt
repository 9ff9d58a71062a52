-- What the rules say is on the nine disks of a session: disk 0 is the coordinator's, and disk s that of site s.
use Rattle.std.specs.Prelude.{ℕ, zero, suc, ◌≡◌, Option, Some, None, List, [], slice_get}
use Rattle.std.specs.List.{AllByRecursion}
use Rattle.fed_rules.specs.declared.scenario.Scenario.{Scenario}
use Rattle.fed_rules.specs.CoordPast as Coordinator
use Rattle.fed_rules.specs.CoordPast.{CoordPast}
use Rattle.fed_rules.specs.CoordRecords.{coord_frame}
use Rattle.fed_rules.specs.Disk.{Disk, journal}
use Rattle.fed_rules.specs.Scenarios.{home_of}
use Rattle.fed_rules.specs.SitePast as Site
use Rattle.fed_rules.specs.SitePast.{SitePast}
use Rattle.fed_rules.specs.SiteRecords.{Home, site_frame}
use Rattle.fed_rules.specs.Story.{Story, coord_past, past_of}
use Rattle.journal_disk.specs.Disk.{Image, Seen}
use Rattle.actor_store.specs.Store as actor
use Rattle.coord_journal.specs.Spelling as of_coordinator
use Rattle.site_journal.specs.Spelling as of_site

-- the frames of the records that stand on this disk of the rules, synced or not, and where a stop tore one the first bytes of it behind
-- them; each record is one of the format
pub record HoldsRecords {R : Type 0} (spelling : R → List ℕ) (is_record : R → Type 0) (frame_bytes : R → ℕ) (image : Image) (rules : Disk R) : Type 0 where
  pub bytes : actor.HoldsBytes spelling is_record frame_bytes image rules
  pub format : AllByRecursion is_record (journal frame_bytes rules)

-- on the coordinator's
abbrev pub CoordHolds : Image → CoordPast → Type 0
CoordHolds image past = HoldsRecords of_coordinator.spelling of_coordinator.IsRecord coord_frame image (Coordinator.disk past)

-- on a site's
abbrev pub SiteHolds : Image → Home → SitePast → Type 0
SiteHolds image home past = HoldsRecords of_site.spelling of_site.IsRecord site_frame image (Site.disk home past)

-- nothing is on that of an undeclared one
abbrev pub HoldsAt : Image → Option Home → Story → Type 0
HoldsAt image None story = image.bytes ≡ []
HoldsAt image (Some home) story = SiteHolds image home (past_of home.site story)

-- on the disk of this number
abbrev pub Holds : Image → Scenario → Story → ℕ → Type 0
Holds image scenario story zero = CoordHolds image (coord_past story)
Holds image scenario story (suc n) = HoldsAt image (home_of scenario (record { 0 = suc n })) story

-- each disk holds what the rules say
abbrev pub HoldAll : List Seen → Scenario → Story → Type 0
HoldAll disks scenario story = (number : ℕ) (disk : Seen) → slice_get disks number ≡ Some disk → Holds disk.image scenario story number

-- and so does each but this one
abbrev pub HoldOthers : ℕ → List Seen → Scenario → Story → Type 0
HoldOthers broken disks scenario story =
    (number : ℕ) (disk : Seen) → slice_get disks number ≡ Some disk → (number ≡ broken → ⊥) → Holds disk.image scenario story number
