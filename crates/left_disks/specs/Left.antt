-- What a session leaves on its nine disks is what a session that goes on from them finds there.
use Rattle.std.specs.Prelude.{ℕ, ◌≡◌, ◌<◌, ◌^◌, None, Result, Ok, Err, List, length}
use Rattle.fed_rules.specs.declared.commands.Command.{Command}
use Rattle.fed_rules.specs.declared.records.CoordRecord.{CoordRecord}
use Rattle.fed_rules.specs.declared.records.SiteRecord.{SiteRecord}
use Rattle.fed_rules.specs.declared.scenario.Scenario.{Scenario}
use Rattle.fed_rules.specs.Found.{Found}
use Rattle.fed_rules.specs.GoingOn.{AllDown, GoesOnRightly}
use Rattle.fed_rules.specs.Plans.{IsScenario}
use Rattle.fed_rules.specs.Resumed.{left_by, plan_of, resumed}
use Rattle.fed_rules.specs.Story.{Story, story_of}
use Rattle.closing_laws.specs.AtRest.{IsAtRest}
use Rattle.journal_disk.specs.Disk.{Image, Seen}
use Rattle.frame_journal.specs.Journal.{Kept}
use Rattle.found_disks.specs.declared.errors.ReopenErr.{ReopenErr}
use Rattle.found_disks.specs.declared.errors.ReopenErr.TheVariants as Err_is
use Rattle.found_disks.specs.declared.reading.Journals.{Journals}
use Rattle.found_disks.specs.Finding.{FindsAs, NamesOf, found_in}
use Rattle.found_disks.specs.Reading.{AreRead, AreReadFrom, IsReadFirst, images_of}
use Rattle.held_disks.specs.Holding.{HoldAll}

-- a session that began with empty disks left these: it has few lines, all its actors are down, and each disk holds what the rules say
pub record IsLeft (disks : List Seen) (scenario : Scenario) (commands : List Command) : Type 0 where
  pub whole : IsScenario scenario
  pub few : length commands < 2 ^ 30
  pub down : AllDown scenario (story_of scenario commands)
  pub nine : length disks ≡ 9
  pub holds : HoldAll disks scenario (story_of scenario commands)

-- ---- no disk is refused

-- a journal is read from each of nine disks
pub record AreReadable (images : List Image) : Type 0 where
  pub coordinator : Kept CoordRecord
  pub first : IsReadFirst images coordinator
  pub sites : List (Kept SiteRecord)
  pub others : AreReadFrom 1 images sites
  pub all : length sites ≡ 8

-- each disk is read, so that none is damaged, and none is foreign
pub record NoneIsRefused (images : List Image) : Type 0 where
  pub readable : AreReadable images
  pub undamaged : (number at : ℕ) → FindsAs (Err (Err_is.Damaged number at)) images → ⊥
  pub usable : (number : ℕ) → FindsAs (Err (Err_is.Foreign number)) images → ⊥

abbrev pub LeftDisksAreAccepted : Type 0
LeftDisksAreAccepted =
    (disks : List Seen) (scenario : Scenario) (commands : List Command) → IsLeft disks scenario commands → NoneIsRefused (images_of disks)

-- ---- what is found is what was left

-- whatever journals are read, they are those that the session left: the records of each actor that stand on its disk, and the torn rest behind them
abbrev pub LeftDisksTellTheSession : Type 0
LeftDisksTellTheSession =
    (disks : List Seen) (scenario : Scenario) (commands : List Command) → IsLeft disks scenario commands → (journals : Journals)
    → AreRead (images_of disks) journals → found_in (images_of disks) journals ≡ left_by scenario (story_of scenario commands)

-- and each of them is usable
abbrev pub LeftDisksAreUsable : Type 0
LeftDisksAreUsable =
    (disks : List Seen) (scenario : Scenario) (commands : List Command) → IsLeft disks scenario commands → (journals : Journals)
    → AreRead (images_of disks) journals → NamesOf journals None

-- ---- the session goes on

-- this is found, and the session goes on rightly from it: what it left is what was found, its outcomes are those of the session that left it, each site
-- that settles an attempt says them, its tables are those of a serial run, and it is at rest at its end
pub record GoesOnFrom (found : Found) (scenario : Scenario) (left : Story) : Type 0 where
  pub is : found ≡ left_by scenario left
  pub rightly : GoesOnRightly scenario left
  pub rests : IsAtRest (plan_of found) (resumed found)

abbrev pub LeftDisksGoOn : Type 0
LeftDisksGoOn =
    (disks : List Seen) (scenario : Scenario) (commands : List Command) → IsLeft disks scenario commands → (journals : Journals)
    → AreRead (images_of disks) journals → GoesOnFrom (found_in (images_of disks) journals) scenario (story_of scenario commands)

-- what looking for journals on such disks answers: journals from which the session goes on, unless a call of a disk failed or there was no memory
abbrev pub FindsWhatWasLeft : Result Journals ReopenErr → List Image → Scenario → Story → Type 0
FindsWhatWasLeft (Ok journals) images scenario left = GoesOnFrom (found_in images journals) scenario left
FindsWhatWasLeft (Err (Err_is.Damaged number at)) images scenario left = ⊥
FindsWhatWasLeft (Err (Err_is.Foreign number)) images scenario left = ⊥
FindsWhatWasLeft (Err (Err_is.Disk number)) images scenario left = Unit {0}
FindsWhatWasLeft (Err Err_is.Memory) images scenario left = Unit {0}

abbrev pub LeftDisksAreFoundAgain : Type 0
LeftDisksAreFoundAgain =
    (disks : List Seen) (scenario : Scenario) (commands : List Command) → IsLeft disks scenario commands → (result : Result Journals ReopenErr)
    → FindsAs result (images_of disks) → FindsWhatWasLeft result (images_of disks) scenario (story_of scenario commands)
