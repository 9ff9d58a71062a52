-- What a session finds on nine disks, and when it may go on from it.
use Rattle.std.specs.Prelude.{ℕ, ◌+◌, ◌-◌, ◌++◌, Option, Some, None, Result, Ok, Err, List, [], ◌∷◌, length, map, reverse, slice_get}
use Rattle.fed_rules.specs.declared.records.SiteRecord.{SiteRecord}
use Rattle.fed_rules.specs.Found.{Found, Journal}
use Rattle.journal_disk.specs.Disk.{Image}
use Rattle.frame_journal.specs.Journal.{Kept, records}
use Rattle.frame_journal.specs.Records.{Entry, entry_frame, spelled_size}
use Rattle.coord_journal.specs.Spelling as Coordinators
use Rattle.site_journal.specs.Spelling as Sites
use Rattle.usable_journals.specs.Disks.{NamesLeast}
use Rattle.found_disks.specs.declared.errors.ReopenErr.{ReopenErr}
use Rattle.found_disks.specs.declared.errors.ReopenErr.TheVariants as Err_is
use Rattle.found_disks.specs.declared.reading.Journals.{Journals}
use Rattle.found_disks.specs.Reading.{AreRead, IsFirstDamaged}

-- ---- what is found

-- how many bytes stand behind the whole frames of these entries
abbrev pub torn_behind : {R : Type 0} → (R → List ℕ) → List (Entry R) → Option Image → ℕ
torn_behind spelling entries None = 0
torn_behind spelling entries (Some image) = length image.bytes - spelled_size (entry_frame spelling) entries

-- the journal that is read from the disk of this number, the newest record first
abbrev pub journal_on : {R : Type 0} → (R → List ℕ) → List Image → ℕ → Kept R → Journal R
journal_on spelling images number kept = record { records = reverse (records kept); torn = torn_behind spelling kept.entries (slice_get images number) }

-- one without a record counts as an empty disk
abbrev pub unless_empty : List SiteRecord → Journal SiteRecord → List (Journal SiteRecord)
unless_empty [] journal = []
unless_empty (first ∷ newer) journal = journal ∷ []

-- those of the disks of sites from this number on
abbrev pub sites_from : ℕ → List Image → List (Kept SiteRecord) → List (Journal SiteRecord)
sites_from number images [] = []
sites_from number images (kept ∷ more) = unless_empty (records kept) (journal_on Sites.spelling images number kept) ++ sites_from (number + 1) images more

-- what a session finds on disks from which these journals are read
abbrev pub found_in : List Image → Journals → Found
found_in images journals =
    record { coordinator = Some (journal_on Coordinators.spelling images 0 journals.coordinator); sites = sites_from 1 images journals.sites.items }

-- ---- whether it may go on

-- of the disks of these journals this one is the first that isn't usable, or none is
abbrev pub NamesOf : Journals → Option ℕ → Type 0
NamesOf journals number = NamesLeast (records journals.coordinator) (map records journals.sites.items) number

abbrev pub IsRefused : Journals → ReopenErr → Type 0
IsRefused journals (Err_is.Foreign number) = NamesOf journals (Some number)
IsRefused journals (Err_is.Damaged number at) = ⊥
IsRefused journals (Err_is.Disk number) = ⊥
IsRefused journals Err_is.Memory = Unit {0}

-- no disk is damaged, and this one is the first that isn't usable
pub record IsFirstForeign (number : ℕ) (images : List Image) : Type 0 where
  pub journals : Journals
  pub read : AreRead images journals
  pub foreign : NamesOf journals (Some number)

-- journals are found exactly where no disk is damaged and each is usable; the first damaged disk is named exactly where one is, and else the first one
-- that isn't usable
abbrev pub FindsAs : Result Journals ReopenErr → List Image → Type 0
FindsAs (Ok journals) images = AreRead images journals × NamesOf journals None
FindsAs (Err (Err_is.Damaged number at)) images = IsFirstDamaged number at images
FindsAs (Err (Err_is.Foreign number)) images = IsFirstForeign number images
FindsAs (Err (Err_is.Disk number)) images = Unit {0}
FindsAs (Err Err_is.Memory) images = Unit {0}
