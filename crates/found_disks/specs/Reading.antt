-- What is read of a disk, and why a disk isn't read.
use Rattle.std.specs.Prelude.{ℕ, zero, suc, ◌≡◌, ◌≤◌, ◌+◌, ◌⊎◌, Option, Some, Result, Ok, Err, List, [], ◌∷◌, length, map, slice_get}
use Rattle.std.specs.List.{AllByRecursion}
use Rattle.fed_rules.specs.declared.records.CoordRecord.{CoordRecord}
use Rattle.fed_rules.specs.declared.records.SiteRecord.{SiteRecord}
use Rattle.journal_disk.specs.declared.errors.JournalErr.{JournalErr}
use Rattle.journal_disk.specs.declared.errors.JournalErr.TheVariants as Why
use Rattle.journal_disk.specs.Disk.{Image, Seen}
use Rattle.journal_disk.specs.Frames.{Frame, AreWhole, IsDamagedBehind, frames_size}
use Rattle.frame_journal.specs.Journal.{Kept, records}
use Rattle.frame_journal.specs.Records.{AreRecordsOf, IsRead, entries_at, entry_frame}
use Rattle.coord_journal.specs.Spelling as Coordinators
use Rattle.site_journal.specs.Spelling as Sites
use Rattle.found_disks.specs.declared.errors.ReopenErr.{ReopenErr}
use Rattle.found_disks.specs.declared.errors.ReopenErr.TheVariants as Err_is
use Rattle.found_disks.specs.declared.reading.Journals.{Journals}
use Rattle.found_disks.specs.Faults.{RisesAt, faults_of}

-- ---- one disk

-- what is on each disk
abbrev pub images_of : List Seen → List Image
images_of disks = map (λ disk. disk.image) disks

-- there is a disk of this number, and this holds of its bytes
pub record HasBytes (images : List Image) (number : ℕ) (P : List ℕ → Type 0) : Type 0 where
  pub image : Image
  pub own : slice_get images number ≡ Some image
  pub holds : P image.bytes

-- the entries are those of the whole frames, of whichever version each is, and each record of them is one of the format
pub record IsReadFrom {R : Type 0} (spelling : R → List ℕ) (is_record : R → Type 0) (kept : Kept R) (bytes : List ℕ) : Type 0 where
  pub whole : AreRecordsOf (entry_frame spelling) bytes kept.entries
  pub are_records : AllByRecursion is_record (records kept)

-- reading these bytes stops at this place: where all frames are whole, at the first one whose payload is no record; where one is damaged, there, or
-- at the first one before it whose payload is no record
pub record IsDamagedAt {R : Type 0} (reading : List ℕ → Option R) (at : ℕ) (bytes : List ℕ) : Type 0 where
  pub malformed : (frames : List Frame) → AreWhole bytes frames → entries_at reading 0 frames ≡ Err at
  pub damaged : (before : List Frame) → IsDamagedBehind bytes before
      → ((at ≡ frames_size before) × IsRead (entries_at reading 0 before)) ⊎ (entries_at reading 0 before ≡ Err at)

-- why the journal on the disk of this number isn't read
abbrev pub unread : ℕ → JournalErr → ReopenErr
unread number (Why.Malformed at) = Err_is.Damaged number at
unread number (Why.Damaged at) = Err_is.Damaged number at
unread number Why.Failed = Err_is.Disk number
unread number Why.Memory = Err_is.Memory

-- the disk of this number is damaged, or a call of it failed, or there was no memory
abbrev pub IsUnread : {R : Type 0} → (List ℕ → Option R) → ℕ → List Image → ReopenErr → Type 0
IsUnread reading number images (Err_is.Damaged at_disk at) = (at_disk ≡ number) × HasBytes images number (IsDamagedAt reading at)
IsUnread reading number images (Err_is.Foreign at_disk) = ⊥
IsUnread reading number images (Err_is.Disk at_disk) = at_disk ≡ number
IsUnread reading number images Err_is.Memory = Unit {0}

-- ---- several disks

-- this journal of the coordinator is read from disk 0
abbrev pub IsReadFirst : List Image → Kept CoordRecord → Type 0
IsReadFirst images journal = HasBytes images 0 (IsReadFrom Coordinators.spelling Coordinators.IsRecord journal)

-- this journal of a site is read from the disk of its number
abbrev pub IsReadAt : ℕ → List Image → Kept SiteRecord → Type 0
IsReadAt number images journal = HasBytes images number (IsReadFrom Sites.spelling Sites.IsRecord journal)

-- these are read from the disks of sites from this number on
abbrev pub AreReadFrom : ℕ → List Image → List (Kept SiteRecord) → Type 0
AreReadFrom number images [] = Unit {0}
AreReadFrom number images (journal ∷ journals) = IsReadAt number images journal × AreReadFrom (number + 1) images journals

-- each disk of a site before this one is read, and this one is damaged at this place
pub record IsSiteDamaged (number at : ℕ) (images : List Image) : Type 0 where
  pub before : List (Kept SiteRecord)
  pub number_is : number ≡ length before + 1
  pub read : AreReadFrom 1 images before
  pub damaged : HasBytes images number (IsDamagedAt Sites.reading at)

-- why the disks of sites aren't read
abbrev pub AreSitesUnread : List Image → ReopenErr → Type 0
AreSitesUnread images (Err_is.Damaged number at) = IsSiteDamaged number at images
AreSitesUnread images (Err_is.Foreign number) = ⊥
AreSitesUnread images (Err_is.Disk number) = 1 ≤ number
AreSitesUnread images Err_is.Memory = Unit {0}

-- nine journals are read
pub record AreRead (images : List Image) (journals : Journals) : Type 0 where
  pub coordinator : IsReadFirst images journals.coordinator
  pub sites : AreReadFrom 1 images journals.sites.items
  pub all : length journals.sites.items ≡ 8

-- each disk before this one is read, and this one is damaged at this place
abbrev pub IsFirstDamaged : ℕ → ℕ → List Image → Type 0
IsFirstDamaged zero at images = HasBytes images 0 (IsDamagedAt Coordinators.reading at)
IsFirstDamaged (suc n) at images = ((coordinator : Kept CoordRecord) × IsReadFirst images coordinator) × IsSiteDamaged (suc n) at images

-- why nine disks aren't read
abbrev pub IsFirstUnread : List Image → ReopenErr → Type 0
IsFirstUnread images (Err_is.Damaged number at) = IsFirstDamaged number at images
IsFirstUnread images (Err_is.Foreign number) = ⊥
IsFirstUnread images (Err_is.Disk number) = Unit {0}
IsFirstUnread images Err_is.Memory = Unit {0}

-- a failed call moves the count of the disk that is named and no other one; every other reason moves none
abbrev pub FailsAs : ReopenErr → List Seen → List Seen → Type 0
FailsAs (Err_is.Disk number) old new = RisesAt number old new
FailsAs other old new = faults_of new ≡ faults_of old

-- and where all went well none moved: no fault is hidden
abbrev pub FaultsTell : {T : Type 0} → Result T ReopenErr → List Seen → List Seen → Type 0
FaultsTell (Ok done) old new = faults_of new ≡ faults_of old
FaultsTell (Err why) old new = FailsAs why old new
