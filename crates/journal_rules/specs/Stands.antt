-- The bytes on a disk beside what the rules say is on it. The rules count records, the newest first, and the lengths of their frames.
use Rattle.std.specs.Prelude.{ℕ, ◌≡◌, ◌+◌, ◌-◌, ◌≤◌, false, List, [], ◌∷◌, ◌++◌, length, reverse}
use Rattle.fed_rules.specs.Disk.{Call, Append, Sync, CutBack, TrimFront, Stops, Disk, before_last, bytes_of, after_call, is_torn}
use Rattle.journal_disk.specs.Disk.{Image, appended, all_synced, cut_to, stopped, trimmed_to}
use Rattle.journal_disk.specs.Frames.{Frame, IsPayload, written, frame}
use Rattle.frame_journal.specs.Journal.{written_size}
use Rattle.frame_journal.specs.Records.{Entry, AreRecordsOf, entry_frame, spelled, spelled_size, values}

-- the frame of a record
abbrev pub record_frame : {R : Type 0} → (R → List ℕ) → R → Frame
record_frame spelling entry = written (spelling entry)

-- the whole frames are those of all records, and the lengths agree
pub record StandsWhole {R : Type 0} (spelling : R → List ℕ) (image : Image) (disk : Disk R) : Type 0 where
  pub records : AreRecordsOf (record_frame spelling) image.bytes (reverse disk.records)
  pub bytes : length image.bytes ≡ disk.length
  pub synced : image.synced ≡ disk.synced

-- the image with these bytes in front of it, all of them synced
abbrev pub with_front : List ℕ → Image → Image
with_front front image = record { bytes = front ++ image.bytes; synced = length front + image.synced }

-- the whole frames are those of the records that stand on the disk: with what was trimmed put back in front the bytes are those of all records
pub record StandsFor {R : Type 0} (spelling : R → List ℕ) (size : R → ℕ) (image : Image) (disk : Disk R) : Type 0 where
  pub front : List ℕ
  pub trimmed : length front ≡ disk.trimmed
  pub all : StandsWhole spelling (with_front front image) disk
  pub newer : List R
  pub older : List R
  pub parts : disk.records ≡ newer ++ older
  pub border : disk.trimmed ≡ bytes_of size older

-- the rules count the frames as they are spelled
abbrev pub CountsFrames : {R : Type 0} → (R → List ℕ) → (R → ℕ) → Type 0
CountsFrames {R} spelling size = (entry : R) → written_size spelling entry ≡ size entry

-- the bytes after a call
abbrev pub image_after : {R : Type 0} → (R → List ℕ) → (R → ℕ) → Disk R → Image → Call R → Image
image_after spelling size disk image (Append entry) = appended (frame (spelling entry)) image
image_after spelling size disk image Sync = all_synced image
image_after spelling size disk image CutBack = cut_to (bytes_of size disk.records - disk.trimmed) image
image_after spelling size disk image TrimFront = trimmed_to (bytes_of size (before_last disk.records) - disk.trimmed) image
image_after spelling size disk image (Stops cut) = stopped cut image

-- nothing is appended behind a torn rest, and no payload is too long; what is trimmed is synced and stood there; a stop leaves what was trimmed behind it
abbrev pub MayCome : {R : Type 0} → (R → List ℕ) → (R → ℕ) → Disk R → Call R → Type 0
MayCome spelling size disk (Append entry) = (is_torn size disk ≡ false) × IsPayload (spelling entry)
MayCome spelling size disk TrimFront = (disk.trimmed ≤ bytes_of size (before_last disk.records)) × (bytes_of size (before_last disk.records) ≤ disk.synced)
MayCome spelling size disk (Stops cut) = disk.trimmed ≤ disk.synced
MayCome spelling size disk call = Unit {0}

-- the bytes after these calls, the first one first
abbrev pub image_after_calls : {R : Type 0} → (R → List ℕ) → (R → ℕ) → Disk R → Image → List (Call R) → Image
image_after_calls spelling size disk image [] = image
image_after_calls spelling size disk image (call ∷ calls) =
    image_after_calls spelling size (after_call size disk call) (image_after spelling size disk image call) calls

abbrev pub AllMayCome : {R : Type 0} → (R → List ℕ) → (R → ℕ) → Disk R → List (Call R) → Type 0
AllMayCome spelling size disk [] = Unit {0}
AllMayCome spelling size disk (call ∷ calls) = MayCome spelling size disk call × AllMayCome spelling size (after_call size disk call) calls

-- the image with the frames of these entries at its front spelled as version 2. They are synced, and so is what stands in their place
abbrev pub respelled : {R : Type 0} → (R → List ℕ) → List (Entry R) → Image → Image
respelled spelling [] image = image
respelled spelling (entry ∷ entries) image =
    with_front (spelled (record_frame spelling) (values (entry ∷ entries))) (trimmed_to (spelled_size (entry_frame spelling) (entry ∷ entries)) image)
