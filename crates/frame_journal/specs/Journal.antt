-- What contracts see of a journal, and how it stands to its disk.
use Rattle.std.specs.Prelude.{ℕ, ◌≡◌, ◌+◌, ◌-◌, ◌<◌, ◌≤◌, ◌⊎◌, Bool, false, nat_lt, max, IsTrue, List, [], ◌∷◌, ◌++◌, length, map}
use Rattle.std.specs.Global.{Vec}
use Rattle.std.specs.Vec.{vec_capacity}
use Rattle.std.specs.List.{AllByRecursion}
use Rattle.journal_disk.specs.Disk.{Image, Seen, appended, AppendsSome, SyncsSome}
use Rattle.journal_disk.specs.Frames.{AreRight, written, frame_size}
use Rattle.journal_disk.specs.declared.frames.Version.{Version}
use Rattle.frame_journal.specs.Records.{Entry, entry_frame, entries_of, as_written, spelled_size, values, AreRecordsOf}

-- the entries, oldest first; whether bytes stand behind the last whole frame; for how many entries and for how many bytes of
-- frames the journal has room
pub record Kept (R : Type 0) : Type 0 where
  pub entries : List (Entry R)
  pub is_torn : Bool
  pub places : ℕ
  pub room : ℕ

-- its records, oldest first
abbrev pub records : {R : Type 0} → Kept R → List R
records journal = values journal.entries

-- a journal of no record
abbrev pub new_journal : {R : Type 0} → Kept R
new_journal = record { entries = []; is_torn = false; places = 0; room = 0 }

-- the disk is as the journal's call before left it
pub record IsKeptOn {R : Type 0} (spelling : R → List ℕ) (tells : Bool) (seen : Seen) (journal : Kept R) : Type 0 where
  pub records : IsTrue tells → AreRecordsOf (entry_frame spelling) seen.image.bytes journal.entries
  pub whole : spelled_size (entry_frame spelling) journal.entries ≤ seen.size
  pub is_torn : journal.is_torn ≡ nat_lt (spelled_size (entry_frame spelling) journal.entries) seen.size
  pub room : journal.room ≤ seen.spare

-- room for at least so many entries, and for so many bytes of frames
abbrev pub with_room_for : {R : Type 0} → (places bytes : ℕ) → Kept R → Kept R
with_room_for places bytes journal = record journal { places = max journal.places places; room = max journal.room bytes }

-- room for one more entry, whose frame has so many bytes
abbrev pub with_room : {R : Type 0} → ℕ → Kept R → Kept R
with_room bytes journal = record journal { places = journal.places + 1; room = journal.room + bytes }

-- the room for one entry is used
abbrev pub with_room_used : {R : Type 0} → ℕ → Kept R → Kept R
with_room_used bytes journal = record journal { places = journal.places - 1; room = journal.room - bytes }

-- there is room for an entry whose frame has so many bytes
abbrev pub HasRoom : {R : Type 0} → ℕ → Kept R → Type 0
HasRoom bytes journal = (0 < journal.places) × (bytes ≤ journal.room)

-- how many bytes the frame of a record has that is written
abbrev pub written_size : {R : Type 0} → (R → List ℕ) → R → ℕ
written_size spelling entry = frame_size (written (spelling entry))

-- the entry stands at the end, and the room for it is used
abbrev pub with_entry : {R : Type 0} → (R → List ℕ) → R → Kept R → Kept R
with_entry spelling entry journal =
    record (with_room_used (written_size spelling entry) journal) { entries = journal.entries ++ as_written entry ∷ [] }

-- what a journal's fields keep: its records can be read again, it knows how their frames are spelled and how many bytes they have, and
-- there is memory for what was reserved
pub record IsSound {R : Type 0} (spelling : R → List ℕ) (is_record : R → Type 0) (records : Vec R) (versions : Vec Version) (frame : Vec ℕ) (whole places room : ℕ) : Type 0 where
  pub are_records : AllByRecursion is_record records.items
  pub side_by_side : length versions.items ≡ length records.items
  pub are_right : AreRight (map (entry_frame spelling) (entries_of versions.items records.items))
  pub sized : whole ≡ spelled_size (entry_frame spelling) (entries_of versions.items records.items)
  pub has_places : length records.items + places ≤ vec_capacity records
  pub has_versions : length records.items + places ≤ vec_capacity versions
  pub has_bytes : room ≤ vec_capacity frame

-- a failed force leaves some prefix of the frame, or all of it with at least what was synced
abbrev pub ForcesSome : List ℕ → Image → Image → Type 0
ForcesSome bytes old new = AppendsSome bytes old new ⊎ SyncsSome (appended bytes old) new

-- a failed note leaves the entry in the journal or not, and uses the room for it
abbrev pub NotesOrNot : {R : Type 0} → (R → List ℕ) → R → Kept R → Kept R → Type 0
NotesOrNot spelling entry old new =
    (new ≡ with_entry spelling entry old) ⊎ (new ≡ record (with_room_used (written_size spelling entry) old) { is_torn = new.is_torn })

-- the last record is such a one
abbrev pub EndsWith : {R : Type 0} → (R → Type 0) → List R → Type 0
EndsWith P [] = ⊥
EndsWith P (entry ∷ []) = P entry
EndsWith P (entry ∷ next ∷ records) = EndsWith P (next ∷ records)
