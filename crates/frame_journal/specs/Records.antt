-- Records as payloads of frames: what a list of frames is read as, and which records a stop and a trim leave.
use Rattle.std.specs.Prelude.{ℕ, ◌≡◌, ◌+◌, ◌-◌, List, [], ◌∷◌, ◌++◌, map, nat_le, if◌then◌else◌, Option, Some, None, Result, Ok, Err}
use Rattle.journal_disk.specs.declared.errors.JournalErr.{JournalErr}
use Rattle.journal_disk.specs.declared.errors.JournalErr.TheVariants as Why
use Rattle.journal_disk.specs.declared.frames.Version.{Version}
use Rattle.journal_disk.specs.declared.frames.Version.TheVariants.{Second}
use Rattle.journal_disk.specs.Frames.{Frame, payload_of, version_of, frame_in, frame_size, frames, frames_size, AreWhole}

-- ---- items that have a frame each, of whatever kind they are

-- the bytes of these items, one frame each
abbrev pub spelled : {A : Type 0} → (A → Frame) → List A → List ℕ
spelled shape items = frames (map shape items)

-- how many bytes that is
abbrev pub spelled_size : {A : Type 0} → (A → Frame) → List A → ℕ
spelled_size shape items = frames_size (map shape items)

-- these are the items whose frames are whole in the bytes, and a proper prefix of one frame follows them
abbrev pub AreRecordsOf : {A : Type 0} → (A → Frame) → List ℕ → List A → Type 0
AreRecordsOf shape bytes items = AreWhole bytes (map shape items)

-- the items whose frames end within the first n bytes
abbrev pub records_within : {A : Type 0} → (A → Frame) → ℕ → List A → List A
records_within shape n [] = []
records_within shape n (item ∷ items) =
    if nat_le (frame_size (shape item)) n then item ∷ records_within shape (n - frame_size (shape item)) items else []

-- the last item alone
abbrev pub last_alone : {A : Type 0} → List A → List A
last_alone [] = []
last_alone (item ∷ []) = item ∷ []
last_alone (item ∷ next ∷ items) = last_alone (next ∷ items)

-- those before the last one
abbrev pub before_last : {A : Type 0} → List A → List A
before_last [] = []
before_last (item ∷ []) = []
before_last (item ∷ next ∷ items) = item ∷ before_last (next ∷ items)

-- ---- entries of a journal

-- a record, and how its frame is spelled
pub record Entry (R : Type 0) : Type 0 where
  pub version : Version
  pub value : R

-- the frame of an entry
abbrev pub entry_frame : {R : Type 0} → (R → List ℕ) → Entry R → Frame
entry_frame spelling entry = frame_in entry.version (spelling entry.value)

-- a record as it is written
abbrev pub as_written : {R : Type 0} → R → Entry R
as_written {R} entry = record { version = Second; value = entry }

-- the records of these entries
abbrev pub values : {R : Type 0} → List (Entry R) → List R
values entries = map (λ entry. entry.value) entries

-- versions and records side by side
abbrev pub entries_of : {R : Type 0} → List Version → List R → List (Entry R)
entries_of [] records = []
entries_of (version ∷ versions) [] = []
entries_of (version ∷ versions) (entry ∷ records) = record { version = version; value = entry } ∷ entries_of versions records

-- ---- what is read

-- an entry in front of those that were read
abbrev pub with_first : {R : Type 0} → Entry R → Result (List (Entry R)) ℕ → Result (List (Entry R)) ℕ
with_first entry (Ok entries) = Ok (entry ∷ entries)
with_first entry (Err place) = Err place

-- what is read of a payload of this version and of those behind it
abbrev pub reads_on : {R : Type 0} → (place : ℕ) → Version → Option R → Result (List (Entry R)) ℕ → Result (List (Entry R)) ℕ
reads_on place version None others = Err place
reads_on place version (Some value) others = with_first (record { version = version; value = value }) others

-- the entries that the frames from this place on spell, or the place of the first one whose payload is no record
abbrev pub entries_at : {R : Type 0} → (List ℕ → Option R) → ℕ → List Frame → Result (List (Entry R)) ℕ
entries_at reading place [] = Ok []
entries_at reading place (first ∷ others) =
    reads_on place (version_of first) (reading (payload_of first)) (entries_at reading (place + frame_size first) others)

-- entries in front of those that were read
abbrev pub with_front : {R : Type 0} → List (Entry R) → Result (List (Entry R)) ℕ → Result (List (Entry R)) ℕ
with_front front (Ok entries) = Ok (front ++ entries)
with_front front (Err place) = Err place

-- a frame that is no record stands where reading met it
abbrev pub LoadFails : {A : Type 0} → JournalErr → Result A ℕ → Type 0
LoadFails (Why.Malformed at) read = read ≡ Err at
LoadFails (Why.Damaged at) read = ⊥
LoadFails Why.Failed read = Unit {0}
LoadFails Why.Memory read = Unit {0}

-- loading whole frames gives what reading gives, unless the disk failed or memory ran out
abbrev pub Loads : {X A : Type 0} → (X → A) → Result X JournalErr → Result A ℕ → Type 0
Loads view (Ok found) read = read ≡ Ok (view found)
Loads view (Err why) read = LoadFails why read

-- all was read
abbrev pub IsRead : {A : Type 0} → Result A ℕ → Type 0
IsRead (Ok found) = Unit {0}
IsRead (Err place) = ⊥

-- a damaged frame is named where it stands, if each of the frames before it is a record; else the first that is none
abbrev pub StopsAt : {X A : Type 0} → ℕ → Result X JournalErr → Result A ℕ → Type 0
StopsAt place (Ok found) read = ⊥
StopsAt place (Err (Why.Malformed at)) read = read ≡ Err at
StopsAt place (Err (Why.Damaged at)) read = (at ≡ place) × IsRead read
StopsAt place (Err Why.Failed) read = Unit {0}
StopsAt place (Err Why.Memory) read = Unit {0}
