-- A disk that may stop after any call, and may be trimmed at its front. It is seen as its records, the newest first, with the length of
-- their frames. Places count all bytes that were ever written and not lost, those that were trimmed included, as numbers of a log do.
-- What a stop keeps is a prefix of the bytes that holds at least the synced ones (this project's profile).
use Rattle.std.specs.Prelude.{ℕ, ◌+◌, ◌-◌, min, nat_le, nat_lt, cond, Bool, Option, Some, None, List, [], ◌∷◌}

-- one call on the disk of an actor
pub data Call (Record : Type 0) : Type 0 where
  Append : Record → Call Record
  Sync : Call Record
  CutBack : Call Record  -- to the end of the last whole frame
  TrimFront : Call Record  -- up to the last record, which is a synced Checkpoint
  Stops : ℕ → Call Record  -- a stop with this cut

pub record Disk (Record : Type 0) : Type 0 where
  pub records : List Record  -- all whose frames stood there whole and weren't lost by a stop, the newest first
  pub length : ℕ  -- the place behind the last byte
  pub synced : ℕ  -- so much survives every stop
  pub trimmed : ℕ  -- the place of the first byte that stands
  pub lost : Option Record  -- the oldest one that the last stop to lose any took away: its frame's first bytes may stand behind the whole ones

-- the bytes of these records' frames
abbrev pub bytes_of : {Record : Type 0} → (Record → ℕ) → List Record → ℕ
bytes_of size [] = 0
bytes_of size (newest ∷ records) = size newest + bytes_of size records

-- the records whose frames lie whole within so many bytes
abbrev pub whole : {Record : Type 0} → (Record → ℕ) → ℕ → List Record → List Record
whole size bytes [] = []
whole size bytes (newest ∷ records) =
    cond (nat_le (bytes_of size (newest ∷ records)) bytes) (newest ∷ records) (whole size bytes records)

-- the records before the last one
abbrev pub before_last : {Record : Type 0} → List Record → List Record
before_last [] = []
before_last (newest ∷ records) = records

-- those of the records whose frames stand behind what was trimmed
abbrev pub standing : {Record : Type 0} → (Record → ℕ) → ℕ → List Record → List Record
standing size trimmed [] = []
standing size trimmed (newest ∷ records) =
    cond (nat_le trimmed (bytes_of size records)) (newest ∷ standing size trimmed records) []

-- the records that stand on the disk, the newest first
abbrev pub journal : {Record : Type 0} → (Record → ℕ) → Disk Record → List Record
journal size disk = standing size disk.trimmed disk.records

-- how many bytes the disk holds
abbrev pub held_bytes : {Record : Type 0} → Disk Record → ℕ
held_bytes disk = disk.length - disk.trimmed

-- the oldest of the records whose frame doesn't lie whole within so many bytes; where each does, the one that was lost before
abbrev pub oldest_lost : {Record : Type 0} → (Record → ℕ) → ℕ → Option Record → List Record → Option Record
oldest_lost size bytes before [] = before
oldest_lost size bytes before (newest ∷ records) =
    cond (nat_le (bytes_of size (newest ∷ records)) bytes) before (oldest_lost size bytes (Some newest) records)

-- what is left of a disk of which all before this place is kept, and synced
abbrev pub kept_of : {Record : Type 0} → (Record → ℕ) → ℕ → Disk Record → Disk Record
kept_of size place disk =
    record {
      records = whole size place disk.records;
      length = place;
      synced = place;
      trimmed = disk.trimmed;
      lost = oldest_lost size place disk.lost disk.records;
    }

-- a disk after a call
abbrev pub after_call : {Record : Type 0} → (Record → ℕ) → Disk Record → Call Record → Disk Record
after_call size disk (Append newest) =
    record { records = newest ∷ disk.records; length = disk.length + size newest; synced = disk.synced; trimmed = disk.trimmed; lost = disk.lost }
after_call size disk Sync =
    record { records = disk.records; length = disk.length; synced = disk.length; trimmed = disk.trimmed; lost = disk.lost }
after_call size disk CutBack =
    record { records = disk.records; length = bytes_of size disk.records; synced = bytes_of size disk.records; trimmed = disk.trimmed; lost = disk.lost }
after_call size disk TrimFront =
    record { records = disk.records; length = disk.length; synced = disk.synced; trimmed = bytes_of size (before_last disk.records); lost = disk.lost }
after_call size disk (Stops cut) = kept_of size (min disk.length (disk.synced + cut)) disk

-- a disk after these calls, the first one first
abbrev pub after_calls : {Record : Type 0} → (Record → ℕ) → Disk Record → List (Call Record) → Disk Record
after_calls size disk [] = disk
after_calls size disk (call ∷ calls) = after_calls size (after_call size disk call) calls

-- a disk on which nothing was written
abbrev pub empty_disk : {Record : Type 0} → Disk Record
empty_disk = record { records = []; length = 0; synced = 0; trimmed = 0; lost = None }

-- whether bytes stand behind the last whole frame
abbrev pub is_torn : {Record : Type 0} → (Record → ℕ) → Disk Record → Bool
is_torn size disk = nat_lt (bytes_of size disk.records) disk.length

-- the bytes of a frame: four before the payload, with its length, and the 32 of a digest behind it
abbrev pub framed : ℕ → ℕ
framed payload = 36 + payload

-- a payload is at most so long
abbrev pub longest : ℕ
longest = 65535
