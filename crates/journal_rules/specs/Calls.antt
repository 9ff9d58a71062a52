-- Calls on a journal, as they are made one after the other, and what they are on the disk of the rules.
use Rattle.std.specs.Prelude.{ℕ, ◌≡◌, ◌+◌, cond, List, [], ◌∷◌}
use Rattle.std.specs.List.{AllByRecursion}
use Rattle.mdb_base.specs.Counts.{HasRisen}
use Rattle.fed_rules.specs.Disk.{Call, Append, Sync, CutBack, TrimFront, Stops, Disk, after_calls, empty_disk, is_torn}
use Rattle.journal_disk.specs.Disk.{HasCalled, Image, Seen, no_bytes}
use Rattle.journal_disk.specs.Frames.{IsPayload}
use Rattle.journal_rules.specs.Stands.{StandsFor, image_after_calls}
use Rattle.journal_rules.specs.declared.calls.JournalCall.{JournalCall}
use Rattle.journal_rules.specs.declared.calls.JournalCall.TheVariants.{Note, Force, Check, Cut, Stop}

-- an entry can be written
pub record IsWritable {R : Type 0} (spelling : R → List ℕ) (InRange : R → Type 0) (entry : R) : Type 0 where
  pub in_range : InRange entry
  pub payload : IsPayload (spelling entry)

-- what is written can be, and only a checkpoint is checked
abbrev pub MayBeMade : {R : Type 0} → (R → List ℕ) → (in_range is_checkpoint : R → Type 0) → JournalCall R → Type 0
MayBeMade spelling in_range is_checkpoint (Note entry) = IsWritable spelling in_range entry
MayBeMade spelling in_range is_checkpoint (Force entry) = IsWritable spelling in_range entry
MayBeMade spelling in_range is_checkpoint (Check entry) = IsWritable spelling in_range entry × is_checkpoint entry
MayBeMade spelling in_range is_checkpoint Cut = Unit {0}
MayBeMade spelling in_range is_checkpoint (Stop cut) = Unit {0}

-- no call failed: the count of faults didn't rise, and doesn't stand at its last value
abbrev pub NoneFailed : ℕ → ℕ → Type 0
NoneFailed before now = HasRisen before now → ⊥

-- ---- the calls of the rules

-- nothing is written while the disk is torn
abbrev pub unless_torn : {R : Type 0} → (R → ℕ) → Disk R → List (Call R) → List (Call R)
unless_torn size disk calls = cond (is_torn size disk) [] calls

-- the calls on the disk that a call on its journal makes
abbrev pub calls_of : {R : Type 0} → (R → ℕ) → Disk R → JournalCall R → List (Call R)
calls_of size disk (Note entry) = unless_torn size disk (Append entry ∷ [])
calls_of size disk (Force entry) = unless_torn size disk (Append entry ∷ Sync ∷ [])
calls_of size disk (Check entry) = unless_torn size disk (Append entry ∷ Sync ∷ TrimFront ∷ [])
calls_of size disk Cut = CutBack ∷ []
calls_of size disk (Stop cut) = Stops cut ∷ []

-- the disk of the rules after these calls on the journal of an empty disk, the last one of the list first
abbrev pub disk_after : {R : Type 0} → (R → ℕ) → List (JournalCall R) → Disk R
disk_after size [] = empty_disk
disk_after size (call ∷ earlier) = after_calls size (disk_after size earlier) (calls_of size (disk_after size earlier) call)

-- the bytes after them
abbrev pub bytes_after : {R : Type 0} → (R → List ℕ) → (R → ℕ) → List (JournalCall R) → Image
bytes_after spelling size [] = no_bytes
bytes_after spelling size (call ∷ earlier) =
    image_after_calls spelling size (disk_after size earlier) (bytes_after spelling size earlier) (calls_of size (disk_after size earlier) call)

-- ---- how many they are

-- how many of these can fail: all but the stops
abbrev pub can_fail : {R : Type 0} → List (Call R) → ℕ
can_fail [] = 0
can_fail (Stops cut ∷ calls) = can_fail calls
can_fail (call ∷ calls) = 1 + can_fail calls

-- how many such calls of the disk these on the journal make, where none fails
abbrev pub made_calls : {R : Type 0} → (R → ℕ) → List (JournalCall R) → ℕ
made_calls size [] = 0
made_calls size (call ∷ earlier) = made_calls size earlier + can_fail (calls_of size (disk_after size earlier) call)

-- ---- a call at a time

-- the bytes stand for this disk of the rules, and its records are read again
pub record IsOf {R : Type 0} (spelling : R → List ℕ) (is_record : R → Type 0) (size : R → ℕ) (image : Image) (disk : Disk R) : Type 0 where
  pub stands : StandsFor spelling size image disk
  pub are_records : AllByRecursion is_record disk.records

-- these calls were made, each once: the bytes are those after them, and stand for the disk after them
pub record IsAfter {R : Type 0} (spelling : R → List ℕ) (is_record : R → Type 0) (size : R → ℕ) (old new : Seen) (disk : Disk R) (calls : List (Call R)) : Type 0 where
  pub image : new.image ≡ image_after_calls spelling size disk old.image calls
  pub is_of : IsOf spelling is_record size new.image (after_calls size disk calls)
  pub called : HasCalled (can_fail calls) old new

-- so it is after this call on the journal, whatever disk the bytes stood for
abbrev pub Follows : {R : Type 0} → (R → List ℕ) → (is_record : R → Type 0) → (R → ℕ) → JournalCall R → (old new : Seen) → Type 0
Follows {R} spelling is_record size call old new =
    (disk : Disk R) → IsOf spelling is_record size old.image disk → IsAfter spelling is_record size old new disk (calls_of size disk call)
