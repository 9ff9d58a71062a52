-- What survives on a disk: a record is safe where its frame, and all frames before it, lie within the synced bytes.
use Rattle.std.specs.Prelude.{ℕ, ◌≤◌, ◌≡◌, ◌⊎◌, List, [], ◌∷◌, ◌++◌}
use Rattle.order_laws.specs.Chains.{In}
use Rattle.fed_rules.specs.Disk.{Disk, bytes_of, whole}

-- the records whose frames lie within the synced bytes, the newest first
abbrev pub safe_records : {Record : Type 0} → (Record → ℕ) → Disk Record → List Record
safe_records size disk = whole size disk.synced disk.records

-- the record survives every stop
abbrev pub IsSafe : {Record : Type 0} → (Record → ℕ) → Disk Record → Record → Type 0
IsSafe size disk kept = In kept (safe_records size disk)

-- the records' frames lie within the disk, and so do the synced bytes
pub record IsSound {Record : Type 0} (size : Record → ℕ) (disk : Disk Record) : Type 0 where
  pub frames : bytes_of size disk.records ≤ disk.length
  pub synced : disk.synced ≤ disk.length

-- the first of these records are loose, and the frames of the others lie within so many bytes
abbrev pub LooseFirst : {Record : Type 0} → (Record → ℕ) → (Record → Type 0) → ℕ → List Record → Type 0
LooseFirst size Loose synced [] = Unit {0}
LooseFirst size Loose synced (newest ∷ records) = (bytes_of size (newest ∷ records) ≤ synced) ⊎ (Loose newest × LooseFirst size Loose synced records)

-- a sound disk on which all records are safe but for loose ones at the end
pub record IsFirm {Record : Type 0} (size : Record → ℕ) (Loose : Record → Type 0) (disk : Disk Record) : Type 0 where
  pub sound : IsSound size disk
  pub loose : LooseFirst size Loose disk.synced disk.records

-- these are the oldest of those records: what was appended behind them is gone
abbrev pub IsFrontOf : {Record : Type 0} → List Record → List Record → Type 0
IsFrontOf {Record} records kept = (newer : List Record) × (records ≡ newer ++ kept)
