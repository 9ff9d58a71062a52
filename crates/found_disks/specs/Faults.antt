-- What the counts of faults of disks tell of a call of one of them.
use Rattle.std.specs.Prelude.{ℕ, ◌≡◌, ◌≤◌, Some, List, map, slice_get, slice_set}
use Rattle.mdb_base.specs.Counts.{HasRisen}
use Rattle.journal_disk.specs.Disk.{Seen}

-- the count of each disk, disk 0 first
abbrev pub faults_of : List Seen → List ℕ
faults_of disks = map (λ disk. disk.faults) disks

-- the count of this disk rose, or stands at its last value, and each other one stands where it stood
pub record RoseAt (number : ℕ) (old new : List ℕ) : Type 0 where
  pub before : ℕ
  pub now : ℕ
  pub own : slice_get old number ≡ Some before
  pub later : before ≤ now
  pub rose : HasRisen before now
  pub others : new ≡ slice_set old number now

-- so of disks
abbrev pub RisesAt : ℕ → List Seen → List Seen → Type 0
RisesAt number old new = RoseAt number (faults_of old) (faults_of new)
