-- What the counts of faults of the disks tell of a call.
use Rattle.std.specs.Prelude.{ℕ, ◌≡◌, ◌≤◌, Some, List, Result, Ok, Err, map, slice_get, slice_set}
use Rattle.mdb_base.specs.Counts.{HasRisen}
use Rattle.journal_disk.specs.Disk.{Seen}
use Rattle.fed_world.specs.declared.errors.WorldErr.{WorldErr}
use Rattle.fed_world.specs.declared.errors.WorldErr.TheVariants as Err_is

-- the count of each disk, disk 0 first
abbrev pub faults_of : List Seen → List ℕ
faults_of disks = map (λ disk. disk.faults) disks

-- the count of this disk rose, or stands at its last value, and each other one stands where it stood
pub record RoseAt (number : ℕ) (old new : List ℕ) : Type 0 where
  pub before : ℕ
  pub now : ℕ
  pub own : slice_get old number ≡ Some before
  pub later : before ≤ now
  pub rose : HasRisen before now
  pub others : new ≡ slice_set old number now

-- so of disks
abbrev pub RisesAt : ℕ → List Seen → List Seen → Type 0
RisesAt number old new = RoseAt number (faults_of old) (faults_of new)

-- where a disk failed, its own count rose and no other; want of memory moves none
abbrev pub FailedAs : WorldErr → List Seen → List Seen → Type 0
FailedAs Err_is.Memory old new = faults_of new ≡ faults_of old
FailedAs (Err_is.Disk number) old new = RisesAt number old new

-- and where all went well none moved: no fault is hidden
abbrev pub CountsTell : {T : Type 0} → Result T WorldErr → List Seen → List Seen → Type 0
CountsTell (Ok done) old new = faults_of new ≡ faults_of old
CountsTell (Err why) old new = FailedAs why old new
