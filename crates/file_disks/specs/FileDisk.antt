-- What contracts see of a disk over a file.
use Rattle.std.specs.Prelude.{ℕ, ◌≡◌, ◌≤◌, ◌-◌, ◌⊎◌, Bool, false, List, length, take, IsTrue, Result, IsErr}
use Rattle.std.specs.Vec.{vec_capacity}
use Rattle.mdb_base.specs.Counts.{HasRisen}
use Rattle.journal_disk.specs.Disk.{Image, appended}
use Rattle.file_disks.specs.declared.file_disk.FileDisk.{FileDisk}

module _ {F : Type 0} where
  -- its bytes in memory, and how many of them are synced
  abbrev pub file_image : FileDisk F → Image
  file_image disk = record { bytes = disk.bytes.items; synced = disk.synced }

  -- how many bytes are on it
  abbrev pub file_size : FileDisk F → ℕ
  file_size disk = length disk.bytes.items

  -- how many bytes fit without memory
  abbrev pub file_spare : FileDisk F → ℕ
  file_spare disk = vec_capacity disk.bytes - file_size disk

  -- how many calls of append, sync, cut_back, trim_front and read_at it has had
  abbrev pub file_calls : FileDisk F → ℕ
  file_calls disk = disk.calls

  -- how many calls have failed
  abbrev pub file_faults : FileDisk F → ℕ
  file_faults disk = disk.faults

  -- its file
  abbrev pub disk_file : FileDisk F → F
  disk_file disk = disk.file

  -- it isn't known what the file holds, and each call fails
  abbrev pub IsLost : FileDisk F → Type 0
  IsLost disk = IsTrue disk.is_lost

  -- memory and file are in step: the disk isn't lost, and where the file tells its bytes, they are those of the
  -- memory, and as many of them are synced at least
  pub record InStep (tells : Bool) (image : F → Image) (disk : FileDisk F) : Type 0 where
    pub found : disk.is_lost ≡ false
    pub bytes : IsTrue tells → (image disk.file).bytes ≡ disk.bytes.items
    pub synced : IsTrue tells → disk.synced ≤ (image disk.file).synced

  -- the disk was lost, or a call on its file failed
  abbrev pub FailsByFile : (F → ℕ) → FileDisk F → FileDisk F → Type 0
  FailsByFile faults old new = IsLost old ⊎ HasRisen (faults old.file) (faults new.file)

  -- on a lost disk the call failed, was not made on the file, and the disk is lost still
  pub record FailsLost {T E : Type 0} (old new : FileDisk F) (outcome : Result T E) : Type 0 where
    pub fails : IsErr outcome
    pub untouched : new.file ≡ old.file
    pub lost : IsLost new

  -- once lost, it stays so
  abbrev pub StaysLost : {T E : Type 0} → FileDisk F → FileDisk F → Result T E → Type 0
  StaysLost old new outcome = IsLost old → FailsLost old new outcome

  -- what is in memory stands as it was
  pub record KeepsMemory (old new : FileDisk F) : Type 0 where
    pub bytes : new.bytes ≡ old.bytes
    pub synced : new.synced ≡ old.synced
    pub calls : new.calls ≡ old.calls

  -- so many bytes of the piece stand in the file behind the others, and no call has failed
  pub record HasWritten (tells : Bool) (image : F → Image) (faults : F → ℕ) (old now : FileDisk F) (piece : List ℕ) (done : ℕ) : Type 0 where
    pub within : done ≤ length piece
    pub memory : KeepsMemory old now
    pub lost : now.is_lost ≡ old.is_lost
    pub count : now.faults ≡ old.faults
    pub written : IsTrue tells → (image old.file).bytes ≡ old.bytes.items → image now.file ≡ appended (take done piece) (image old.file)
    pub calm : faults now.file ≡ faults old.file
