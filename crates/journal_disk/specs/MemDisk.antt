-- What contracts see of a disk in memory.
use Rattle.std.specs.Prelude.{ℕ, ◌≡◌, ◌-◌, List, length, Contains, Result, IsErr, ◌↔◌}
use Rattle.std.specs.Vec.{vec_capacity}
use Rattle.journal_disk.specs.Disk.{Image, one_more}
use Rattle.journal_disk.specs.declared.mem_disk.MemDisk.{MemDisk}

-- its bytes, and how many of them are synced
abbrev pub mem_image : MemDisk → Image
mem_image disk = record { bytes = disk.bytes.items; synced = disk.synced }

-- how many bytes are on it
abbrev pub mem_size : MemDisk → ℕ
mem_size disk = length disk.bytes.items

-- how many bytes fit without memory
abbrev pub mem_spare : MemDisk → ℕ
mem_spare disk = vec_capacity disk.bytes - mem_size disk

-- how many calls of append, sync, cut_back, trim_front and read_at it has had
abbrev pub mem_calls : MemDisk → ℕ
mem_calls disk = disk.calls

-- the calls that fail
abbrev pub mem_failing : MemDisk → List ℕ
mem_failing disk = disk.failing.items

-- how many calls have failed
abbrev pub mem_faults : MemDisk → ℕ
mem_faults disk = disk.faults

-- the next call was made: it failed exactly where its number is listed, and a failure was counted
pub record Calls {T E : Type 0} (old new : MemDisk) (outcome : Result T E) : Type 0 where
  pub calls : mem_calls new ≡ one_more (mem_calls old)
  pub failing : mem_failing new ≡ mem_failing old
  pub fails : IsErr outcome ↔ Contains (mem_failing old) (mem_calls new)

-- no call was made that can fail: its calls and faults stand as they were, and the same calls fail
pub record KeepsCalls (old new : MemDisk) : Type 0 where
  pub calls : mem_calls new ≡ mem_calls old
  pub failing : mem_failing new ≡ mem_failing old
  pub faults : mem_faults new ≡ mem_faults old
