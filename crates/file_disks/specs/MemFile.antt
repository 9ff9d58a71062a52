-- What contracts see of a file in memory.
use Rattle.std.specs.Prelude.{ℕ, List}
use Rattle.journal_disk.specs.Disk.{Image}
use Rattle.file_disks.specs.declared.mem_file.MemFile.{MemFile}

-- its bytes, and how many of them are synced
abbrev pub kept_image : MemFile → Image
kept_image file = record { bytes = file.bytes.items; synced = file.synced }

-- how many calls it has had
abbrev pub kept_calls : MemFile → ℕ
kept_calls file = file.calls

-- the calls that fail
abbrev pub kept_failing : MemFile → List ℕ
kept_failing file = file.failing.items

-- how many calls have failed
abbrev pub kept_faults : MemFile → ℕ
kept_faults file = file.faults
