-- What the tests see of a site's disk.
use Rattle.journal_disk.specs.declared.mem_disk.MemDisk.{MemDisk}
use Rattle.journal_disk.specs.Disk.{Seen}
use Rattle.journal_disk.specs.MemDisk.{mem_calls, mem_faults, mem_image, mem_size, mem_spare}

-- what is seen of a disk in memory
abbrev pub mem_seen : MemDisk → Seen
mem_seen disk = record { image = mem_image disk; size = mem_size disk; spare = mem_spare disk; faults = mem_faults disk; calls = mem_calls disk }
