-- How large the journals may be from which a session goes on.
use Rattle.std.specs.Prelude.{◌^◌, nat_le, Bool, List}
use Rattle.mdb_base.specs.Words.{each_of}
use Rattle.journal_disk.specs.Disk.{Seen}

-- no disk has more than 67,108,864 bytes
abbrev pub are_small : List Seen → Bool
are_small disks = each_of (λ disk. nat_le disk.size (2 ^ 26)) disks
