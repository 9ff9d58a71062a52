use Rattle.std.proofs.Common.{◌≡◌, length}
use Rattle.mdb_base.specs.Words.{Each}
use Rattle.journal_disk.specs.MemDisk.{mem_image}
use Rattle.session_tests.proofs.tests.stopped.disks_with.Given as goal

-- all bytes of each disk are synced
abbrev pub invariant-loop-place : goal.invariant-loop-place
invariant-loop-place l = Each (λ disk. (mem_image disk).synced ≡ length (mem_image disk).bytes) l.disks.items
