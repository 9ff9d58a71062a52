use Rattle.std.proofs.Common.{◌≡◌, length}
use Rattle.mdb_base.specs.Words.{Each}
use Rattle.journal_disk.specs.MemDisk.{mem_size}
use Rattle.session_tests.proofs.tests.world_disks.nine_disks.Given as goal

abbrev pub invariant-loop-place : goal.invariant-loop-place
invariant-loop-place l = record { count : length l.disks.items ≡ l._place; empty : Each (λ disk. mem_size disk ≡ 0) l.disks.items }
