use Rattle.std.proofs.Common.{◌≡◌, zero, suc, List, [], ◌∷◌, length, map, subst}
use Rattle.mdb_base.specs.Words.{Each}
use Rattle.journal_disk.specs.Disk.{Image}
use Rattle.journal_disk.specs.declared.mem_disk.MemDisk.{MemDisk}
use Rattle.journal_disk.specs.MemDisk.{mem_image}
use Rattle.site_core.specs.Sessions.{mem_seen}
use Rattle.found_disks.specs.Reading.{images_of}
use Rattle.world_recovery.specs.Reopening.{AreSynced}
use Rattle.session_tests.proofs.tests.stopped.resumed.Goals as goal

-- what holds of each disk holds of the one at each place
all_synced : (disks : List MemDisk) → Each (λ disk. (mem_image disk).synced ≡ length (mem_image disk).bytes) disks → AreSynced (images_of (map mem_seen disks))
all_synced [] each number image at = cc
all_synced (disk ∷ disks) each zero image at = (let same : mem_image disk ≡ image = cc in subst (λ (i : Image). i.synced ≡ length i.bytes) same each.0)
all_synced (disk ∷ disks) each (suc number) image at = all_synced disks each.1 number image at

pub federate-status-requires-clause-synced : goal.federate-status-requires-clause-synced
federate-status-requires-clause-synced g c lives within asked = all_synced c.args.disks.now.items c.requires.synced
