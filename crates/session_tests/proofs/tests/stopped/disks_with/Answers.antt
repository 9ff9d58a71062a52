use Rattle.std.proofs.Common.{◌≡◌, length, sym, subst}
use Rattle.mdb_base.specs.Words.{Each}
use Rattle.mdb_base.proofs.ForCallers.{each_pushed}
use Rattle.journal_disk.specs.declared.mem_disk.MemDisk.{MemDisk}
use Rattle.journal_disk.specs.MemDisk.{mem_image}
use Rattle.session_tests.proofs.tests.stopped.disks_with.Goals as goal

pub loop-place-preserved : goal.loop-place-preserved
loop-place-preserved c =
    let P : MemDisk → Type 0 = λ disk. (mem_image disk).synced ≡ length (mem_image disk).bytes in
    subst (Each P) (sym c.in_ok-push.ensures.items) (each_pushed P c.loop-place.disks.items c.in_ok-disk.disk c.loop-place.invariant c.in_ok-disk.ensures)
