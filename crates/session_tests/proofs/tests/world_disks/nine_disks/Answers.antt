use Rattle.std.proofs.Common.{◌≡◌, length, sym, ap, subst, arith}
use Rattle.std.proofs.lemmas.List.{length_push}
use Rattle.mdb_base.specs.Words.{Each}
use Rattle.mdb_base.proofs.ForCallers.{each_pushed}
use Rattle.journal_disk.specs.declared.mem_disk.MemDisk.{MemDisk}
use Rattle.journal_disk.specs.MemDisk.{mem_size}
use Rattle.session_tests.proofs.tests.world_disks.nine_disks.Goals as goal

pub loop-place-preserved : goal.loop-place-preserved
loop-place-preserved c =
    let items = c.in_ok-push.ensures.items in
    let one = length_push c.loop-place.disks.items c.in_ok-disk.disk in
    let all = ap length items in
    record {
      count = (let n = c.loop-place.invariant.count in omega (arith, one, all, n));
      empty = subst (Each (λ (disk : MemDisk). mem_size disk ≡ 0)) (sym items)
          (each_pushed (λ (disk : MemDisk). mem_size disk ≡ 0) c.loop-place.disks.items c.in_ok-disk.disk c.loop-place.invariant.empty c.in_ok-disk.ensures);
    }
