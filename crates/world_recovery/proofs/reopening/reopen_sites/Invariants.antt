use Rattle.std.proofs.Common.{◌≡◌, ◌≤◌, length, map, slice_get, vec_capacity}
use Rattle.fed_rules.specs.Found.{Found}
use Rattle.found_disks.specs.Faults.{faults_of}
use Rattle.found_disks.specs.Reading.{images_of}
use Rattle.world_recovery.specs.Reopening.{AreOnDisks}
use Rattle.world_recovery.proofs.GoingBack.{AreBackTo}
use Rattle.world_recovery.proofs.reopening.reopen_sites.Given as goal

abbrev pub invariant-loop-site : goal.invariant-loop-site
invariant-loop-site g l =
    record {
      back : (found : Found) → AreOnDisks found l.scenario (images_of (map g.D.Disk.seen l.fn.disks.items))
          → AreBackTo g.D.Disk.tells l.cores.items (map g.D.Disk.seen l.disks.items) found l.site-index;
      room : length l.declared ≤ vec_capacity l.cores;
      nine : length l.disks.items ≡ 9;
      first : slice_get (map g.D.Disk.seen l.disks.items) 0 ≡ slice_get (map g.D.Disk.seen l.fn.disks.items) 0;
      images : images_of (map g.D.Disk.seen l.disks.items) ≡ images_of (map g.D.Disk.seen l.fn.disks.items);
      calm : faults_of (map g.D.Disk.seen l.disks.items) ≡ faults_of (map g.D.Disk.seen l.fn.disks.items);
    }
