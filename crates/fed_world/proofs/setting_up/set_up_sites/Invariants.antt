use Rattle.std.proofs.Common.{◌≡◌, ◌≤◌, length, map, vec_capacity}
use Rattle.fed_world.specs.Faults.{faults_of}
use Rattle.fed_world.proofs.SetUps.{IsUpTo}
use Rattle.fed_world.proofs.setting_up.set_up_sites.Given as goal

abbrev pub invariant-loop-site : goal.invariant-loop-site
invariant-loop-site g l =
    record {
      up : IsUpTo g.D.Disk.tells l.cores.items (map g.D.Disk.seen l.disks.items) l.scenario l.site-index;
      room : length l.declared ≤ vec_capacity l.cores;
      nine : length l.disks.items ≡ 9;
      calm : faults_of (map g.D.Disk.seen l.disks.items) ≡ faults_of (map g.D.Disk.seen l.fn.disks.items);
    }
