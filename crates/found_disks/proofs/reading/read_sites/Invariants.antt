use Rattle.std.proofs.Common.{◌≡◌, ◌≤◌, ◌+◌, length, map}
use Rattle.found_disks.specs.Faults.{faults_of}
use Rattle.found_disks.specs.Reading.{AreReadFrom, images_of}
use Rattle.found_disks.proofs.reading.read_sites.Given as goal

abbrev pub invariant-loop-number : goal.invariant-loop-number
invariant-loop-number g l =
    record {
      read : AreReadFrom 1 (images_of (map g.D.Disk.seen l.fn.disks.items)) l.journals.items;
      all : l.number ≡ length l.journals.items + 1;
      most : l.number ≤ 9;
      images : images_of (map g.D.Disk.seen l.disks.items) ≡ images_of (map g.D.Disk.seen l.fn.disks.items);
      nine : length l.disks.items ≡ 9;
      calm : faults_of (map g.D.Disk.seen l.disks.items) ≡ faults_of (map g.D.Disk.seen l.fn.disks.items);
    }
