use Rattle.std.proofs.Common.{◌≡◌, ◌+◌, ◌≤◌, vec_len, vec_capacity}
use Rattle.federation_run.proofs.Seated.{AreSeatedTo}
use Rattle.federation_run.proofs.seats.open_all.Given as goal

abbrev pub invariant-loop-alloc : goal.invariant-loop-alloc
invariant-loop-alloc g l = record {
  seated : AreSeatedTo l.fn.wired_sites.items l.fn.disks.items l.waiting.items l.disks.items l.seats.items;
  room : 8 ≤ vec_capacity l.seats;
  capacity : vec_capacity l.disks ≡ vec_capacity l.fn.disks;
}

abbrev pub decreases-loop-alloc : goal.decreases-loop-alloc
decreases-loop-alloc g l = vec_len l.disks
