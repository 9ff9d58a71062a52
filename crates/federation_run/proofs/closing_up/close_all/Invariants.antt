use Rattle.std.proofs.Common.{◌≤◌, map, slice_get, vec_len, vec_capacity}
use Rattle.federation_run.proofs.Seated.{AreOutTo}
use Rattle.federation_run.proofs.closing_up.close_all.Given as goal

abbrev pub invariant-loop-taken : goal.invariant-loop-taken
invariant-loop-taken g l = record {
  out : AreOutTo g.D.Disk.tells g.D.Disk.seen g.N.Plan.sites g.N.Wires.rings l.fn.seats.items (slice_get (map g.D.Disk.seen l.fn.disks.items) 0) l.taken.items (map g.D.Disk.seen l.disks.items) l.lefts.items;
  disks_room : 9 ≤ vec_capacity l.disks;
  lefts_room : 8 ≤ vec_capacity l.lefts;
}

abbrev pub decreases-loop-taken : goal.decreases-loop-taken
decreases-loop-taken g l = vec_len l.taken
