use Rattle.std.proofs.Common.{◌≤◌, ℕ, length, map, slice_get, refl, sym, subst, ◌∙◌}
use Rattle.std.proofs.lemmas.List.{length-map}
use Rattle.federation_run.proofs.Rooms.{all_back, disk_away, disk_fits, left_fits, no_more_than, none_before, one_less, some_there}
use Rattle.federation_run.proofs.Seated.{out_next, out_none}
use Rattle.federation_run.proofs.closing_up.close_all.Goals as goal

pub loop-taken-init : goal.loop-taken-init
loop-taken-init g c = record {
  out = out_none g.D.Disk.tells g.D.Disk.seen g.N.Plan.sites g.N.Wires.rings c.args.seats.items (slice_get (map g.D.Disk.seen c.args.disks.now.items) 0) (map g.D.Disk.seen c.args.disks.now.items) c.args.lefts.now.items
      c.requires.seats (length-map c.args.disks.now.items g.D.Disk.seen ∙ c.requires.one) refl c.requires.none;
  disks_room = c.requires.room;
  lefts_room = c.requires.lefts;
}

pub take_last-seat-requires : goal.take_last-seat-requires
take_last-seat-requires g c = some_there c.len.result c.loop-taken.taken.len 0 c.len.ensures c.loop-taken-test.true

pub close_seat-requires-clause-disks : goal.close_seat-requires-clause-disks
close_seat-requires-clause-disks g c =
    disk_fits c.loop-taken.disks.len c.loop-taken.disks.cap
    (disk_away (length c.loop-taken.taken.items) c.loop-taken.taken.len c.len.result (length c.loop-taken.disks.items) (length (map g.D.Disk.seen c.loop-taken.disks.items)) c.loop-taken.disks.len c.loop-taken.invariant.out.count
    c.len.ensures c.loop-taken.taken.ok.0 c.loop-taken-test.true (length-map c.loop-taken.disks.items g.D.Disk.seen) c.loop-taken.disks.ok.0)
    c.loop-taken.invariant.disks_room

pub close_seat-requires-clause-few : goal.close_seat-requires-clause-few
close_seat-requires-clause-few g c =
    disk_away (length c.loop-taken.taken.items) c.loop-taken.taken.len c.len.result (length c.loop-taken.disks.items) (length (map g.D.Disk.seen c.loop-taken.disks.items)) c.loop-taken.disks.len c.loop-taken.invariant.out.count
    c.len.ensures c.loop-taken.taken.ok.0 c.loop-taken-test.true (length-map c.loop-taken.disks.items g.D.Disk.seen) c.loop-taken.disks.ok.0

pub close_seat-requires-clause-lefts : goal.close_seat-requires-clause-lefts
close_seat-requires-clause-lefts g c =
    left_fits (length c.loop-taken.lefts.items) c.loop-taken.lefts.len c.loop-taken.lefts.cap (length c.loop-taken.taken.items) c.loop-taken.taken.len c.len.result c.loop-taken.invariant.out.few c.len.ensures c.loop-taken.taken.ok.0
    c.loop-taken-test.true c.loop-taken.lefts.ok.0 c.loop-taken.invariant.lefts_room

pub loop-taken-preserved : goal.loop-taken-preserved
loop-taken-preserved g c = record {
  out = out_next g.D.Disk.tells g.D.Disk.seen g.N.Plan.sites g.N.Wires.rings c.args.seats.items (slice_get (map g.D.Disk.seen c.args.disks.now.items) 0) c.loop-taken.taken.items c.take_last-seat.new.self.items c.take_last-seat.result
      (map g.D.Disk.seen c.loop-taken.disks.items) (map g.D.Disk.seen c.close_seat.new.disks.items) c.loop-taken.lefts.items c.close_seat.new.lefts.items c.loop-taken.invariant.out c.take_last-seat.ensures.items c.close_seat.ensures.out;
  disks_room = subst (λ (n : ℕ). 9 ≤ n) (sym c.close_seat.ensures.disks) c.loop-taken.invariant.disks_room;
  lefts_room = subst (λ (n : ℕ). 8 ≤ n) (sym c.close_seat.ensures.lefts) c.loop-taken.invariant.lefts_room;
}

pub loop-taken-smaller : goal.loop-taken-smaller
loop-taken-smaller g c = one_less c.loop-taken.taken.len c.take_last-seat.new.self.len c.take_last-seat.ensures.len

pub returns-clause-nine : goal.returns-clause-nine
returns-clause-nine g c =
    sym (length-map c.loop-taken.disks.items g.D.Disk.seen)
    ∙ all_back (length c.loop-taken.taken.items) c.loop-taken.taken.len c.len.result (length (map g.D.Disk.seen c.loop-taken.disks.items)) c.loop-taken.invariant.out.count c.len.ensures c.loop-taken.taken.ok.0 c.loop-taken-test.false

pub returns-clause-first : goal.returns-clause-first
returns-clause-first g c = c.loop-taken.invariant.out.first_is

pub returns-clause-held : goal.returns-clause-held
returns-clause-held g c = c.loop-taken.invariant.out.held

pub returns-clause-back : goal.returns-clause-back
returns-clause-back g c = λ index disk at.
    c.loop-taken.invariant.out.back index disk
    (none_before (length c.loop-taken.taken.items) index (no_more_than 0 c.len.result c.loop-taken.taken.len (length c.loop-taken.taken.items) c.len.ensures c.loop-taken.taken.ok.0 c.loop-taken-test.false)) at
