use Rattle.std.proofs.Common.{◌≡◌, ◌≤◌, Some, length, slice_get, refl, sym, subst, ◌∙◌, ℕ}
use Rattle.federation_run.specs.Seats.{IsSeat}
use Rattle.federation_run.proofs.Rooms.{just_one, more_than, no_more_than, one_less, seat_free, some_there}
use Rattle.federation_run.proofs.Seated.{can_seat, last_out, same_first, seated_all, seated_next, seated_none}
use Rattle.federation_run.proofs.seats.open_all.Goals as goal

pub loop-alloc-init : goal.loop-alloc-init
loop-alloc-init g c = record { seated = seated_none c.args.wired_sites.items c.args.disks.now.items c.args.seats.now.items c.requires.none c.requires.nine; room = c.requires.room; capacity = refl }

pub take_last-disk-requires : goal.take_last-disk-requires
take_last-disk-requires g c = some_there c.len.result c.loop-alloc.disks.len 1 c.len.ensures c.loop-alloc-test.true

pub seat_of-seat-requires-clause-told : goal.seat_of-seat-requires-clause-told
seat_of-seat-requires-clause-told g c = c.requires.told

pub seat_of-seat-requires-clause-opens : goal.seat_of-seat-requires-clause-opens
seat_of-seat-requires-clause-opens g c =
    let s = c.loop-alloc.invariant.seated in
    let out = last_out c.args.disks.now.items c.loop-alloc.disks.items c.take_last-disk.new.self.items c.take_last-disk.result s.front c.take_last-disk.ensures.items in
    let actor : length c.take_last-disk.new.self.items ≡ c.len-in-loop-alloc.result = sym (c.len-in-loop-alloc.ensures ∙ c.take_last-disk.new.self.ok.0) in
    can_seat g.D.Disk.tells g.D.Disk.seen g.N.Plan.sites g.N.Wires.rings c.args.wired_sites.items c.loop-alloc.waiting.items c.args.disks.now.items c.len-in-loop-alloc.result c.take_last-disk.result c.requires.opens s.left
    (subst (λ (n : ℕ). slice_get c.args.disks.now.items n ≡ Some c.take_last-disk.result) actor out.1)

pub push_reserved-requires : goal.push_reserved-requires
push_reserved-requires g c =
    seat_free (length c.loop-alloc.seats.items) c.loop-alloc.seats.len c.loop-alloc.seats.cap (length c.loop-alloc.disks.items) c.loop-alloc.disks.len c.len.result c.loop-alloc.invariant.seated.count c.loop-alloc.seats.ok.0
    c.loop-alloc.invariant.room c.len.ensures c.loop-alloc.disks.ok.0 c.loop-alloc-test.true

pub loop-alloc-preserved : goal.loop-alloc-preserved
loop-alloc-preserved g c =
    let own = subst (λ (n : ℕ). IsSeat n c.loop-alloc.waiting.items c.take_last-disk.result c.seat_of-seat.result) (c.len-in-loop-alloc.ensures ∙ c.take_last-disk.new.self.ok.0) c.seat_of-seat.ensures.seat in
    record {
      seated = seated_next c.args.wired_sites.items c.args.disks.now.items c.loop-alloc.waiting.items c.seat_of-seat.new.wired_sites.items c.loop-alloc.disks.items c.take_last-disk.new.self.items c.loop-alloc.seats.items c.push_reserved.new.self.items
          c.take_last-disk.result c.seat_of-seat.result c.loop-alloc.invariant.seated (more_than 1 c.len.result c.loop-alloc.disks.len (length c.loop-alloc.disks.items) c.len.ensures c.loop-alloc.disks.ok.0 c.loop-alloc-test.true)
          c.take_last-disk.ensures.items own c.seat_of-seat.ensures.left c.push_reserved.ensures.items;
      room = subst (λ (n : ℕ). 8 ≤ n) (sym c.push_reserved.ensures.capacity) c.loop-alloc.invariant.room;
      capacity = c.take_last-disk.ensures.capacity ∙ c.loop-alloc.invariant.capacity;
    }

pub loop-alloc-smaller : goal.loop-alloc-smaller
loop-alloc-smaller g c = one_less c.loop-alloc.disks.len c.take_last-disk.new.self.len c.take_last-disk.ensures.len

pub returns-clause-one : goal.returns-clause-one
returns-clause-one g c = just_one c.len.result c.loop-alloc.disks.len (length c.loop-alloc.disks.items) c.loop-alloc.invariant.seated.least c.len.ensures c.loop-alloc.disks.ok.0 c.loop-alloc-test.false

pub returns-clause-first : goal.returns-clause-first
returns-clause-first g c = same_first c.loop-alloc.disks.items c.args.disks.now.items c.loop-alloc.invariant.seated.least c.loop-alloc.invariant.seated.front

pub returns-clause-room : goal.returns-clause-room
returns-clause-room g c = c.loop-alloc.invariant.capacity

pub returns-clause-seats : goal.returns-clause-seats
returns-clause-seats g c =
    seated_all c.args.wired_sites.items c.args.disks.now.items c.loop-alloc.waiting.items c.loop-alloc.disks.items c.loop-alloc.seats.items c.loop-alloc.invariant.seated
    (no_more_than 1 c.len.result c.loop-alloc.disks.len (length c.loop-alloc.disks.items) c.len.ensures c.loop-alloc.disks.ok.0 c.loop-alloc-test.false)
