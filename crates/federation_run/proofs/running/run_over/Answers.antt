use Rattle.std.proofs.Common.{List, length, map, refl, sym, ap, ◌∙◌}
use Rattle.std.proofs.lemmas.List.{length-map}
use Rattle.fed_world.proofs.ForCallers.{mapped_at}
use Rattle.federation_run.specs.declared.seats.Seat.{Seat}
use Rattle.federation_run.proofs.Closed.{alone_first, has_left}
use Rattle.federation_run.proofs.Opened.{can_open_coord, can_seat_all}
use Rattle.federation_run.proofs.Rooms.{none_left, one_put, one_there, place_left, room_for_all, room_kept}
use Rattle.federation_run.proofs.Seated.{length_out}
use Rattle.federation_run.proofs.running.run_over.Goals as goal

pub returns-in-Err-clause-untouched : goal.returns-in-Err-clause-untouched
returns-in-Err-clause-untouched g c = refl

pub open_all-requires-clause-told : goal.open_all-requires-clause-told
open_all-requires-clause-told g c = c.requires.told

pub open_all-requires-clause-nine : goal.open_all-requires-clause-nine
open_all-requires-clause-nine g c = sym (length-map c.args.disks.now.items g.D.Disk.seen) ∙ c.requires.actors.others.nine

pub open_all-requires-clause-none : goal.open_all-requires-clause-none
open_all-requires-clause-none g c = c.in-Ok.ensures.seats.0

pub open_all-requires-clause-room : goal.open_all-requires-clause-room
open_all-requires-clause-room g c = c.in-Ok.ensures.seats.1

pub open_all-requires-clause-opens : goal.open_all-requires-clause-opens
open_all-requires-clause-opens g c =
    can_seat_all g.D.Disk.tells (map g.D.Disk.seen c.args.disks.now.items) c.args.scenario.now c.in-Ok.ensures.whole c.args.actors c.requires.actors g.N.Plan.sites g.N.Plan.coordinator g.N.Wires.rings c.requires.named

pub take_last-first-requires : goal.take_last-first-requires
take_last-first-requires g c = one_there (length c.open_all.new.disks.items) c.open_all.new.disks.len c.open_all.ensures.one c.open_all.new.disks.ok.0

pub new-requires-clause-told : goal.new-requires-clause-told
new-requires-clause-told g c = c.requires.told

pub new-requires-clause-opens : goal.new-requires-clause-opens
new-requires-clause-opens g c =
    let empty =
    none_left (length c.open_all.new.disks.items) (length c.take_last-first.new.self.items) c.open_all.ensures.one
    (length_out c.open_all.new.disks.items c.take_last-first.new.self.items c.take_last-first.result c.take_last-first.ensures.items) in
    let first = alone_first c.take_last-first.new.self.items c.open_all.new.disks.items c.take_last-first.result empty c.take_last-first.ensures.items in
    can_open_coord g.D.Disk.tells (map g.D.Disk.seen c.args.disks.now.items) c.args.scenario.now c.in-Ok.ensures.whole c.args.actors c.requires.actors g.N.Plan.sites g.N.Plan.coordinator g.N.Wires.rings c.requires.named
    (g.D.Disk.seen c.take_last-first.result) (mapped_at g.D.Disk.seen c.args.disks.now.items 0 c.take_last-first.result (sym c.open_all.ensures.first ∙ first))

pub run_tasks-requires-clause-room : goal.run_tasks-requires-clause-room
run_tasks-requires-clause-room g c κs lives =
    room_for_all 0 c.in-Ok.rooms.shared.len c.in-Ok.rooms.shared.cap (length c.as_slice.result.now) c.in-Ok.ensures.shared.0 refl c.in-Ok.ensures.shared.1
    (ap (λ (seats : List (Seat _ _)). length seats) c.as_slice.ensures.value ∙ c.open_all.ensures.seats.count)

pub run_tasks-requires-clause-some : goal.run_tasks-requires-clause-some
run_tasks-requires-clause-some g c κs lives = c.in-Ok.ensures.tasks

pub push_reserved-requires : goal.push_reserved-requires
push_reserved-requires g c =
    let old = c.args.disks.now in
    let nine = sym (length-map old.items g.D.Disk.seen) ∙ c.requires.actors.others.nine in
    let empty =
    none_left (length c.open_all.new.disks.items) (length c.take_last-first.new.self.items) c.open_all.ensures.one
    (length_out c.open_all.new.disks.items c.take_last-first.new.self.items c.take_last-first.result c.take_last-first.ensures.items) in
    place_left (length c.take_last-first.new.self.items) c.take_last-first.new.self.len c.take_last-first.new.self.cap empty c.take_last-first.new.self.ok.0
    (room_kept (length old.items) old.len old.cap c.open_all.new.disks.cap c.take_last-first.new.self.cap nine old.ok.0 old.ok.1 c.open_all.ensures.room c.take_last-first.ensures.capacity)

pub close_all-requires-clause-seats : goal.close_all-requires-clause-seats
close_all-requires-clause-seats g c = c.open_all.ensures.seats.count

pub close_all-requires-clause-one : goal.close_all-requires-clause-one
close_all-requires-clause-one g c =
    one_put (length c.take_last-first.new.self.items) (length c.push_reserved.new.self.items)
    (none_left (length c.open_all.new.disks.items) (length c.take_last-first.new.self.items) c.open_all.ensures.one
    (length_out c.open_all.new.disks.items c.take_last-first.new.self.items c.take_last-first.result c.take_last-first.ensures.items))
    (length_out c.push_reserved.new.self.items c.take_last-first.new.self.items c.finish-manager.result.disk c.push_reserved.ensures.items)

pub close_all-requires-clause-room : goal.close_all-requires-clause-room
close_all-requires-clause-room g c =
    let old = c.args.disks.now in
    let nine = sym (length-map old.items g.D.Disk.seen) ∙ c.requires.actors.others.nine in
    room_kept (length old.items) old.len old.cap c.open_all.new.disks.cap c.push_reserved.new.self.cap nine old.ok.0 old.ok.1 c.open_all.ensures.room (c.push_reserved.ensures.capacity ∙ c.take_last-first.ensures.capacity)

pub close_all-requires-clause-none : goal.close_all-requires-clause-none
close_all-requires-clause-none g c = c.in-Ok.ensures.sites.0

pub close_all-requires-clause-lefts : goal.close_all-requires-clause-lefts
close_all-requires-clause-lefts g c = c.in-Ok.ensures.sites.1

pub returns-clause-left : goal.returns-clause-left
returns-clause-left g c =
    let nine = sym (length-map c.args.disks.now.items g.D.Disk.seen) ∙ c.requires.actors.others.nine in
    let empty =
    none_left (length c.open_all.new.disks.items) (length c.take_last-first.new.self.items) c.open_all.ensures.one
    (length_out c.open_all.new.disks.items c.take_last-first.new.self.items c.take_last-first.result c.take_last-first.ensures.items) in
    has_left g.D.Disk.tells g.D.Disk.seen c.args.scenario.now g.N.Plan.sites g.N.Plan.coordinator g.N.Wires.rings c.args.actors c.args.disks.now.items c.take_last-first.new.self.items c.push_reserved.new.self.items c.close_all.new.disks.items
    c.open_all.new.seats.items c.finish-manager.result c.close_all.new.lefts c.requires.actors nine empty c.push_reserved.ensures.items c.close_all.ensures.nine c.close_all.ensures.first c.finish-manager.ensures.held c.close_all.ensures.held
    c.open_all.ensures.seats c.close_all.ensures.back
