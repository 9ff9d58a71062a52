use Rattle.std.proofs.Common.{◌≡◌, ◌<◌, Some, length, slice_get, refl, arith}
use Rattle.std.proofs.lemmas.Option.{slice_get_read, slice_get_within}
use Rattle.fed_hosts.specs.declared.ports.Port.{Port}
use Rattle.fed_hosts.specs.Ports.{HasPortRoom}
use Rattle.fed_hosts.proofs.CoordSame.{same_ports, same_written}
use Rattle.fed_hosts.proofs.PortPlaces.{next_port}
use Rattle.fed_hosts.proofs.posting.make_room.Goals as goal

pub loop-place-init : goal.loop-place-init
loop-place-init c = record { same = same_ports c.args.ports.now.items; room = λ place port less at. absurd (omega (arith, less)) }

pub loop-place-preserved : goal.loop-place-preserved
loop-place-preserved c =
    let now = c.loop-place.ports.items in
    let p = c.loop-place.place in
    let count = c.loop-place.invariant.same.count in
    let within : p < length now = omega (arith, count) in
    let port : Port = c.index_mut.result.now in
    let at : slice_get now p ≡ Some port = slice_get_read now (length now) p port refl within c.index_mut.ensures.value in
    record {
      same = same_written c.args.ports.now.items now p port c.reserve.new.self c.loop-place.invariant.same within at c.reserve.ensures.same;
      room = next_port HasPortRoom p now c.reserve.new.self within c.in_ok-reserve.ensures.room c.loop-place.invariant.room;
    }

pub returns-in_err-reserve-clause-same : goal.returns-in_err-reserve-clause-same
returns-in_err-reserve-clause-same c =
    let now = c.loop-place.ports.items in
    let p = c.loop-place.place in
    let count = c.loop-place.invariant.same.count in
    let within : p < length now = omega (arith, count) in
    let port : Port = c.index_mut.result.now in
    let at : slice_get now p ≡ Some port = slice_get_read now (length now) p port refl within c.index_mut.ensures.value in
    same_written c.args.ports.now.items now p port c.reserve.new.self c.loop-place.invariant.same within at c.reserve.ensures.same

pub returns-clause-room : goal.returns-clause-room
returns-clause-room c =
    let count = c.loop-place.invariant.same.count in
    let all = c.len-place-end.ensures in
    λ place port at. (let less = slice_get_within c.loop-place.ports.items place port at in c.loop-place.invariant.room place port (omega (arith, less, count, all)) at)
