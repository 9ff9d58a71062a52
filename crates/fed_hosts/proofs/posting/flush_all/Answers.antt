use Rattle.std.proofs.Common.{◌≡◌, ◌<◌, Some, length, slice_get, refl, arith}
use Rattle.std.proofs.lemmas.Option.{slice_get_read, slice_get_within}
use Rattle.scripted_link.specs.Outlets.{HasMovedOn}
use Rattle.scripted_link.proofs.ForCallers.{moves_on}
use Rattle.fed_hosts.specs.declared.ports.Port.{Port}
use Rattle.fed_hosts.proofs.CoordSame.{same_ports, same_written}
use Rattle.fed_hosts.proofs.PortPlaces.{next_port}
use Rattle.fed_hosts.proofs.posting.flush_all.Goals as goal

pub loop-place-init : goal.loop-place-init
loop-place-init c = record { same = same_ports c.args.ports.now.items; moved_on = λ place port less at. absurd (omega (arith, less)) }

pub loop-place-preserved : goal.loop-place-preserved
loop-place-preserved c =
    let now = c.loop-place.ports.items in
    let p = c.loop-place.place in
    let count = c.loop-place.invariant.same.count in
    let within : p < length now = omega (arith, count) in
    let port : Port = c.index_mut.result.now in
    let at : slice_get now p ≡ Some port = slice_get_read now (length now) p port refl within c.index_mut.ensures.value in
    let new : Port = record port { ends = record port.ends { outlet = c.flush.new.self } } in
    let moved : HasMovedOn c.flush.new.self = moves_on port.ends.outlet c.flush.new.self c.flush.ensures.moves in
    record {
      same = same_written c.args.ports.now.items now p port new c.loop-place.invariant.same within at
          (record { site = refl; inlet = refl; wire = c.flush.ensures.wire; offers = c.flush.ensures.offered; moved_on = λ had. moved; sent = refl });
      moved_on = next_port (λ (port : Port). HasMovedOn port.ends.outlet) p now new within moved c.loop-place.invariant.moved_on;
    }

pub returns-clause-moved_on : goal.returns-clause-moved_on
returns-clause-moved_on c =
    let count = c.loop-place.invariant.same.count in
    let all = c.len-place-end.ensures in
    λ place port at. (let less = slice_get_within c.loop-place.ports.items place port at in c.loop-place.invariant.moved_on place port (omega (arith, less, count, all)) at)
