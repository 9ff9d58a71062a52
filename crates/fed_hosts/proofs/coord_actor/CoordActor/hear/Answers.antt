use Rattle.std.proofs.Common.{◌≡◌, true, Some, slice_get, slice_set, length, refl, sym, ◌∙◌, subst, arith}
use Rattle.std.proofs.lemmas.Option.{same_Some, slice_get_read}
use Rattle.mdb_base.specs.declared.names.SiteId.{SiteId}
use Rattle.mdb_base.proofs.ForCallers.{none_left}
use Rattle.fed_rules.specs.declared.commands.Command.TheVariants as Cmd
use Rattle.fed_rules.specs.declared.events.CoordEvent.TheVariants as Ev
use Rattle.global_manager.specs.declared.asks.CoordAsk.TheVariants as Coord
use Rattle.fed_hosts.specs.declared.coord_actor.CoordLineParts.{CoordLineParts}
use Rattle.fed_hosts.specs.declared.ports.Port.{Port}
use Rattle.host_laws.specs.CoordHearing.{BearsFrom}
use Rattle.host_laws.specs.CoordTurns.{coord_past_of}
use Rattle.fed_hosts.specs.CoordKeeps.{IsCoordUnfinished}
use Rattle.fed_hosts.specs.Ports.{backs_of}
use Rattle.fed_hosts.specs.Turns.{MakesOne}
use Rattle.fed_hosts.proofs.CoordHeard.{late_from, unread_from}
use Rattle.fed_hosts.proofs.CoordSame.{coord_kept_for}
use Rattle.fed_hosts.proofs.CoordServed.{coord_view_beside}
use Rattle.fed_hosts.proofs.CoordTurning.{aside_keeps, back_keeps, coord_last_fits, coord_line_ready, coord_take_line, leaves_aside, port_among, stood_managed, unfinished_take, was_put_back}
use Rattle.fed_hosts.proofs.Faults.{clean}
use Rattle.fed_hosts.proofs.Polled.{arrived_last, with_inlet}
use Rattle.fed_hosts.proofs.coord_actor.CoordActor.hear.Goals as goal

pub returns-in_default-clause-keeps : goal.returns-in_default-clause-keeps
returns-in_default-clause-keeps g c =
    let test = g.P.TakePolicy.policy in
    let tells = g.D.Disk.tells in
    let seen = g.D.Disk.seen in
    let plan = g.N.Plan.coordinator in
    let rings = g.N.Wires.rings in
    let old = c.args.self.now in
    let held = c.requires.keeps in
    let k = held.keeps in
    aside_keeps test tells seen plan rings c.args.arrived old held (unread_from c.args.arrived.packet c.decode_from.result c.decode_from.ensures.only (none_left c.decode_from.result c.in_default.not-Some))

pub returns-then-envelope-ge-MOST_STAMP-clause-keeps : goal.returns-then-envelope-ge-MOST_STAMP-clause-keeps
returns-then-envelope-ge-MOST_STAMP-clause-keeps g c =
    let test = g.P.TakePolicy.policy in
    let tells = g.D.Disk.tells in
    let seen = g.D.Disk.seen in
    let plan = g.N.Plan.coordinator in
    let rings = g.N.Wires.rings in
    let old = c.args.self.now in
    let held = c.requires.keeps in
    let k = held.keeps in
    aside_keeps test tells seen plan rings c.args.arrived old held
    (late_from c.args.arrived.packet c.decode_from.result c.in-Some.envelope c.decode_from.ensures.only c.in-Some.is (omega (arith, c.if-envelope-ge-MOST_STAMP.true)))

pub returns-in_default-clause-takes : goal.returns-in_default-clause-takes
returns-in_default-clause-takes g c =
    let old = c.args.self.now in
    leaves_aside g.N.Wires.rings g.N.Plan.coordinator old.ports.items c.args.arrived old.lines.items c.requires.keeps.keeps.planned c.requires.arrived.within
    (unread_from c.args.arrived.packet c.decode_from.result c.decode_from.ensures.only (none_left c.decode_from.result c.in_default.not-Some))

pub returns-then-envelope-ge-MOST_STAMP-clause-takes : goal.returns-then-envelope-ge-MOST_STAMP-clause-takes
returns-then-envelope-ge-MOST_STAMP-clause-takes g c =
    let old = c.args.self.now in
    leaves_aside g.N.Wires.rings g.N.Plan.coordinator old.ports.items c.args.arrived old.lines.items c.requires.keeps.keeps.planned c.requires.arrived.within
    (late_from c.args.arrived.packet c.decode_from.result c.in-Some.envelope c.decode_from.ensures.only c.in-Some.is (omega (arith, c.if-envelope-ge-MOST_STAMP.true)))

pub ask-requires-clause-stood : goal.ask-requires-clause-stood
ask-requires-clause-stood g c =
    let plan = g.N.Plan.coordinator in
    let rings = g.N.Wires.rings in
    let arrived = c.args.arrived in
    let held = c.requires.keeps in
    let ports = c.args.self.now.ports.items in
    let from : Port = c.index.result.now in
    let at : slice_get ports arrived.place ≡ Some from = slice_get_read ports (length ports) arrived.place from refl c.requires.arrived.within c.index.ensures in
    stood_managed g.P.TakePolicy.policy g.D.Disk.tells g.D.Disk.seen plan rings held.before c.args.self.now (Coord.Take from.ends.site c.in-Some.envelope.message) held.keeps
    (port_among rings plan ports arrived.place from held.keeps.planned at)

pub carry-requires-clause-room : goal.carry-requires-clause-room
carry-requires-clause-room g c = record { lines = c.requires.room.lines; ports = c.requires.room.ports; places = c.requires.room.places }

pub carry-requires-clause-ready : goal.carry-requires-clause-ready
carry-requires-clause-ready g c =
    let test = g.P.TakePolicy.policy in
    let tells = g.D.Disk.tells in
    let seen = g.D.Disk.seen in
    let plan = g.N.Plan.coordinator in
    let rings = g.N.Wires.rings in
    let arrived = c.args.arrived in
    let old = c.args.self.now in
    let held = c.requires.keeps in
    let k = held.keeps in
    let past = coord_past_of plan k.turns in
    let ports = c.args.self.now.ports.items in
    let from : Port = c.index.result.now in
    let at : slice_get ports arrived.place ≡ Some from = slice_get_read ports (length ports) arrived.place from refl c.requires.arrived.within c.index.ensures in
    let among = port_among rings plan ports arrived.place from k.planned at in
    let envelope = c.in-Some.envelope in
    let step = c.in-Ok.step in
    let mid = record old { manager = c.ask.new.self; disk = c.ask.new.disk } in
    let told : CoordLineParts = record { command = Cmd.Take from.ends.site envelope.index; answer = step.answer; sends = step.sends; after = envelope.stamp } in
    coord_line_ready mid plan k.turns told (coord_kept_for old c.ask.new.self c.ask.new.disk plan k.turns k.kept) (record { lines = c.requires.room.lines; ports = c.requires.room.ports; places = c.requires.room.places })
    (omega (arith, c.if-envelope-ge-MOST_STAMP.false))

pub carry-requires-clause-last : goal.carry-requires-clause-last
carry-requires-clause-last g c = coord_last_fits c.args.self.now g.N.Plan.coordinator c.requires.keeps.keeps.turns c.requires.keeps.keeps.kept

pub put_back-requires-clause-last : goal.put_back-requires-clause-last
put_back-requires-clause-last g c =
    let test = g.P.TakePolicy.policy in
    let tells = g.D.Disk.tells in
    let seen = g.D.Disk.seen in
    let plan = g.N.Plan.coordinator in
    let rings = g.N.Wires.rings in
    let arrived = c.args.arrived in
    let old = c.args.self.now in
    let held = c.requires.keeps in
    let k = held.keeps in
    let past = coord_past_of plan k.turns in
    let ports = c.args.self.now.ports.items in
    let from : Port = c.index.result.now in
    let at : slice_get ports arrived.place ≡ Some from = slice_get_read ports (length ports) arrived.place from refl c.requires.arrived.within c.index.ensures in
    let among = port_among rings plan ports arrived.place from k.planned at in
    let envelope = c.in-Some.envelope in
    let port : Port = c.index_mut.result.now in
    let there : slice_get ports arrived.place ≡ Some port = slice_get_read ports (length ports) arrived.place port refl c.requires.arrived.within c.index_mut.ensures.value in
    arrived_last arrived held.before ports port held.polled there

pub put_back-requires-clause-back : goal.put_back-requires-clause-back
put_back-requires-clause-back g c =
    let ports = c.args.self.now.ports.items in
    let arrived = c.args.arrived in
    let port : Port = c.index_mut.result.now in
    let there : slice_get ports arrived.place ≡ Some port = slice_get_read ports (length ports) arrived.place port refl c.requires.arrived.within c.index_mut.ensures.value in
    c.requires.arrived.kept port there

pub returns-in-Ok-clause-keeps : goal.returns-in-Ok-clause-keeps
returns-in-Ok-clause-keeps g c =
    let test = g.P.TakePolicy.policy in
    let tells = g.D.Disk.tells in
    let seen = g.D.Disk.seen in
    let plan = g.N.Plan.coordinator in
    let rings = g.N.Wires.rings in
    let arrived = c.args.arrived in
    let old = c.args.self.now in
    let held = c.requires.keeps in
    let k = held.keeps in
    let past = coord_past_of plan k.turns in
    let ports = c.args.self.now.ports.items in
    let from : Port = c.index.result.now in
    let at : slice_get ports arrived.place ≡ Some from = slice_get_read ports (length ports) arrived.place from refl c.requires.arrived.within c.index.ensures in
    let among = port_among rings plan ports arrived.place from k.planned at in
    let envelope = c.in-Some.envelope in
    let step = c.in-Ok.step in
    let bears : BearsFrom arrived.packet envelope = record { in_range = c.in-Some.ensures.in_range; spelled = c.in-Some.ensures.spelled; small = omega (arith, c.if-envelope-ge-MOST_STAMP.false) } in
    let sends = c.in-Ok.ensures.served plan.terms plan.programs past k.standing among in
    let told : CoordLineParts = record { command = Cmd.Take from.ends.site envelope.index; answer = step.answer; sends = step.sends; after = envelope.stamp } in
    let line = coord_take_line test tells seen plan rings old c.ask.new.self c.ask.new.disk c.carry.new.self c.requires.few (clean _ _ step c.in-Ok.ensures.cause) c.carry.ensures.beside c.carry.ensures.moved_on arrived held from envelope step at bears sends told refl
    (c.carry.ensures.carried tells (seen c.ask.new.disk)) in
    line.keeps

pub returns-in-Ok-clause-takes : goal.returns-in-Ok-clause-takes
returns-in-Ok-clause-takes g c =
    let test = g.P.TakePolicy.policy in
    let tells = g.D.Disk.tells in
    let seen = g.D.Disk.seen in
    let plan = g.N.Plan.coordinator in
    let rings = g.N.Wires.rings in
    let arrived = c.args.arrived in
    let old = c.args.self.now in
    let held = c.requires.keeps in
    let k = held.keeps in
    let past = coord_past_of plan k.turns in
    let ports = c.args.self.now.ports.items in
    let from : Port = c.index.result.now in
    let at : slice_get ports arrived.place ≡ Some from = slice_get_read ports (length ports) arrived.place from refl c.requires.arrived.within c.index.ensures in
    let among = port_among rings plan ports arrived.place from k.planned at in
    let envelope = c.in-Some.envelope in
    let step = c.in-Ok.step in
    let bears : BearsFrom arrived.packet envelope = record { in_range = c.in-Some.ensures.in_range; spelled = c.in-Some.ensures.spelled; small = omega (arith, c.if-envelope-ge-MOST_STAMP.false) } in
    let sends = c.in-Ok.ensures.served plan.terms plan.programs past k.standing among in
    let told : CoordLineParts = record { command = Cmd.Take from.ends.site envelope.index; answer = step.answer; sends = step.sends; after = envelope.stamp } in
    let line = coord_take_line test tells seen plan rings old c.ask.new.self c.ask.new.disk c.carry.new.self c.requires.few (clean _ _ step c.in-Ok.ensures.cause) c.carry.ensures.beside c.carry.ensures.moved_on arrived held from envelope step at bears sends told refl
    (c.carry.ensures.carried tells (seen c.ask.new.disk)) in
    let p = k.planned.each arrived.place from at in
    record {
      member = p.member;
      at = p.at;
      bears = Some envelope;
      read = bears;
      taken = subst (λ (site : SiteId). MakesOne old.lines.items c.carry.new.self.lines.items (Cmd.Take site envelope.index) true) p.site (record { answer = step.answer; adds = line.adds; says = refl });
    }

pub returns-in-Ok-clause-others : goal.returns-in-Ok-clause-others
returns-in-Ok-clause-others g c = coord_view_beside (record c.args.self.now { manager = c.ask.new.self; disk = c.ask.new.disk }) c.carry.new.self c.carry.ensures.beside

pub returns-in-Err-clause-failed : goal.returns-in-Err-clause-failed
returns-in-Err-clause-failed g c =
    let test = g.P.TakePolicy.policy in
    let tells = g.D.Disk.tells in
    let seen = g.D.Disk.seen in
    let plan = g.N.Plan.coordinator in
    let rings = g.N.Wires.rings in
    let arrived = c.args.arrived in
    let old = c.args.self.now in
    let held = c.requires.keeps in
    let k = held.keeps in
    let past = coord_past_of plan k.turns in
    let ports = c.args.self.now.ports.items in
    let from : Port = c.index.result.now in
    let at : slice_get ports arrived.place ≡ Some from = slice_get_read ports (length ports) arrived.place from refl c.requires.arrived.within c.index.ensures in
    let among = port_among rings plan ports arrived.place from k.planned at in
    let envelope = c.in-Some.envelope in
    let port : Port = c.index_mut.result.now in
    let there : slice_get ports arrived.place ≡ Some port = slice_get_read ports (length ports) arrived.place port refl c.requires.arrived.within c.index_mut.ensures.value in
    let bears : BearsFrom arrived.packet envelope = record { in_range = c.in-Some.ensures.in_range; spelled = c.in-Some.ensures.spelled; small = omega (arith, c.if-envelope-ge-MOST_STAMP.false) } in
    let same : port ≡ from = same_Some port from (sym there ∙ at) in
    let unfinished = subst (λ (other : Port). IsCoordUnfinished plan (backs_of (slice_set ports arrived.place (with_inlet port c.put_back.new.self))) k.turns (Ev.Take other.ends.site envelope.message)) same
    (unfinished_take test tells seen plan rings ports k.turns arrived port c.put_back.new.self envelope k.planned c.requires.arrived.within there c.put_back.ensures.back bears) in
    back_keeps test tells seen plan rings arrived old held c.ask.new.self c.ask.new.disk _ c.in-Err.why (Ev.Take from.ends.site envelope.message)
    (was_put_back ports arrived port c.put_back.new.self c.requires.arrived.within there c.put_back.ensures.ring c.put_back.ensures.taken) unfinished
    (c.in-Err.ensures.failed plan.terms plan.programs past k.standing among) c.in-Err.ensures.cause

pub returns-in-Err-clause-back : goal.returns-in-Err-clause-back
returns-in-Err-clause-back g c =
    let ports = c.args.self.now.ports.items in
    let arrived = c.args.arrived in
    let port : Port = c.index_mut.result.now in
    let there : slice_get ports arrived.place ≡ Some port = slice_get_read ports (length ports) arrived.place port refl c.requires.arrived.within c.index_mut.ensures.value in
    was_put_back ports arrived port c.put_back.new.self c.requires.arrived.within there c.put_back.ensures.ring c.put_back.ensures.taken
