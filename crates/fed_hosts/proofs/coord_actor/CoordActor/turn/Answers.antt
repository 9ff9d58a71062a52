use Rattle.std.proofs.Common.{◌≡◌, ◌+◌, ◌<◌, Bool, inl, inr, false, Some, length, refl, sym, ◌∙◌, subst, arith}
use Rattle.host_laws.specs.CoordTurns.{coord_past_of}
use Rattle.host_laws.specs.Plans.{most_lines}
use Rattle.fed_hosts.specs.CoordRooms.{HasCoordRoom}
use Rattle.fed_hosts.specs.CoordTurns.{RestartsCoord}
use Rattle.fed_hosts.specs.CoordViews.{CoordView, coord_view_of}
use Rattle.fed_hosts.specs.Ports.{empties_of, tooks_of}
use Rattle.fed_hosts.proofs.CoordArmed.{coord_as_many}
use Rattle.fed_hosts.proofs.CoordSame.{coord_view_same}
use Rattle.fed_hosts.proofs.CoordServed.{coord_keeps_same}
use Rattle.fed_hosts.proofs.CoordTurning.{holds_arrived, keeps_none, room_polled}
use Rattle.fed_hosts.proofs.CoordViews.{coord_keeps_seen, coord_same_but, hears_from, hears_nothing, put_back_from, taken_one}
use Rattle.fed_hosts.proofs.Views.{err_map, ok_map}
use Rattle.fed_hosts.proofs.Words.{ok_so}
use Rattle.fed_hosts.proofs.coord_actor.CoordActor.turn.Goals as goal

pub returns-then-len-ge-MOST_LINES-clause-turned : goal.returns-then-len-ge-MOST_LINES-clause-turned
returns-then-len-ge-MOST_LINES-clause-turned g c =
    let k = c.requires.keeps in
    let old = c.args.self.now in
    let short = k.kept.logged.short in
    let count = coord_as_many g.N.Plan.coordinator k.turns old k.kept.logged in
    inl (omega (arith, count, short, old.lines.ok.0, c.len.ensures, c.if-len-ge-MOST_LINES.true), refl, refl)

pub returns-then-is_err-clause-same : goal.returns-then-is_err-clause-same
returns-then-is_err-clause-same g c =
    coord_same_but (coord_view_of c.reserve.new.self false) (coord_view_of c.args.self.now false) (coord_view_same c.args.self.now c.reserve.new.self c.reserve.ensures.same c.reserve.ensures.first false)

pub returns-then-is_down-clause-turned : goal.returns-then-is_down-clause-turned
returns-then-is_down-clause-turned g c =
    let old = c.args.self.now in
    let ready = c.reserve.new.self in
    let same = c.reserve.ensures.same in
    let test = g.P.TakePolicy.policy in
    let tells = g.D.Disk.tells in
    let seen = g.D.Disk.seen in
    let plan = g.N.Plan.coordinator in
    let rings = g.N.Wires.rings in
    let k = c.requires.keeps in
    let past = coord_past_of plan k.turns in
    let standing = (coord_keeps_same test tells seen plan rings old ready same k).standing in
    let down = c.is_down.ensures plan.terms past (c.core.ensures.stood tells (seen ready.disk) plan.terms plan.programs past standing).holds in
    let few : length old.lines.items < most_lines = omega (arith, old.lines.ok.0, c.len.ensures, c.if-len-ge-MOST_LINES.false) in
    let shown = coord_view_same old ready same c.reserve.ensures.first false in
    let is_seen = coord_keeps_seen test tells seen plan rings false false old k in
    let new = coord_view_of c.start.new.self false in
    ok_map c.start.result (λ (made : Bool) (r : RestartsCoord (coord_view_of ready false) new made).
    inr (few, record { turns = k.turns; seen = is_seen; does = inl (sym down ∙ c.if-is_down.true, subst (λ (v : CoordView). RestartsCoord v new made) shown r) })) c.start.ensures.turned

pub returns-then-is_down-clause-same : goal.returns-then-is_down-clause-same
returns-then-is_down-clause-same g c =
    let old = coord_view_of c.args.self.now false in
    let ready = coord_view_of c.reserve.new.self false in
    let new = coord_view_of c.start.new.self false in
    let shown = coord_view_same c.args.self.now c.reserve.new.self c.reserve.ensures.same c.reserve.ensures.first false in
    err_map c.start.result (λ (e : new ≡ ready). coord_same_but new old (e ∙ shown)) c.start.ensures.same

pub returns-in-Ok-clause-turned : goal.returns-in-Ok-clause-turned
returns-in-Ok-clause-turned g c =
    let old = c.args.self.now in
    let ready = c.reserve.new.self in
    let same = c.reserve.ensures.same in
    let test = g.P.TakePolicy.policy in
    let tells = g.D.Disk.tells in
    let seen = g.D.Disk.seen in
    let plan = g.N.Plan.coordinator in
    let rings = g.N.Wires.rings in
    let k = c.requires.keeps in
    let past = coord_past_of plan k.turns in
    let standing = (coord_keeps_same test tells seen plan rings old ready same k).standing in
    let down = c.is_down.ensures plan.terms past (c.core.ensures.stood tells (seen ready.disk) plan.terms plan.programs past standing).holds in
    let few : length old.lines.items < most_lines = omega (arith, old.lines.ok.0, c.len.ensures, c.if-len-ge-MOST_LINES.false) in
    let shown = coord_view_same old ready same c.reserve.ensures.first false in
    let is_seen = coord_keeps_seen test tells seen plan rings false false old k in
    let arrived = c.in-Some.arrived in
    let mid = record ready { ports = c.next_arrived.new.ports } in
    let heard = coord_view_of c.hear.new.self false in
    let up = sym down ∙ c.if-is_down.false in
    let count = same.ports.count ∙ k.planned.count in
    inr (
      few,
      record {
        turns = k.turns;
        seen = is_seen;
        does = inr (
          up,
          inl (hears_from plan (length ready.ports.items) arrived.place (arrived.place + 1) arrived.packet (coord_view_of old false) (coord_view_of ready false) heard (tooks_of mid.ports.items) (empties_of mid.ports.items) c.in-Ok.made shown
              c.in-Ok.ensures.others count c.in-Ok.ensures.takes (taken_one ready.ports.items mid.ports.items arrived c.in-Some.ensures.polled) c.in-Some.ensures.passed refl),
        );
      },
    )

pub returns-in-Err-clause-same : goal.returns-in-Err-clause-same
returns-in-Err-clause-same g c =
    put_back_from c.args.self.now c.reserve.new.self c.hear.new.self c.next_arrived.new.ports.items c.in-Some.arrived c.reserve.ensures.same c.reserve.ensures.first c.in-Some.ensures.polled c.in-Err.ensures.same c.in-Err.ensures.back
    c.hear.ensures.first

pub returns-in-None-clause-turned : goal.returns-in-None-clause-turned
returns-in-None-clause-turned g c =
    let old = c.args.self.now in
    let ready = c.reserve.new.self in
    let same = c.reserve.ensures.same in
    let test = g.P.TakePolicy.policy in
    let tells = g.D.Disk.tells in
    let seen = g.D.Disk.seen in
    let plan = g.N.Plan.coordinator in
    let rings = g.N.Wires.rings in
    let k = c.requires.keeps in
    let past = coord_past_of plan k.turns in
    let standing = (coord_keeps_same test tells seen plan rings old ready same k).standing in
    let down = c.is_down.ensures plan.terms past (c.core.ensures.stood tells (seen ready.disk) plan.terms plan.programs past standing).holds in
    let few : length old.lines.items < most_lines = omega (arith, old.lines.ok.0, c.len.ensures, c.if-len-ge-MOST_LINES.false) in
    let shown = coord_view_same old ready same c.reserve.ensures.first false in
    let is_seen = coord_keeps_seen test tells seen plan rings false false old k in
    inr (
      few,
      record {
        turns = k.turns;
        seen = is_seen;
        does = inr (sym down ∙ c.if-is_down.false, inr (hears_nothing (coord_view_of old false) ready c.next_arrived.new.ports shown c.in-None.ensures.polled c.in-None.ensures.none));
      },
    )

pub hear-requires-clause-room : goal.hear-requires-clause-room
hear-requires-clause-room g c =
    let ready = c.reserve.new.self in
    let room : HasCoordRoom ready = ok_so c.reserve.result (sym c.is_err.ensures.value ∙ c.if-is_err.false) c.reserve.ensures.room in
    let count = c.in-Some.ensures.polled.count in
    let fits = room.places.fits in
    record {
      lines = room.lines;
      ports = room_polled (Some c.in-Some.arrived) ready.ports.items c.next_arrived.new.ports.items c.in-Some.ensures.polled room.ports;
      places = record { none = room.places.none; fits = omega (arith, count, fits) };
    }

pub hear-requires-clause-keeps : goal.hear-requires-clause-keeps
hear-requires-clause-keeps g c =
    let test = g.P.TakePolicy.policy in
    let tells = g.D.Disk.tells in
    let seen = g.D.Disk.seen in
    let plan = g.N.Plan.coordinator in
    let rings = g.N.Wires.rings in
    let ready = c.reserve.new.self in
    holds_arrived test tells seen plan rings ready c.next_arrived.new.ports c.in-Some.arrived c.in-Some.ensures.polled (coord_keeps_same test tells seen plan rings c.args.self.now ready c.reserve.ensures.same c.requires.keeps)

pub returns-in-None-clause-keeps : goal.returns-in-None-clause-keeps
returns-in-None-clause-keeps g c =
    let test = g.P.TakePolicy.policy in
    let tells = g.D.Disk.tells in
    let seen = g.D.Disk.seen in
    let plan = g.N.Plan.coordinator in
    let rings = g.N.Wires.rings in
    let ready = c.reserve.new.self in
    keeps_none test tells seen plan rings ready c.next_arrived.new.ports c.in-None.ensures.polled (coord_keeps_same test tells seen plan rings c.args.self.now ready c.reserve.ensures.same c.requires.keeps)

pub returns-then-is_err-clause-failed : goal.returns-then-is_err-clause-failed
returns-then-is_err-clause-failed g c =
    coord_keeps_same g.P.TakePolicy.policy g.D.Disk.tells g.D.Disk.seen g.N.Plan.coordinator g.N.Wires.rings c.args.self.now c.reserve.new.self c.reserve.ensures.same c.requires.keeps

pub start-requires-clause-keeps : goal.start-requires-clause-keeps
start-requires-clause-keeps g c =
    coord_keeps_same g.P.TakePolicy.policy g.D.Disk.tells g.D.Disk.seen g.N.Plan.coordinator g.N.Wires.rings c.args.self.now c.reserve.new.self c.reserve.ensures.same c.requires.keeps
