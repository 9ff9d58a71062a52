use Rattle.std.proofs.Common.{IfErr, None, refl, sym, subst, arith}
use Rattle.fed_rules.specs.declared.commands.Command.TheVariants as Cmd
use Rattle.fed_rules.specs.declared.events.CoordEvent.TheVariants as Ev
use Rattle.fed_rules.specs.Requests.{Submits}
use Rattle.global_manager.specs.declared.asks.CoordAsk.TheVariants as Coord
use Rattle.fed_hosts.specs.declared.coord_actor.CoordLineParts.{CoordLineParts}
use Rattle.fed_hosts.specs.CoordServing.{HasCoordFailed}
use Rattle.host_laws.specs.CoordTurns.{coord_past_of}
use Rattle.fed_hosts.proofs.CoordSame.{coord_kept_for, same_coord}
use Rattle.fed_hosts.proofs.CoordServed.{coord_keeps_failed}
use Rattle.fed_hosts.proofs.CoordTurning.{coord_last_fits, coord_line_ready, coord_start_line, stood_managed}
use Rattle.fed_hosts.proofs.Faults.{clean}
use Rattle.fed_hosts.proofs.Words.{handed_on}
use Rattle.fed_hosts.proofs.coord_actor.CoordActor.start.Goals as goal

pub ask-requires-clause-stood : goal.ask-requires-clause-stood
ask-requires-clause-stood g c =
    stood_managed g.P.TakePolicy.policy g.D.Disk.tells g.D.Disk.seen g.N.Plan.coordinator g.N.Wires.rings c.args.self.now.ports.items c.args.self.now Coord.Back c.requires.keeps tt

pub returns-in_err-step-clause-failed : goal.returns-in_err-step-clause-failed
returns-in_err-step-clause-failed g c =
    let test = g.P.TakePolicy.policy in
    let tells = g.D.Disk.tells in
    let seen = g.D.Disk.seen in
    let plan = g.N.Plan.coordinator in
    let rings = g.N.Wires.rings in
    let old = c.args.self.now in
    let new = record old { manager = c.ask.new.self; disk = c.ask.new.disk } in
    let k = c.requires.keeps in
    let why = c.in_err-step.field-0.0 in
    subst (λ r. IfErr r (HasCoordFailed test tells seen plan rings new)) (sym (handed_on c.from_residual.result why c.from_residual.ensures))
    (coord_keeps_failed test tells seen plan rings old.ports.items old new c.ask.new.self c.ask.new.disk why k (Submits Ev.Back)
    (λ event e. record { command = Cmd.Back 0; took = None; could = (refl, refl); borne = tt; is = e })
    (c.in_err-step.ensures.failed plan.terms plan.programs (coord_past_of plan k.turns) k.standing tt) c.in_err-step.ensures.cause (same_coord new))

pub carry-requires-clause-room : goal.carry-requires-clause-room
carry-requires-clause-room g c = record { lines = c.requires.room.lines; ports = c.requires.room.ports; places = c.requires.room.places }

pub carry-requires-clause-ready : goal.carry-requires-clause-ready
carry-requires-clause-ready g c =
    let plan = g.N.Plan.coordinator in
    let k = c.requires.keeps in
    let old = c.args.self.now in
    let mid = record old { manager = c.ask.new.self; disk = c.ask.new.disk } in
    let told : CoordLineParts = record { command = Cmd.Back 0; answer = c.in_ok-step.step.answer; sends = c.in_ok-step.step.sends; after = 0 } in
    coord_line_ready mid plan k.turns told (coord_kept_for old c.ask.new.self c.ask.new.disk plan k.turns k.kept) (record { lines = c.requires.room.lines; ports = c.requires.room.ports; places = c.requires.room.places }) (omega arith)

pub carry-requires-clause-last : goal.carry-requires-clause-last
carry-requires-clause-last g c = coord_last_fits c.args.self.now g.N.Plan.coordinator c.requires.keeps.turns c.requires.keeps.kept

pub returns-clause-keeps : goal.returns-clause-keeps
returns-clause-keeps g c =
    let test = g.P.TakePolicy.policy in
    let tells = g.D.Disk.tells in
    let seen = g.D.Disk.seen in
    let plan = g.N.Plan.coordinator in
    let rings = g.N.Wires.rings in
    let k = c.requires.keeps in
    let old = c.args.self.now in
    let step = c.in_ok-step.step in
    let served = c.in_ok-step.ensures.served plan.terms plan.programs (coord_past_of plan k.turns) k.standing tt in
    let told : CoordLineParts = record { command = Cmd.Back 0; answer = step.answer; sends = step.sends; after = 0 } in
    (coord_start_line test tells seen plan rings old c.ask.new.self c.ask.new.disk c.carry.new.self c.requires.few (clean _ _ step c.in_ok-step.ensures.cause) c.carry.ensures.beside c.carry.ensures.moved_on k step served told refl
    (c.carry.ensures.carried tells (seen c.ask.new.disk))).keeps

pub returns-clause-turned : goal.returns-clause-turned
returns-clause-turned g c =
    let test = g.P.TakePolicy.policy in
    let tells = g.D.Disk.tells in
    let seen = g.D.Disk.seen in
    let plan = g.N.Plan.coordinator in
    let rings = g.N.Wires.rings in
    let k = c.requires.keeps in
    let old = c.args.self.now in
    let step = c.in_ok-step.step in
    let served = c.in_ok-step.ensures.served plan.terms plan.programs (coord_past_of plan k.turns) k.standing tt in
    let told : CoordLineParts = record { command = Cmd.Back 0; answer = step.answer; sends = step.sends; after = 0 } in
    let line = coord_start_line test tells seen plan rings old c.ask.new.self c.ask.new.disk c.carry.new.self c.requires.few (clean _ _ step c.in_ok-step.ensures.cause) c.carry.ensures.beside c.carry.ensures.moved_on k step served told refl
    (c.carry.ensures.carried tells (seen c.ask.new.disk)) in
    record { line = record { answer = step.answer; adds = line.adds; says = refl }; others = line.view }
