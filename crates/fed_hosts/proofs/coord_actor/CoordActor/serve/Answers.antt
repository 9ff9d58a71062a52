use Rattle.std.proofs.Common.{◌≡◌, false, None, length, IfErr, inl, inr, refl, sym, ap, ◌∙◌, subst, arith}
use Rattle.fed_rules.specs.declared.answers.Answer.{Answer}
use Rattle.fed_rules.specs.CoordPast.{CoordPast}
use Rattle.coord_tables.specs.Terms.{Terms}
use Rattle.global_manager.proofs.ForCallers.{recalled}
use Rattle.global_manager.specs.Stands.{OwnPrograms, Stands}
use Rattle.fed_hosts.specs.declared.coord_actor.CoordLineParts.{CoordLineParts}
use Rattle.fed_hosts.specs.CoordRooms.{HasCoordRoom}
use Rattle.fed_hosts.specs.CoordServing.{HasCoordFailed, request_of_call}
use Rattle.host_laws.specs.CoordTurns.{coord_past_of}
use Rattle.fed_hosts.specs.Ports.{backs_of}
use Rattle.fed_hosts.specs.CoordViews.{MayAnswerNext, command_of_call, coord_view_of}
use Rattle.fed_hosts.proofs.CoordArmed.{coord_as_many}
use Rattle.fed_hosts.proofs.CoordAsked.{call_asks, call_failed, call_known, call_right, call_served, call_short, call_unspent, coord_call_line, full_spent, last_spent, may_answer, none_borne, request_is, unknown_unspent}
use Rattle.fed_hosts.proofs.CoordOwn.{soft_call}
use Rattle.fed_hosts.proofs.CoordSame.{coord_kept_for, coord_view_same, same_coord}
use Rattle.fed_hosts.proofs.CoordServed.{coord_keeps_failed, coord_keeps_same, coord_line_adds, coord_line_view}
use Rattle.fed_hosts.proofs.CoordTurning.{coord_last_fits, coord_line_ready, stood_managed}
use Rattle.fed_hosts.proofs.CoordViews.{coord_keeps_seen}
use Rattle.fed_hosts.proofs.Faults.{clean}
use Rattle.fed_hosts.proofs.Words.{handed_on, ok_so}
use Rattle.fed_hosts.proofs.coord_actor.CoordActor.serve.Goals as goal

pub returns-then-len-ge-MOST_LINES-clause-served : goal.returns-then-len-ge-MOST_LINES-clause-served
returns-then-len-ge-MOST_LINES-clause-served g c =
    let test = g.P.TakePolicy.policy in
    let tells = g.D.Disk.tells in
    let seen = g.D.Disk.seen in
    let plan = g.N.Plan.coordinator in
    let rings = g.N.Wires.rings in
    let old = c.args.self.now in
    let k = c.requires.keeps in
    let short = k.kept.logged.short in
    let count = coord_as_many plan k.turns old k.kept.logged in
    record {
      turns = k.turns;
      seen = coord_keeps_seen test tells seen plan rings false false old k;
      served = inl (full_spent plan k.turns c.args.call old.lines.items (omega (arith, count, short, old.lines.ok.0, c.len.ensures, c.if-len-ge-MOST_LINES.true)), refl, refl);
    }

pub returns-then-is_unknown-clause-served : goal.returns-then-is_unknown-clause-served
returns-then-is_unknown-clause-served g c =
    let test = g.P.TakePolicy.policy in
    let tells = g.D.Disk.tells in
    let seen = g.D.Disk.seen in
    let plan = g.N.Plan.coordinator in
    let rings = g.N.Wires.rings in
    let old = c.args.self.now in
    let k = c.requires.keeps in
    let past = coord_past_of plan k.turns in
    let unknown = c.is_unknown.ensures.unknown c.if-is_unknown.true plan.terms plan.programs past (recalled test tells old.manager (seen old.disk) plan.terms plan.programs past k.standing) in
    record {
      turns = k.turns;
      seen = coord_keeps_seen test tells seen plan rings false false old k;
      served = inr (unknown_unspent plan k.turns c.args.call old.lines.items (omega (arith, old.lines.ok.0, c.len.ensures, c.if-len-ge-MOST_LINES.false)) unknown, inl (unknown, refl, refl));
    }

pub returns-then-is_last-clause-served : goal.returns-then-is_last-clause-served
returns-then-is_last-clause-served g c =
    let test = g.P.TakePolicy.policy in
    let tells = g.D.Disk.tells in
    let seen = g.D.Disk.seen in
    let plan = g.N.Plan.coordinator in
    let rings = g.N.Wires.rings in
    let old = c.args.self.now in
    let k = c.requires.keeps in
    let past = coord_past_of plan k.turns in
    let recalls = recalled test tells old.manager (seen old.disk) plan.terms plan.programs past k.standing in
    let known = c.if-is_unknown.ensures.known refl plan.terms plan.programs past recalls in
    let last = c.is_last.ensures.spent c.if-is_last.true plan.terms plan.programs past recalls in
    record {
      turns = k.turns;
      seen = coord_keeps_seen test tells seen plan rings false false old k;
      served = inl (last_spent plan k.turns old c.args.call k.kept.logged known last, refl, refl);
    }

pub ask-requires-clause-stood : goal.ask-requires-clause-stood
ask-requires-clause-stood g c =
    let test = g.P.TakePolicy.policy in
    let tells = g.D.Disk.tells in
    let seen = g.D.Disk.seen in
    let plan = g.N.Plan.coordinator in
    let rings = g.N.Wires.rings in
    let ready = c.reserve.new.self in
    let k = coord_keeps_same test tells seen plan rings c.args.self.now ready c.reserve.ensures.same c.requires.keeps in
    stood_managed test tells seen plan rings ready.ports.items ready c.ask_of.result k (call_asks c.ask_of.result c.args.call c.ask_of.ensures plan.terms plan.programs (coord_past_of plan k.turns))

pub returns-in_err-step-clause-failed : goal.returns-in_err-step-clause-failed
returns-in_err-step-clause-failed g c =
    let test = g.P.TakePolicy.policy in
    let tells = g.D.Disk.tells in
    let seen = g.D.Disk.seen in
    let plan = g.N.Plan.coordinator in
    let rings = g.N.Wires.rings in
    let ready = c.reserve.new.self in
    let new = record ready { manager = c.ask.new.self; disk = c.ask.new.disk } in
    let k = coord_keeps_same test tells seen plan rings c.args.self.now ready c.reserve.ensures.same c.requires.keeps in
    let past = coord_past_of plan k.turns in
    let why = c.in_err-step.field-0.0 in
    let old = c.args.self.now in
    let recalls = recalled test tells old.manager (seen old.disk) plan.terms plan.programs past c.requires.keeps.standing in
    let known = c.if-is_unknown.ensures.known refl plan.terms plan.programs past recalls in
    let K : Terms → OwnPrograms → CoordPast → Type 0 = Stands test tells ready.manager (seen ready.disk) in
    let L : Terms → OwnPrograms → CoordPast → Type 0 = Stands test tells c.ask.new.self (seen c.ask.new.disk) in
    let failed = call_failed c.ask_of.result c.args.call c.ask_of.ensures K L why c.in_err-step.ensures.failed in
    subst (λ r. IfErr r (HasCoordFailed test tells seen plan rings new)) (sym (handed_on c.from_residual.result why c.from_residual.ensures))
    (coord_keeps_failed test tells seen plan rings ready.ports.items ready new c.ask.new.self c.ask.new.disk why k (request_of_call plan.terms plan.programs past c.args.call)
    (λ event e. record {
      command = command_of_call c.args.call;
      took = None;
      could = call_known plan k.turns c.args.call known;
      borne = none_borne plan (backs_of new.ports.items) c.args.call;
      is = request_is plan past c.args.call ∙ e;
    })
    (failed plan.terms plan.programs past k.standing) c.in_err-step.ensures.cause (same_coord new))

pub again-copy-requires : goal.again-copy-requires
again-copy-requires g c =
    let test = g.P.TakePolicy.policy in
    let tells = g.D.Disk.tells in
    let seen = g.D.Disk.seen in
    let plan = g.N.Plan.coordinator in
    let rings = g.N.Wires.rings in
    let ready = c.reserve.new.self in
    let k = coord_keeps_same test tells seen plan rings c.args.self.now ready c.reserve.ensures.same c.requires.keeps in
    let past = coord_past_of plan k.turns in
    let r = request_of_call plan.terms plan.programs past c.args.call in
    let K : Terms → OwnPrograms → CoordPast → Type 0 = Stands test tells ready.manager (seen ready.disk) in
    let L : Terms → OwnPrograms → CoordPast → Type 0 = Stands test tells c.ask.new.self (seen c.ask.new.disk) in
    let served = call_served c.ask_of.result c.args.call c.ask_of.ensures K L c.in_ok-step.step c.in_ok-step.ensures.served plan.terms plan.programs past k.standing in
    call_short plan.terms past c.args.call r c.in_ok-step.step.answer (soft_call plan.terms plan.programs past c.args.call)
    (may_answer plan.terms plan.programs past L r c.in_ok-step.step served)

pub carry-requires-clause-ready : goal.carry-requires-clause-ready
carry-requires-clause-ready g c =
    let test = g.P.TakePolicy.policy in
    let tells = g.D.Disk.tells in
    let seen = g.D.Disk.seen in
    let plan = g.N.Plan.coordinator in
    let rings = g.N.Wires.rings in
    let ready = c.reserve.new.self in
    let k = coord_keeps_same test tells seen plan rings c.args.self.now ready c.reserve.ensures.same c.requires.keeps in
    let mid = record ready { manager = c.ask.new.self; disk = c.ask.new.disk } in
    let step = c.in_ok-step.step in
    let told : CoordLineParts = record { command = c.command.result; answer = step.answer; sends = step.sends; after = 0 } in
    let room : HasCoordRoom ready = ok_so c.reserve.result (sym c.is_err.ensures.value ∙ c.if-is_err.false) c.reserve.ensures.room in
    coord_line_ready mid plan k.turns told (coord_kept_for ready c.ask.new.self c.ask.new.disk plan k.turns k.kept) (record { lines = room.lines; ports = room.ports; places = room.places }) (omega arith)

pub carry-requires-clause-last : goal.carry-requires-clause-last
carry-requires-clause-last g c =
    let test = g.P.TakePolicy.policy in
    let tells = g.D.Disk.tells in
    let seen = g.D.Disk.seen in
    let plan = g.N.Plan.coordinator in
    let rings = g.N.Wires.rings in
    let ready = c.reserve.new.self in
    let k = coord_keeps_same test tells seen plan rings c.args.self.now ready c.reserve.ensures.same c.requires.keeps in
    coord_last_fits ready plan k.turns k.kept

pub returns-clause-keeps : goal.returns-clause-keeps
returns-clause-keeps g c =
    let test = g.P.TakePolicy.policy in
    let tells = g.D.Disk.tells in
    let seen = g.D.Disk.seen in
    let plan = g.N.Plan.coordinator in
    let rings = g.N.Wires.rings in
    let old = c.args.self.now in
    let ready = c.reserve.new.self in
    let now = c.requires.keeps in
    let k = coord_keeps_same test tells seen plan rings old ready c.reserve.ensures.same now in
    let past = coord_past_of plan k.turns in
    let step = c.in_ok-step.step in
    let K : Terms → OwnPrograms → CoordPast → Type 0 = Stands test tells ready.manager (seen ready.disk) in
    let L : Terms → OwnPrograms → CoordPast → Type 0 = Stands test tells c.ask.new.self (seen c.ask.new.disk) in
    let served = call_served c.ask_of.result c.args.call c.ask_of.ensures K L c.in_ok-step.step c.in_ok-step.ensures.served plan.terms plan.programs past k.standing in
    let recalls = recalled test tells old.manager (seen old.disk) plan.terms plan.programs past now.standing in
    let known = c.if-is_unknown.ensures.known refl plan.terms plan.programs past recalls in
    let may = c.if-is_last.ensures.left refl plan.terms plan.programs past recalls in
    let count = ap length c.reserve.ensures.same.lines in
    let told : CoordLineParts = record { command = c.command.result; answer = step.answer; sends = step.sends; after = 0 } in
    let line = coord_call_line test tells seen plan rings ready c.ask.new.self c.ask.new.disk c.carry.new.self c.args.call told k refl c.command.ensures served known may
    (omega (arith, count, old.lines.ok.0, c.len.ensures, c.if-len-ge-MOST_LINES.false)) (clean _ _ step c.in_ok-step.ensures.cause) (c.carry.ensures.carried tells (seen c.ask.new.disk)) c.carry.ensures.beside c.carry.ensures.moved_on in
    line.keeps

pub returns-clause-served : goal.returns-clause-served
returns-clause-served g c =
    let test = g.P.TakePolicy.policy in
    let tells = g.D.Disk.tells in
    let seen = g.D.Disk.seen in
    let plan = g.N.Plan.coordinator in
    let rings = g.N.Wires.rings in
    let old = c.args.self.now in
    let ready = c.reserve.new.self in
    let now = c.requires.keeps in
    let k = coord_keeps_same test tells seen plan rings old ready c.reserve.ensures.same now in
    let past = coord_past_of plan k.turns in
    let step = c.in_ok-step.step in
    let K : Terms → OwnPrograms → CoordPast → Type 0 = Stands test tells ready.manager (seen ready.disk) in
    let L : Terms → OwnPrograms → CoordPast → Type 0 = Stands test tells c.ask.new.self (seen c.ask.new.disk) in
    let served = call_served c.ask_of.result c.args.call c.ask_of.ensures K L c.in_ok-step.step c.in_ok-step.ensures.served plan.terms plan.programs past k.standing in
    let recalls = recalled test tells old.manager (seen old.disk) plan.terms plan.programs past now.standing in
    let known = c.if-is_unknown.ensures.known refl plan.terms plan.programs past recalls in
    let may = c.if-is_last.ensures.left refl plan.terms plan.programs past recalls in
    let count = ap length c.reserve.ensures.same.lines in
    let told : CoordLineParts = record { command = c.command.result; answer = step.answer; sends = step.sends; after = 0 } in
    let line = coord_call_line test tells seen plan rings ready c.ask.new.self c.ask.new.disk c.carry.new.self c.args.call told k refl c.command.ensures served known may
    (omega (arith, count, old.lines.ok.0, c.len.ensures, c.if-len-ge-MOST_LINES.false)) (clean _ _ step c.in_ok-step.ensures.cause) (c.carry.ensures.carried tells (seen c.ask.new.disk)) c.carry.ensures.beside c.carry.ensures.moved_on in
    record {
      turns = k.turns;
      seen = coord_keeps_seen test tells seen plan rings false false old now;
      served = inr (
        call_unspent plan k.turns c.args.call old.lines.items (omega (arith, old.lines.ok.0, c.len.ensures, c.if-len-ge-MOST_LINES.false)) may,
        inr (
          known,
          record {
            others = coord_line_view test tells seen plan rings old ready c.carry.new.self told c.reserve.ensures.same c.reserve.ensures.first line;
            adds = coord_line_adds test tells seen plan rings old ready c.carry.new.self told (command_of_call c.args.call) c.again-copy.result c.reserve.ensures.same line c.command.ensures (sym c.again-copy.ensures);
            right = subst (λ (a : Answer). MayAnswerNext plan k.turns c.args.call a) (sym c.again-copy.ensures)
                (call_right plan k.turns c.args.call step.answer (may_answer plan.terms plan.programs past L (request_of_call plan.terms plan.programs past c.args.call) step served));
          },
        ),
      );
    }

pub returns-then-is_err-clause-failed : goal.returns-then-is_err-clause-failed
returns-then-is_err-clause-failed g c =
    coord_keeps_same g.P.TakePolicy.policy g.D.Disk.tells g.D.Disk.seen g.N.Plan.coordinator g.N.Wires.rings c.args.self.now c.reserve.new.self c.reserve.ensures.same c.requires.keeps

pub returns-then-is_err-clause-same : goal.returns-then-is_err-clause-same
returns-then-is_err-clause-same g c = coord_view_same c.args.self.now c.reserve.new.self c.reserve.ensures.same c.reserve.ensures.first false

pub returns-in_err-step-clause-same : goal.returns-in_err-step-clause-same
returns-in_err-step-clause-same g c =
    let old = c.args.self.now in
    let ready = c.reserve.new.self in
    let why = c.in_err-step.field-0.0 in
    subst (λ r. IfErr r (λ w. coord_view_of ready false ≡ coord_view_of old false)) (sym (handed_on c.from_residual.result why c.from_residual.ensures)) (coord_view_same old ready c.reserve.ensures.same c.reserve.ensures.first false)

pub carry-requires-clause-room : goal.carry-requires-clause-room
carry-requires-clause-room g c =
    let room : HasCoordRoom c.reserve.new.self = ok_so c.reserve.result (sym c.is_err.ensures.value ∙ c.if-is_err.false) c.reserve.ensures.room in
    record { lines = room.lines; ports = room.ports; places = room.places }
