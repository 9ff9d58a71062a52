use Rattle.std.proofs.Common.{ℕ, false, None, IfErr, inl, inr, refl, sym, ap, ◌∙◌, subst, arith}
use Rattle.fed_rules.specs.declared.commands.Command.TheVariants as Cmd
use Rattle.fed_rules.specs.declared.events.SiteEvent.TheVariants as Ev
use Rattle.fed_rules.specs.Requests.{Submits}
use Rattle.local_dbms.specs.declared.asks.SiteAsk.TheVariants as At
use Rattle.scripted_link.specs.Inlets.{taken}
use Rattle.fed_hosts.specs.declared.site_actor.LineParts.{LineParts}
use Rattle.fed_hosts.specs.Serving.{HasFailed}
use Rattle.host_laws.specs.Turns.{past_of}
use Rattle.fed_hosts.specs.Views.{view_of}
use Rattle.fed_hosts.proofs.Doubts.{first_in_doubt, none_in_doubt}
use Rattle.fed_hosts.proofs.Lines.{short_past, stood_asked, view_beside}
use Rattle.fed_hosts.proofs.Same.{kept_same, same_self}
use Rattle.fed_hosts.proofs.Faults.{clean}
use Rattle.fed_hosts.proofs.Served.{keeps_failed, keeps_same, kept_beside}
use Rattle.fed_hosts.proofs.Turning.{ask_line, last_fits, line_ready}
use Rattle.fed_hosts.proofs.Words.{handed_on}
use Rattle.fed_hosts.proofs.site_actor.SiteActor.inquire.Goals as goal

pub returns-then-self-clause-keeps : goal.returns-then-self-clause-keeps
returns-then-self-clause-keeps g c =
    keeps_same g.E.LocalEngine.stands g.D.Disk.tells g.D.Disk.seen g.N.Plan.sites g.N.Wires.rings false c.args.self.now _
    (record { dbms = refl; disk = refl; site = refl; inlet = refl; wire = refl; offers = refl; waiting = refl; free = refl; stops = refl; armed = refl; lines = refl; sent = refl; last = refl }) c.requires.keeps

pub returns-then-len-eq0-clause-keeps : goal.returns-then-len-eq0-clause-keeps
returns-then-len-eq0-clause-keeps g c =
    keeps_same g.E.LocalEngine.stands g.D.Disk.tells g.D.Disk.seen g.N.Plan.sites g.N.Wires.rings false c.args.self.now (record c.args.self.now { idle = 0 })
    (record { dbms = refl; disk = refl; site = refl; inlet = refl; wire = refl; offers = refl; waiting = refl; free = refl; stops = refl; armed = refl; lines = refl; sent = refl; last = refl }) c.requires.keeps

pub ask-requires-clause-stood : goal.ask-requires-clause-stood
ask-requires-clause-stood g c =
    stood_asked g.E.LocalEngine.stands g.D.Disk.tells g.D.Disk.seen g.N.Plan.sites g.N.Wires.rings (taken c.args.self.now.ends.inlet) c.args.self.now (At.Ask c.at.result.now.tid) (λ home programs past short. short)
    c.requires.keeps

pub returns-in_err-step-clause-failed : goal.returns-in_err-step-clause-failed
returns-in_err-step-clause-failed g c =
    let stands = g.E.LocalEngine.stands in
    let tells = g.D.Disk.tells in
    let seen = g.D.Disk.seen in
    let sites = g.N.Plan.sites in
    let rings = g.N.Wires.rings in
    let old = c.args.self.now in
    let new = record old { dbms = c.ask.new.self; disk = c.ask.new.disk } in
    let k = c.requires.keeps in
    let short = short_past stands tells seen sites rings false (taken old.ends.inlet) old k in
    let why = c.in_err-step.field-0.0 in
    subst (λ r. IfErr r (HasFailed stands tells seen sites rings new)) (sym (handed_on c.from_residual.result why c.from_residual.ensures))
    (keeps_failed stands tells seen sites rings (taken old.ends.inlet) old new c.ask.new.self c.ask.new.disk why k (Submits (Ev.Ask c.at.result.now.tid))
    (λ event e. record { command = Cmd.Ask old.ends.site c.at.result.now.tid; took = None; could = (k.planned.site, refl); borne = tt; is = e })
    (c.in_err-step.ensures.failed k.plan.home k.plan.programs (past_of k.plan k.turns) k.standing short) c.in_err-step.ensures.cause (same_self new))

pub carry-requires-clause-room : goal.carry-requires-clause-room
carry-requires-clause-room g c = record { lines = c.requires.room.lines; sent = c.requires.room.sent; outlet = c.requires.room.outlet }

pub carry-requires-clause-ready : goal.carry-requires-clause-ready
carry-requires-clause-ready g c =
    let k = c.requires.keeps in
    let old = record c.args.self.now { idle = 0 } in
    let mid = record old { dbms = c.ask.new.self; disk = c.ask.new.disk } in
    let told : LineParts = record { command = Cmd.Ask c.args.self.now.ends.site c.at.result.now.tid; answer = c.in_ok-step.step.answer; send = c.in_ok-step.step.sends; after = 0 } in
    line_ready g.E.LocalEngine.stands g.D.Disk.tells g.D.Disk.seen g.N.Plan.sites g.N.Wires.rings mid k.plan k.turns told
    (kept_beside old c.ask.new.self c.ask.new.disk k.plan k.turns
    (kept_same c.args.self.now old (record { dbms = refl; disk = refl; site = refl; inlet = refl; wire = refl; offers = refl; waiting = refl; free = refl; stops = refl; armed = refl; lines = refl; sent = refl; last = refl }) k.plan k.turns k.kept))
    (record { lines = c.requires.room.lines; sent = c.requires.room.sent; outlet = c.requires.room.outlet }) (omega arith)

pub carry-requires-clause-last : goal.carry-requires-clause-last
carry-requires-clause-last g c =
    let k = c.requires.keeps in
    last_fits g.E.LocalEngine.stands g.D.Disk.tells g.D.Disk.seen g.N.Plan.sites g.N.Wires.rings c.args.self.now k.plan k.turns k.kept

pub returns-clause-keeps : goal.returns-clause-keeps
returns-clause-keeps g c =
    let stands = g.E.LocalEngine.stands in
    let tells = g.D.Disk.tells in
    let seen = g.D.Disk.seen in
    let sites = g.N.Plan.sites in
    let rings = g.N.Wires.rings in
    let k = c.requires.keeps in
    let old = record c.args.self.now { idle = 0 } in
    let now = keeps_same stands tells seen sites rings false c.args.self.now old (record { dbms = refl; disk = refl; site = refl; inlet = refl; wire = refl; offers = refl; waiting = refl; free = refl; stops = refl; armed = refl; lines = refl; sent = refl; last = refl }) k in
    let short = short_past stands tells seen sites rings false (taken c.args.self.now.ends.inlet) c.args.self.now k in
    let sends = c.in_ok-step.ensures.served k.plan.home k.plan.programs (past_of k.plan k.turns) k.standing short in
    (ask_line stands tells seen sites rings old c.ask.new.self c.ask.new.disk c.carry.new.self c.requires.few (clean _ _ c.in_ok-step.step c.in_ok-step.ensures.cause) c.carry.ensures.beside c.carry.ensures.moved_on now c.at.result.now.tid c.in_ok-step.step sends
    (c.carry.ensures.carried tells (seen c.ask.new.disk))).keeps

pub returns-then-self-clause-inquires : goal.returns-then-self-clause-inquires
returns-then-self-clause-inquires g c home programs past stood up = inl (record { few = omega (arith, c.if-self.true); idle = refl; none = record { lines = refl; says = refl } })

pub returns-then-len-eq0-clause-inquires : goal.returns-then-len-eq0-clause-inquires
returns-then-len-eq0-clause-inquires g c home programs past stood up =
    let old = c.args.self.now in
    let doubts = c.doubts-doubts.ensures home past (c.core.ensures.stood g.D.Disk.tells (g.D.Disk.seen old.disk) home programs past stood).holds up in
    inr (inr (record {
      eighth = omega (arith, c.if-self.false);
      idle = refl;
      sure = none_in_doubt home past c.doubts-doubts.result.now.doubts doubts (omega (arith, c.len.ensures.count, c.if-len-eq0.true));
      none = record { lines = refl; says = refl };
    }))

pub returns-clause-inquires : goal.returns-clause-inquires
returns-clause-inquires g c home programs past stood up =
    let stands = g.E.LocalEngine.stands in
    let tells = g.D.Disk.tells in
    let seen = g.D.Disk.seen in
    let sites = g.N.Plan.sites in
    let rings = g.N.Wires.rings in
    let k = c.requires.keeps in
    let old = record c.args.self.now { idle = 0 } in
    let now = keeps_same stands tells seen sites rings false c.args.self.now old (record { dbms = refl; disk = refl; site = refl; inlet = refl; wire = refl; offers = refl; waiting = refl; free = refl; stops = refl; armed = refl; lines = refl; sent = refl; last = refl }) k in
    let short = short_past stands tells seen sites rings false (taken c.args.self.now.ends.inlet) c.args.self.now k in
    let sends = c.in_ok-step.ensures.served k.plan.home k.plan.programs (past_of k.plan k.turns) k.standing short in
    let doubts = c.doubts-doubts.ensures home past (c.core.ensures.stood tells (seen old.disk) home programs past stood).holds up in
    let line = ask_line stands tells seen sites rings old c.ask.new.self c.ask.new.disk c.carry.new.self c.requires.few (clean _ _ c.in_ok-step.step c.in_ok-step.ensures.cause) c.carry.ensures.beside c.carry.ensures.moved_on now c.at.result.now.tid c.in_ok-step.step sends
    (c.carry.ensures.carried tells (seen c.ask.new.disk)) in
    inr (inl (record {
      eighth = omega (arith, c.if-self.false);
      idle = c.carry.ensures.beside.idle;
      tid = c.at.result.now.tid;
      least = first_in_doubt home past c.doubts-doubts.result.now.doubts c.at.result.now doubts c.len.ensures.order c.at.ensures;
      line = record { answer = c.in_ok-step.step.answer; adds = line.adds; says = refl };
    }))

pub returns-clause-others : goal.returns-clause-others
returns-clause-others g c =
    let mid = record c.args.self.now { idle = 0; dbms = c.ask.new.self; disk = c.ask.new.disk } in
    let new = c.carry.new.self in
    view_beside mid new c.carry.ensures.beside ∙ ap (λ (n : ℕ). record (view_of c.args.self.now false) { lines = new.lines.items; idle = n }) (sym c.carry.ensures.beside.idle)
