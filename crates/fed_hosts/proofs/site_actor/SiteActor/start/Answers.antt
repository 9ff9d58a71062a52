use Rattle.std.proofs.Common.{false, None, IfErr, refl, sym, ap, subst}
use Rattle.mdb_base.specs.declared.names.SiteId.{SiteId}
use Rattle.fed_rules.specs.declared.commands.Command.TheVariants as Cmd
use Rattle.fed_rules.specs.declared.events.SiteEvent.TheVariants as Ev
use Rattle.fed_rules.specs.Requests.{Submits}
use Rattle.local_dbms.specs.declared.asks.SiteAsk.TheVariants as At
use Rattle.scripted_link.specs.Inlets.{taken}
use Rattle.fed_hosts.specs.Serving.{HasFailed}
use Rattle.host_laws.specs.Turns.{past_of}
use Rattle.fed_hosts.proofs.Lines.{short_past, stood_asked}
use Rattle.fed_hosts.proofs.Same.{same_self}
use Rattle.fed_hosts.proofs.Faults.{clean}
use Rattle.fed_hosts.proofs.Served.{keeps_failed}
use Rattle.fed_hosts.proofs.Turning.{start_line}
use Rattle.fed_hosts.proofs.Words.{handed_on}
use Rattle.fed_hosts.proofs.site_actor.SiteActor.start.Goals as goal

pub ask-requires-clause-stood : goal.ask-requires-clause-stood
ask-requires-clause-stood g c =
    stood_asked g.E.LocalEngine.stands g.D.Disk.tells g.D.Disk.seen g.N.Plan.sites g.N.Wires.rings (taken c.args.self.now.ends.inlet) c.args.self.now At.Back (λ home programs past short. short) c.requires.keeps

pub returns-in_err-step-clause-failed : goal.returns-in_err-step-clause-failed
returns-in_err-step-clause-failed g c =
    let stands = g.E.LocalEngine.stands in
    let tells = g.D.Disk.tells in
    let seen = g.D.Disk.seen in
    let sites = g.N.Plan.sites in
    let rings = g.N.Wires.rings in
    let old = c.args.self.now in
    let new = record old { dbms = c.ask.new.self; disk = c.ask.new.disk } in
    let k = c.requires.keeps in
    let short = short_past stands tells seen sites rings false (taken old.ends.inlet) old k in
    let why = c.in_err-step.field-0.0 in
    subst (λ r. IfErr r (HasFailed stands tells seen sites rings new)) (sym (handed_on c.from_residual.result why c.from_residual.ensures))
    (keeps_failed stands tells seen sites rings (taken old.ends.inlet) old new c.ask.new.self c.ask.new.disk why k (Submits Ev.Back)
    (λ event e. record { command = Cmd.Back old.ends.site.0; took = None; could = (ap (λ (s : SiteId). s.0) k.planned.site, refl); borne = tt; is = e })
    (c.in_err-step.ensures.failed k.plan.home k.plan.programs (past_of k.plan k.turns) k.standing short) c.in_err-step.ensures.cause (same_self new))

pub returns-clause-keeps : goal.returns-clause-keeps
returns-clause-keeps g c =
    let stands = g.E.LocalEngine.stands in
    let tells = g.D.Disk.tells in
    let seen = g.D.Disk.seen in
    let k = c.requires.keeps in
    let old = c.args.self.now in
    let short = short_past stands tells seen g.N.Plan.sites g.N.Wires.rings false (taken old.ends.inlet) old k in
    let served = c.in_ok-step.ensures.served k.plan.home k.plan.programs (past_of k.plan k.turns) k.standing short in
    (start_line stands tells seen g.N.Plan.sites g.N.Wires.rings old c.ask.new.self c.ask.new.disk c.carry.new.self c.requires.few (clean _ _ c.in_ok-step.step c.in_ok-step.ensures.cause) c.carry.ensures.beside c.carry.ensures.moved_on k c.in_ok-step.step served
    (c.carry.ensures.carried tells (seen c.ask.new.disk))).keeps

pub returns-clause-turned : goal.returns-clause-turned
returns-clause-turned g c =
    let stands = g.E.LocalEngine.stands in
    let tells = g.D.Disk.tells in
    let seen = g.D.Disk.seen in
    let k = c.requires.keeps in
    let old = c.args.self.now in
    let short = short_past stands tells seen g.N.Plan.sites g.N.Wires.rings false (taken old.ends.inlet) old k in
    let served = c.in_ok-step.ensures.served k.plan.home k.plan.programs (past_of k.plan k.turns) k.standing short in
    let line = start_line stands tells seen g.N.Plan.sites g.N.Wires.rings old c.ask.new.self c.ask.new.disk c.carry.new.self c.requires.few (clean _ _ c.in_ok-step.step c.in_ok-step.ensures.cause) c.carry.ensures.beside c.carry.ensures.moved_on k c.in_ok-step.step served
    (c.carry.ensures.carried tells (seen c.ask.new.disk)) in
    record { line = record { answer = c.in_ok-step.step.answer; adds = line.adds; says = refl }; others = line.view }
