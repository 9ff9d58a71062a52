use Rattle.std.proofs.Common.{false, None, length, IfErr, IsSome, inl, inr, refl, sym, ap, ◌∙◌, subst, arith}
use Rattle.mdb_base.proofs.ForCallers.{nothing_is}
use Rattle.fed_rules.specs.SiteCommands.{own_request}
use Rattle.scripted_link.specs.Inlets.{taken}
use Rattle.local_dbms.specs.Asks.{site_request}
use Rattle.local_dbms.specs.Stands.{Stands}
use Rattle.local_dbms.proofs.ForCallers.{recalled}
use Rattle.fed_hosts.specs.declared.site_actor.LineParts.{LineParts}
use Rattle.fed_hosts.specs.Serving.{HasFailed}
use Rattle.host_laws.specs.Turns.{past_of}
use Rattle.fed_hosts.specs.Verbs.{command_of, rule_of}
use Rattle.fed_hosts.proofs.Armed.{as_many}
use Rattle.fed_hosts.proofs.Asked.{command_own, foreign_unspent, last_spent, line_unspent, next_is, request_is, soft_short, verb_may, verb_request, verb_serves}
use Rattle.fed_hosts.proofs.Calls.{call_line}
use Rattle.fed_hosts.proofs.Lines.{keeps_seen, line_adds, line_view, short_past, stood_asked}
use Rattle.fed_hosts.proofs.Own.{own_soft}
use Rattle.fed_hosts.proofs.Same.{same_self}
use Rattle.fed_hosts.proofs.Faults.{clean}
use Rattle.fed_hosts.proofs.Served.{keeps_failed, keeps_same}
use Rattle.fed_hosts.proofs.Words.{handed_on}
use Rattle.fed_hosts.proofs.site_actor.SiteActor.serve.Goals as goal

pub returns-then-len-ge-MOST_LINES-clause-served : goal.returns-then-len-ge-MOST_LINES-clause-served
returns-then-len-ge-MOST_LINES-clause-served g c =
    let k = c.requires.keeps in
    let old = c.args.self.now in
    let short = k.kept.logged.short in
    let count = as_many k.plan k.turns old k.kept.logged in
    record {
      plan = k.plan;
      turns = k.turns;
      seen = keeps_seen g.E.LocalEngine.stands g.D.Disk.tells g.D.Disk.seen g.N.Plan.sites g.N.Wires.rings false false old k;
      served = inl (inl (omega (arith, count, short, old.lines.ok.0, c.len.ensures, c.if-len-ge-MOST_LINES.true)), refl, refl);
    }

pub returns-then-not-is_own-clause-served : goal.returns-then-not-is_own-clause-served
returns-then-not-is_own-clause-served g c =
    let k = c.requires.keeps in
    let old = c.args.self.now in
    let past = past_of k.plan k.turns in
    let test = c.is_own.ensures k.plan.home k.plan.programs past (recalled g.E.LocalEngine.stands g.D.Disk.tells old.dbms (g.D.Disk.seen old.disk) k.plan.home k.plan.programs past k.standing) in
    let none = nothing_is (k.plan.programs c.args.tx) (sym test ∙ c.if-not-is_own.true) in
    record {
      plan = k.plan;
      turns = k.turns;
      seen = keeps_seen g.E.LocalEngine.stands g.D.Disk.tells g.D.Disk.seen g.N.Plan.sites g.N.Wires.rings false false old k;
      served = inr (foreign_unspent k.plan k.turns c.args.verb c.args.tx old.lines.items none (omega (arith, old.lines.ok.0, c.len.ensures, c.if-len-ge-MOST_LINES.false)), inl (none, refl, refl));
    }

pub returns-then-is_spent-clause-served : goal.returns-then-is_spent-clause-served
returns-then-is_spent-clause-served g c =
    let stands = g.E.LocalEngine.stands in
    let tells = g.D.Disk.tells in
    let seen = g.D.Disk.seen in
    let k = c.requires.keeps in
    let old = c.args.self.now in
    let l = k.kept.logged in
    let past = past_of k.plan k.turns in
    let own : IsSome (k.plan.programs c.args.tx) = sym (c.if-not-is_own.ensures k.plan.home k.plan.programs past (recalled stands tells old.dbms (seen old.disk) k.plan.home k.plan.programs past k.standing)) in
    let last = c.is_spent.ensures.spent c.if-is_spent.true tells (seen old.disk) k.plan.home k.plan.programs past k.standing own in
    let counted = l.counted c.args.tx in
    let few = l.few c.args.tx in
    let most = last.most in
    record {
      plan = k.plan;
      turns = k.turns;
      seen = keeps_seen stands tells seen g.N.Plan.sites g.N.Wires.rings false false old k;
      served = inl (last_spent k.plan k.turns c.args.verb c.args.tx old.lines.items own (omega (arith, counted, few, most)) last, refl, refl);
    }

pub ask-requires-clause-stood : goal.ask-requires-clause-stood
ask-requires-clause-stood g c =
    let stands = g.E.LocalEngine.stands in
    let ready = c.reserve.new.self in
    stood_asked stands g.D.Disk.tells g.D.Disk.seen g.N.Plan.sites g.N.Wires.rings (taken ready.ends.inlet) ready c.site_ask-ask.result
    (verb_may c.site_ask-ask.result c.args.verb c.args.tx c.site_ask-ask.ensures)
    (keeps_same stands g.D.Disk.tells g.D.Disk.seen g.N.Plan.sites g.N.Wires.rings false c.args.self.now ready c.reserve.ensures.same c.requires.keeps)

pub returns-in_err-step-clause-failed : goal.returns-in_err-step-clause-failed
returns-in_err-step-clause-failed g c =
    let stands = g.E.LocalEngine.stands in
    let tells = g.D.Disk.tells in
    let seen = g.D.Disk.seen in
    let sites = g.N.Plan.sites in
    let rings = g.N.Wires.rings in
    let ready = c.reserve.new.self in
    let new = record ready { dbms = c.ask.new.self; disk = c.ask.new.disk } in
    let k = keeps_same stands tells seen sites rings false c.args.self.now ready c.reserve.ensures.same c.requires.keeps in
    let past = past_of k.plan k.turns in
    let short = short_past stands tells seen sites rings false (taken ready.ends.inlet) ready k in
    let why = c.in_err-step.field-0.0 in
    let ask = c.site_ask-ask.result in
    let old = c.args.self.now in
    let own : IsSome (k.plan.programs c.args.tx) = sym (c.if-not-is_own.ensures k.plan.home k.plan.programs past (recalled stands tells old.dbms (seen old.disk) k.plan.home k.plan.programs past c.requires.keeps.standing)) in
    subst (λ r. IfErr r (HasFailed stands tells seen sites rings new)) (sym (handed_on c.from_residual.result why c.from_residual.ensures))
    (keeps_failed stands tells seen sites rings (taken ready.ends.inlet) ready new c.ask.new.self c.ask.new.disk why k (site_request ask k.plan.home k.plan.programs past)
    (λ event e. record {
      command = command_of c.args.verb c.args.tx;
      took = None;
      could = command_own k.plan k.turns c.args.verb c.args.tx own;
      borne = tt;
      is = request_is k.plan past c.args.verb c.args.tx ∙ sym (verb_request ask c.args.verb c.args.tx c.site_ask-ask.ensures k.plan.home k.plan.programs past) ∙ e;
    })
    (c.in_err-step.ensures.failed k.plan.home k.plan.programs past k.standing (verb_may ask c.args.verb c.args.tx c.site_ask-ask.ensures k.plan.home k.plan.programs past short)) c.in_err-step.ensures.cause (same_self new))

pub again-copy-requires : goal.again-copy-requires
again-copy-requires g c =
    let stands = g.E.LocalEngine.stands in
    let ready = c.reserve.new.self in
    let k = keeps_same stands g.D.Disk.tells g.D.Disk.seen g.N.Plan.sites g.N.Wires.rings false c.args.self.now ready c.reserve.ensures.same c.requires.keeps in
    let past = past_of k.plan k.turns in
    let short = short_past stands g.D.Disk.tells g.D.Disk.seen g.N.Plan.sites g.N.Wires.rings false (taken ready.ends.inlet) ready k in
    let rule = rule_of c.args.verb in
    let ask = c.site_ask-ask.result in
    let may = verb_may ask c.args.verb c.args.tx c.site_ask-ask.ensures k.plan.home k.plan.programs past short in
    let served = verb_serves ask c.args.verb c.args.tx c.site_ask-ask.ensures (Stands stands g.D.Disk.tells c.ask.new.self (g.D.Disk.seen c.ask.new.disk)) c.in_ok-step.step k.plan.home k.plan.programs past
    (c.in_ok-step.ensures.served k.plan.home k.plan.programs past k.standing may) in
    soft_short k.plan.home past rule c.args.tx (own_request rule k.plan.home (k.plan.programs c.args.tx) past c.args.tx) c.in_ok-step.step.answer (own_soft k.plan.home past rule (k.plan.programs c.args.tx) c.args.tx) served.said

pub returns-clause-keeps : goal.returns-clause-keeps
returns-clause-keeps g c =
    let stands = g.E.LocalEngine.stands in
    let tells = g.D.Disk.tells in
    let seen = g.D.Disk.seen in
    let sites = g.N.Plan.sites in
    let rings = g.N.Wires.rings in
    let old = c.args.self.now in
    let ready = c.reserve.new.self in
    let now = c.requires.keeps in
    let k = keeps_same stands tells seen sites rings false old ready c.reserve.ensures.same now in
    let past = past_of k.plan k.turns in
    let short = short_past stands tells seen sites rings false (taken ready.ends.inlet) ready k in
    let ask = c.site_ask-ask.result in
    let may = verb_may ask c.args.verb c.args.tx c.site_ask-ask.ensures k.plan.home k.plan.programs past short in
    let served = verb_serves ask c.args.verb c.args.tx c.site_ask-ask.ensures (Stands stands tells c.ask.new.self (seen c.ask.new.disk)) c.in_ok-step.step k.plan.home k.plan.programs past
    (c.in_ok-step.ensures.served k.plan.home k.plan.programs past k.standing may) in
    let own : IsSome (k.plan.programs c.args.tx) = sym (c.if-not-is_own.ensures k.plan.home k.plan.programs past (recalled stands tells old.dbms (seen old.disk) k.plan.home k.plan.programs past now.standing)) in
    let count = ap length c.reserve.ensures.same.lines in
    let told : LineParts = record { command = c.command.result; answer = c.in_ok-step.step.answer; send = None; after = 0 } in
    (call_line stands tells seen sites rings ready c.ask.new.self c.ask.new.disk c.carry.new.self c.args.verb c.args.tx told k refl c.command.ensures served own
    (λ begin. c.if-is_spent.ensures.left refl tells (seen old.disk) k.plan.home k.plan.programs past now.standing own begin)
    (omega (arith, count, old.lines.ok.0, c.len.ensures, c.if-len-ge-MOST_LINES.false)) (clean _ _ c.in_ok-step.step c.in_ok-step.ensures.cause) (c.carry.ensures.carried tells (seen c.ask.new.disk)) c.carry.ensures.beside c.carry.ensures.moved_on).keeps

pub returns-clause-served : goal.returns-clause-served
returns-clause-served g c =
    let stands = g.E.LocalEngine.stands in
    let tells = g.D.Disk.tells in
    let seen = g.D.Disk.seen in
    let sites = g.N.Plan.sites in
    let rings = g.N.Wires.rings in
    let old = c.args.self.now in
    let ready = c.reserve.new.self in
    let now = c.requires.keeps in
    let k = keeps_same stands tells seen sites rings false old ready c.reserve.ensures.same now in
    let past = past_of k.plan k.turns in
    let short = short_past stands tells seen sites rings false (taken ready.ends.inlet) ready k in
    let ask = c.site_ask-ask.result in
    let may = verb_may ask c.args.verb c.args.tx c.site_ask-ask.ensures k.plan.home k.plan.programs past short in
    let served = verb_serves ask c.args.verb c.args.tx c.site_ask-ask.ensures (Stands stands tells c.ask.new.self (seen c.ask.new.disk)) c.in_ok-step.step k.plan.home k.plan.programs past
    (c.in_ok-step.ensures.served k.plan.home k.plan.programs past k.standing may) in
    let own : IsSome (k.plan.programs c.args.tx) = sym (c.if-not-is_own.ensures k.plan.home k.plan.programs past (recalled stands tells old.dbms (seen old.disk) k.plan.home k.plan.programs past now.standing)) in
    let count = ap length c.reserve.ensures.same.lines in
    let told : LineParts = record { command = c.command.result; answer = c.in_ok-step.step.answer; send = None; after = 0 } in
    let line = call_line stands tells seen sites rings ready c.ask.new.self c.ask.new.disk c.carry.new.self c.args.verb c.args.tx told k refl c.command.ensures served own
    (λ begin. c.if-is_spent.ensures.left refl tells (seen old.disk) k.plan.home k.plan.programs past now.standing own begin)
    (omega (arith, count, old.lines.ok.0, c.len.ensures, c.if-len-ge-MOST_LINES.false)) (clean _ _ c.in_ok-step.step c.in_ok-step.ensures.cause) (c.carry.ensures.carried tells (seen c.ask.new.disk)) c.carry.ensures.beside c.carry.ensures.moved_on in
    record {
      plan = k.plan;
      turns = k.turns;
      seen = keeps_seen stands tells seen sites rings false false old now;
      served = inr (
        line_unspent k.plan k.turns c.args.verb c.args.tx old.lines.items now.standing.core.holds.made (omega (arith, old.lines.ok.0, c.len.ensures, c.if-len-ge-MOST_LINES.false))
            (λ begin. c.if-is_spent.ensures.left refl tells (seen old.disk) k.plan.home k.plan.programs past now.standing own begin),
        inr (
          own,
          record {
            others = line_view stands tells seen sites rings old ready c.carry.new.self told c.reserve.ensures.same c.reserve.ensures.idle line;
            adds = line_adds stands tells seen sites rings old ready c.carry.new.self told (command_of c.args.verb c.args.tx) c.again-copy.result c.reserve.ensures.same line c.command.ensures (sym c.again-copy.ensures);
            right = c.again-copy.ensures ∙ served.said ∙ sym (next_is k.plan k.turns c.args.verb c.args.tx);
          },
        ),
      );
    }
