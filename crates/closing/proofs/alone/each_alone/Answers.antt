use Rattle.std.proofs.Common.{List, map, take, get_or, sym, ◌∙◌, subst}
use Rattle.std.proofs.lemmas.List.{take_all}
use Rattle.std.proofs.lemmas.Result.{err_from_is_err_and}
use Rattle.fed_rules.specs.declared.commands.Command.{Command}
use Rattle.fed_rules.specs.declared.scenario.Scenario.{Scenario}
use Rattle.fed_rules.specs.declared.scenario.TxLine.{TxLine}
use Rattle.fed_rules.specs.Closing as rules
use Rattle.fed_rules.specs.Sessions.{fresh}
use Rattle.fed_world.specs.FreshWorlds.{Stands}
use Rattle.closing.specs.Alone.{all_alone}
use Rattle.closing.specs.FreshTowards.{FailsToward}
use Rattle.closing.specs.Towards.{Fits}
use Rattle.closing.proofs.Deliveries.{one_grows}
use Rattle.fed_world.proofs.ForCallers.{failed_later}
use Rattle.closing.proofs.Loops.{each_extends, each_more, next_begins, room_for}
use Rattle.closing.proofs.Towards.{fails_within}
use Rattle.closing.proofs.alone.each_alone.Goals as goal

-- what one transaction adds
abbrev add_line : Scenario → TxLine → List Command → List Command
add_line scenario line = rules.one_alone scenario line line.home

pub one_alone-requires-clause-stood : goal.one_alone-requires-clause-stood
one_alone-requires-clause-stood g c =
    let r = c.requires.stood in
    let items = c.args.lines.now in
    let i = c.loop-line.line-index in
    record {
      session = r.session;
      commands = all_alone (take i items) r.session r.commands;
      stood = c.loop-line.invariant.stands r.session r.commands r.stood r.holds;
      holds = subst (λ (line : TxLine). Fits (fresh r.session) (add_line r.session line (all_alone (take i items) r.session r.commands))) (sym c.line-item.is) (room_for (add_line r.session) (one_grows r.session) (fresh r.session) items i c.line-item.result r.commands c.loop-line-test.true r.holds);
    }

pub returns-in_err-one_alone-clause-failed : goal.returns-in_err-one_alone-clause-failed
returns-in_err-one_alone-clause-failed g c =
    let p = err_from_is_err_and c.from_residual.result c.from_residual.ensures.1 in
    rw (p.1, p.2) (λ scenario before s fits.
    let items = c.args.lines.now in
    let i = c.loop-line.line-index in
    let add = add_line scenario in
    let grows = one_grows scenario in
    let mid = all_alone (take i items) scenario before in
    fails_within g.D.Disk.seen g.D.Disk.tells c.one_alone.new.world (map g.D.Disk.seen c.one_alone.new.disks.items) (fresh scenario) c.in_err-one_alone.field-0.0 (all_alone items scenario before) (add (get_or items i c.line-item.result) mid) mid before
    (next_begins add grows items i c.line-item.result before c.loop-line-test.true) (each_extends add grows (take i items) before)
    _ _ c.loop-line.invariant.calm (subst (λ (line : TxLine). FailsToward g.D.Disk.seen g.D.Disk.tells c.in_err-one_alone.field-0.0 (map g.D.Disk.seen c.loop-line.disks.items) c.one_alone.new.world (map g.D.Disk.seen c.one_alone.new.disks.items) (add line mid) scenario mid) c.line-item.is
    (c.in_err-one_alone.ensures.failed scenario mid (c.loop-line.invariant.stands scenario before s fits)
    (subst (λ (line : TxLine). Fits (fresh scenario) (add line mid)) (sym c.line-item.is) (room_for add grows (fresh scenario) items i c.line-item.result before c.loop-line-test.true fits)))))

pub returns-in_err-one_alone-clause-cause : goal.returns-in_err-one_alone-clause-cause
returns-in_err-one_alone-clause-cause g c =
    let p = err_from_is_err_and c.from_residual.result c.from_residual.ensures.1 in
    rw (p.1, p.2) (failed_later c.in_err-one_alone.field-0.0 _ _ _ c.loop-line.invariant.calm c.in_err-one_alone.ensures.cause)

pub loop-line-preserved : goal.loop-line-preserved
loop-line-preserved g c =
    let items = c.args.lines.now in
    let i = c.loop-line.line-index in
    record {
      stands = λ scenario before s fits.
          subst (λ more. Stands g.D.Disk.tells c.one_alone.new.world (map g.D.Disk.seen c.one_alone.new.disks.items) scenario more) (sym (each_more (add_line scenario) items i c.line-item.result before c.loop-line-test.true))
          (let mid = all_alone (take i items) scenario before in
          subst (λ (line : TxLine). Stands g.D.Disk.tells c.one_alone.new.world (map g.D.Disk.seen c.one_alone.new.disks.items) scenario (add_line scenario line mid)) c.line-item.is
          (c.in_ok-one_alone.ensures.done scenario mid (c.loop-line.invariant.stands scenario before s fits)
          (subst (λ (line : TxLine). Fits (fresh scenario) (add_line scenario line mid)) (sym c.line-item.is) (room_for (add_line scenario) (one_grows scenario) (fresh scenario) items i c.line-item.result before c.loop-line-test.true fits))));
      calm = c.in_ok-one_alone.ensures.cause ∙ c.loop-line.invariant.calm;
    }

pub returns-clause-done : goal.returns-clause-done
returns-clause-done g c scenario before s fits =
    subst (λ xs. Stands g.D.Disk.tells c.loop-line.world (map g.D.Disk.seen c.loop-line.disks.items) scenario (all_alone xs scenario before)) (take_all c.loop-line.line-index c.args.lines.now c.loop-line-test.false)
    (c.loop-line.invariant.stands scenario before s fits)
