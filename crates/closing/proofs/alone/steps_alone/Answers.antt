use Rattle.std.proofs.Common.{◌∷◌, map, take, sym, ◌∙◌, subst}
use Rattle.std.proofs.lemmas.List.{take_all}
use Rattle.std.proofs.lemmas.Result.{err_from_is_err_and}
use Rattle.fed_rules.specs.declared.commands.Command.TheVariants as Cmd
use Rattle.fed_rules.specs.Closing as rules
use Rattle.fed_rules.specs.Sessions.{fresh}
use Rattle.fed_world.specs.FreshWorlds.{Stands}
use Rattle.closing.proofs.Deliveries.{front_steps, steps_fit, steps_grow, steps_next}
use Rattle.fed_world.proofs.ForCallers.{failed_later}
use Rattle.closing.proofs.Towards.{fails_at, fails_within, room_one}
use Rattle.closing.proofs.alone.steps_alone.Goals as goal

pub apply-requires-clause-stood : goal.apply-requires-clause-stood
apply-requires-clause-stood g c =
    let r = c.requires.stood in
    record {
      session = fresh r.session;
      commands = rules.steps_alone c.args.tx (take c.loop-done.done c.args.steps.now) r.commands;
      stood = c.loop-done.invariant.stands r.session r.commands r.stood r.holds;
      holds = room_one (fresh r.session) (Cmd.Step c.args.tx) (rules.steps_alone c.args.tx (take c.loop-done.done c.args.steps.now) r.commands) (steps_fit (fresh r.session) c.args.tx c.args.steps.now c.loop-done.done r.commands c.loop-done-test.true r.holds);
    }

pub returns-in_err-apply-clause-failed : goal.returns-in_err-apply-clause-failed
returns-in_err-apply-clause-failed g c =
    let p = err_from_is_err_and c.from_residual.result c.from_residual.ensures.1 in
    rw (p.1, p.2) (λ scenario before s fits.
    let tx = c.args.tx in
    let steps = c.args.steps.now in
    let mid = rules.steps_alone tx (take c.loop-done.done steps) before in
    fails_within g.D.Disk.seen g.D.Disk.tells c.apply.new.self (map g.D.Disk.seen c.apply.new.disks.items) (fresh scenario) c.in_err-apply.field-0.0 (rules.steps_alone tx steps before) (Cmd.Step tx ∷ mid) mid before
    (front_steps tx steps c.loop-done.done before c.loop-done-test.true) (steps_grow tx (take c.loop-done.done steps) before)
    _ _ c.loop-done.invariant.calm (fails_at g.D.Disk.seen g.D.Disk.tells c.apply.new.self (map g.D.Disk.seen c.apply.new.disks.items) (fresh scenario) c.in_err-apply.field-0.0 (Cmd.Step tx) mid c.loop-done.world c.loop-done.disks.items
    (c.loop-done.invariant.stands scenario before s fits) c.in_err-apply.ensures.cause
    (c.in_err-apply.ensures.failed (fresh scenario) mid (c.loop-done.invariant.stands scenario before s fits) (room_one (fresh scenario) (Cmd.Step tx) mid (steps_fit (fresh scenario) tx steps c.loop-done.done before c.loop-done-test.true fits)))))

pub returns-in_err-apply-clause-cause : goal.returns-in_err-apply-clause-cause
returns-in_err-apply-clause-cause g c =
    let p = err_from_is_err_and c.from_residual.result c.from_residual.ensures.1 in
    rw (p.1, p.2) (failed_later c.in_err-apply.field-0.0 _ _ _ c.loop-done.invariant.calm c.in_err-apply.ensures.cause)

pub loop-done-preserved : goal.loop-done-preserved
loop-done-preserved g c =
    let tx = c.args.tx in
    let steps = c.args.steps.now in
    record {
      stands = λ scenario before s fits.
          let mid = rules.steps_alone tx (take c.loop-done.done steps) before in
          subst (λ more. Stands g.D.Disk.tells c.apply.new.self (map g.D.Disk.seen c.apply.new.disks.items) scenario more) (sym (steps_next tx steps c.loop-done.done before c.loop-done-test.true))
          (c.in_ok-apply.ensures.applied (fresh scenario) mid (c.loop-done.invariant.stands scenario before s fits) (room_one (fresh scenario) (Cmd.Step tx) mid (steps_fit (fresh scenario) tx steps c.loop-done.done before c.loop-done-test.true fits)));
      calm = c.in_ok-apply.ensures.cause ∙ c.loop-done.invariant.calm;
    }

pub returns-clause-done : goal.returns-clause-done
returns-clause-done g c scenario before s fits =
    subst (λ xs. Stands g.D.Disk.tells c.loop-done.world (map g.D.Disk.seen c.loop-done.disks.items) scenario (rules.steps_alone c.args.tx xs before)) (take_all c.loop-done.done c.args.steps.now c.loop-done-test.false)
    (c.loop-done.invariant.stands scenario before s fits)
