use Rattle.std.proofs.Common.{◌∷◌, List, map, take, get_or, refl, sym, ◌∙◌, subst}
use Rattle.std.proofs.lemmas.List.{take_all}
use Rattle.std.proofs.lemmas.Result.{err_from_is_err_and}
use Rattle.fed_rules.specs.declared.commands.Command.{Command}
use Rattle.fed_rules.specs.declared.commands.Command.TheVariants as Cmd
use Rattle.fed_rules.specs.Sessions.{fresh}
use Rattle.fed_world.specs.FreshWorlds.{Stands}
use Rattle.closing.specs.Steps.{with_commands}
use Rattle.fed_world.proofs.ForCallers.{failed_later}
use Rattle.closing.proofs.ForCallers.{each_extends, each_more, extends_one, fails_at, fails_within, next_begins, room_for, room_one, short_here}
use Rattle.session_outputs.proofs.replay_output.carry_out.Goals as goal

-- some command
abbrev none : Command
none = Cmd.Begin (record { 0 = 0 })

abbrev push : Command → List Command → List Command
push command commands = command ∷ commands

pub returns-in_default-clause-failed : goal.returns-in_default-clause-failed
returns-in_default-clause-failed g c scenario before s fits =
    let tells = g.D.Disk.tells in
    let disks = map g.D.Disk.seen c.args.disks.now.items in
    let items = c.args.commands.now in
    short_here tells c.make_room.new.self disks (fresh scenario) (with_commands items before) before (each_extends push extends_one items before)
    (c.make_room.ensures.stands tells disks (fresh scenario) before s)

pub loop-command-init : goal.loop-command-init
loop-command-init g c = record {
  stands = λ scenario before s fits. c.make_room.ensures.stands g.D.Disk.tells (map g.D.Disk.seen c.args.disks.now.items) (fresh scenario) before s;
  calm = refl;
}

pub apply-requires-clause-stood : goal.apply-requires-clause-stood
apply-requires-clause-stood g c =
    let r = c.requires.stood in
    let items = c.args.commands.now in
    let i = c.loop-command.command-index in
    record {
      session = fresh r.session;
      commands = with_commands (take i items) r.commands;
      stood = c.loop-command.invariant.stands r.session r.commands r.stood r.holds;
      holds = room_one (fresh r.session) (get_or items i none) _ (room_for push extends_one (fresh r.session) items i none r.commands c.loop-command-test.true r.holds);
    }

pub returns-in_err-apply-clause-failed : goal.returns-in_err-apply-clause-failed
returns-in_err-apply-clause-failed g c =
    let p = err_from_is_err_and c.from_residual.result c.from_residual.ensures.1 in
    rw (p.1, p.2) (λ scenario before s fits.
    let items = c.args.commands.now in
    let i = c.loop-command.command-index in
    let mid = with_commands (take i items) before in
    let failed = c.in_err-apply.ensures.failed (fresh scenario) mid (c.loop-command.invariant.stands scenario before s fits) (room_one (fresh scenario) (get_or items i none) _ (room_for push extends_one (fresh scenario) items i none before c.loop-command-test.true fits)) in
    fails_within g.D.Disk.seen g.D.Disk.tells c.apply.new.self (map g.D.Disk.seen c.apply.new.disks.items) (fresh scenario) c.in_err-apply.field-0.0 (with_commands items before) (get_or items i none ∷ mid) mid before
    (next_begins push extends_one items i none before c.loop-command-test.true) (each_extends push extends_one (take i items) before)
    _ _ c.loop-command.invariant.calm (fails_at g.D.Disk.seen g.D.Disk.tells c.apply.new.self (map g.D.Disk.seen c.apply.new.disks.items) (fresh scenario) c.in_err-apply.field-0.0 (get_or items i none) mid c.loop-command.world c.loop-command.disks.items
    (c.loop-command.invariant.stands scenario before s fits) c.in_err-apply.ensures.cause failed))

pub returns-in_err-apply-clause-cause : goal.returns-in_err-apply-clause-cause
returns-in_err-apply-clause-cause g c =
    let p = err_from_is_err_and c.from_residual.result c.from_residual.ensures.1 in
    rw (p.1, p.2) (failed_later c.in_err-apply.field-0.0 _ _ _ c.loop-command.invariant.calm c.in_err-apply.ensures.cause)

pub loop-command-preserved : goal.loop-command-preserved
loop-command-preserved g c =
    let items = c.args.commands.now in
    let i = c.loop-command.command-index in
    record {
      stands = λ scenario before s fits.
          subst (λ more. Stands g.D.Disk.tells c.apply.new.self (map g.D.Disk.seen c.apply.new.disks.items) scenario more) (sym (each_more push items i none before c.loop-command-test.true))
          (c.in_ok-apply.ensures.applied (fresh scenario) (with_commands (take i items) before) (c.loop-command.invariant.stands scenario before s fits) (room_one (fresh scenario) (get_or items i none) _ (room_for push extends_one (fresh scenario) items i none before c.loop-command-test.true fits)));
      calm = c.in_ok-apply.ensures.cause ∙ c.loop-command.invariant.calm;
    }

pub returns-clause-done : goal.returns-clause-done
returns-clause-done g c scenario before s fits =
    subst (λ cs. Stands g.D.Disk.tells c.loop-command.world (map g.D.Disk.seen c.loop-command.disks.items) scenario (with_commands cs before)) (take_all c.loop-command.command-index c.args.commands.now c.loop-command-test.false)
    (c.loop-command.invariant.stands scenario before s fits)
