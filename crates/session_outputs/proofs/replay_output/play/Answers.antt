use Rattle.std.proofs.Common.{map, refl}
use Rattle.std.proofs.lemmas.Result.{err_from_is_err_and}
use Rattle.fed_rules.specs.Sessions.{fresh}
use Rattle.closing.specs.Steps.{with_commands}
use Rattle.fed_world.proofs.ForCallers.{told_later}
use Rattle.closing.proofs.ForCallers.{extends_here, fails_within, fresh_can_close, on_failure, on_success}
use Rattle.session_outputs.specs.Plays.{closed_with}
use Rattle.session_outputs.proofs.PlayLemmas.{can_fit, closed_on, with_extends}
use Rattle.session_outputs.proofs.replay_output.play.Goals as goal

pub carry_out-requires-clause-stood : goal.carry_out-requires-clause-stood
carry_out-requires-clause-stood g c =
    let r = c.requires.stood in
    let more = c.args.commands.now in
    record {
      session = r.session;
      commands = r.commands;
      stood = r.stood;
      holds = can_fit more r.session r.commands r.holds;
    }

pub returns-in_err-carry_out-clause-failed : goal.returns-in_err-carry_out-clause-failed
returns-in_err-carry_out-clause-failed g c =
    let p = err_from_is_err_and c.from_residual.result c.from_residual.ensures.1 in
    let more = c.args.commands.now in
    rw (p.1, p.2) (λ scenario before s can.
    let on = closed_on scenario (with_commands more before) in
    fails_within g.D.Disk.seen g.D.Disk.tells c.carry_out.new.world (map g.D.Disk.seen c.carry_out.new.disks.items) (fresh scenario) c.in_err-carry_out.field-0.0 (closed_with more scenario before) (with_commands more before) before before
    on (extends_here before) _ _ refl (c.in_err-carry_out.ensures.failed scenario before s (can_fit more scenario before can)))

pub close-requires-clause-stood : goal.close-requires-clause-stood
close-requires-clause-stood g c =
    let r = c.requires.stood in
    let more = c.args.commands.now in
    let fits = can_fit more r.session r.commands r.holds in
    record {
      session = fresh r.session;
      commands = with_commands more r.commands;
      stood = c.in_ok-carry_out.ensures.done r.session r.commands r.stood fits;
      holds = fresh_can_close r.session (with_commands more r.commands) r.holds;
    }

pub returns-clause-played : goal.returns-clause-played
returns-clause-played g c =
    let more = c.args.commands.now in
    on_success c.close.result
    (λ done scenario before s can.
    done (fresh scenario) (with_commands more before)
    (c.in_ok-carry_out.ensures.done scenario before s (can_fit more scenario before can))
    (fresh_can_close scenario (with_commands more before) can))
    c.close.ensures.done

pub returns-clause-failed : goal.returns-clause-failed
returns-clause-failed g c =
    let more = c.args.commands.now in
    on_failure _ _ c.close.result
    (λ why failed scenario before s can.
    fails_within g.D.Disk.seen g.D.Disk.tells c.close.new.world (map g.D.Disk.seen c.close.new.disks.items) (fresh scenario) why (closed_with more scenario before) (closed_with more scenario before) (with_commands more before) before
    (extends_here (closed_with more scenario before)) (with_extends more before)
    _ _ c.in_ok-carry_out.ensures.cause (failed (fresh scenario) (with_commands more before)
    (c.in_ok-carry_out.ensures.done scenario before s (can_fit more scenario before can))
    (fresh_can_close scenario (with_commands more before) can)))
    c.close.ensures.failed

pub returns-clause-cause : goal.returns-clause-cause
returns-clause-cause g c =
    told_later c.close.result _ _ _ c.in_ok-carry_out.ensures.cause c.close.ensures.cause
