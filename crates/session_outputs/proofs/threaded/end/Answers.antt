use Rattle.std.proofs.Common.{map, refl, subst}
use Rattle.std.proofs.lemmas.Result.{err_from_is_err_and}
use Rattle.fed_rules.specs.Closing.{closed}
use Rattle.fed_rules.specs.Plans.{IsScenario}
use Rattle.fed_rules.specs.Sessions.{fresh}
use Rattle.fed_world.proofs.ForCallers.{told_later}
use Rattle.closing.proofs.ForCallers.{extends_here, fails_within, finished_grows, has_lines, on_failure, on_success}
use Rattle.session_outputs.specs.Runs.{run_commands}
use Rattle.session_outputs.proofs.Ending.{can_close, can_finish}
use Rattle.session_outputs.proofs.PlayLemmas.{closed_on}
use Rattle.session_outputs.proofs.threaded.end.Goals as goal

pub close-requires-clause-stood : goal.close-requires-clause-stood
close-requires-clause-stood g c =
    let r = c.requires.stood in
    record { session = fresh r.session; commands = r.commands; stood = r.stood; holds = can_close r.session r.commands r.holds }

pub returns-in_err-close-clause-failed : goal.returns-in_err-close-clause-failed
returns-in_err-close-clause-failed g c =
    let p = err_from_is_err_and c.from_residual.result c.from_residual.ensures.1 in
    rw (p.1, p.2) (λ scenario before s can.
    fails_within g.D.Disk.seen g.D.Disk.tells c.close.new.world (map g.D.Disk.seen c.close.new.disks.items) (fresh scenario) c.in_err-close.field-0.0 (run_commands scenario before) (closed scenario before) before before
    (finished_grows scenario (closed scenario before)) (extends_here before) _ _ refl (c.in_err-close.ensures.failed (fresh scenario) before s (can_close scenario before can)))

pub finish_alone-requires-clause-stood : goal.finish_alone-requires-clause-stood
finish_alone-requires-clause-stood g c =
    let r = c.requires.stood in
    let whole = subst IsScenario (c.scenario.ensures (fresh r.session) r.commands (has_lines _ _ _ _ _ r.stood)) c.scenario_is_whole.ensures in
    record {
      session = r.session;
      commands = closed r.session r.commands;
      stood = c.in_ok-close.ensures.done (fresh r.session) r.commands r.stood (can_close r.session r.commands r.holds);
      holds = can_finish c.closing_is_bounded.ensures c.closed_sessions_rest.ensures r.session r.commands whole r.holds;
    }

pub returns-clause-ended : goal.returns-clause-ended
returns-clause-ended g c =
    on_success c.finish_alone.result
    (λ done scenario before s can.
    let whole = subst IsScenario (c.scenario.ensures (fresh scenario) before (has_lines _ _ _ _ _ s)) c.scenario_is_whole.ensures in
    done scenario (closed scenario before) (c.in_ok-close.ensures.done (fresh scenario) before s (can_close scenario before can))
    (can_finish c.closing_is_bounded.ensures c.closed_sessions_rest.ensures scenario before whole can))
    c.finish_alone.ensures.done

pub returns-clause-failed : goal.returns-clause-failed
returns-clause-failed g c =
    on_failure _ _ c.finish_alone.result
    (λ why failed scenario before s can.
    let whole = subst IsScenario (c.scenario.ensures (fresh scenario) before (has_lines _ _ _ _ _ s)) c.scenario_is_whole.ensures in
    fails_within g.D.Disk.seen g.D.Disk.tells c.finish_alone.new.world (map g.D.Disk.seen c.finish_alone.new.disks.items) (fresh scenario) why (run_commands scenario before) (run_commands scenario before) (closed scenario before) before
    (extends_here (run_commands scenario before)) (closed_on scenario before)
    _ _ c.in_ok-close.ensures.cause (failed scenario (closed scenario before) (c.in_ok-close.ensures.done (fresh scenario) before s (can_close scenario before can))
    (can_finish c.closing_is_bounded.ensures c.closed_sessions_rest.ensures scenario before whole can)))
    c.finish_alone.ensures.failed

pub returns-clause-cause : goal.returns-clause-cause
returns-clause-cause g c = told_later c.finish_alone.result _ _ _ c.in_ok-close.ensures.cause c.finish_alone.ensures.cause
