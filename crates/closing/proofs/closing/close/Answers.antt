use Rattle.std.proofs.Common.{◌≡◌, List, inl, inr, ap, ◌∙◌, subst, arith}
use Rattle.fed_rules.specs.declared.commands.Command.{Command}
use Rattle.fed_rules.specs.declared.scenario.Scenario.{Scenario}
use Rattle.fed_rules.specs.Closing.{closed_in}
use Rattle.fed_rules.specs.Plans.{IsScenario}
use Rattle.fed_rules.specs.Sessions.{Session}
use Rattle.resume_laws.specs.Closed.{IsSession, SessionsCloseShortly, SessionsStayUp}
use Rattle.fed_world.specs.Beginnings.{Begins, scenario_of}
use Rattle.fed_world.specs.Worlds.{Rests}
use Rattle.closing.specs.Steps.{CanClose, MayClose}
use Rattle.closing.proofs.Towards.{on_failure, on_success}
use Rattle.closing.proofs.World.{has_lines, of_one_story}
use Rattle.closing.proofs.closing.close.Goals as goal

-- a session that a world stands for begins with empty disks, or goes on from usable ones
is_session : (session : Session) → Begins session → (scenario : Scenario) → IsScenario scenario → scenario ≡ scenario_of session → IsSession session
is_session session (inl e) scenario whole same = inl (record { is = e; whole = subst IsScenario (same ∙ ap scenario_of e) whole })
is_session session (inr goes) scenario whole same = inr (record { is = goes.is; usable = goes.usable; range = goes.range })

-- closing makes at most 1,638,418 commands, so behind fewer than 2^29 their numbers fit
may_close : SessionsStayUp → SessionsCloseShortly → (session : Session) (commands : List Command) → IsSession session → CanClose session commands → MayClose session commands
may_close stay short session commands is few =
    let all = short session is commands in
    record { stays = stay session is commands; fits = omega (arith, all, few) }

pub each_step-requires-clause-stood : goal.each_step-requires-clause-stood
each_step-requires-clause-stood g c =
    let r = c.requires.stood in
    let has = has_lines _ _ _ _ _ r.stood in
    let is = is_session r.session has.begins _ c.every_scenario_is_one.ensures (c.scenario.ensures r.session r.commands has) in
    record {
      session = r.session;
      commands = r.commands;
      stood = r.stood;
      holds = may_close c.sessions_stay_up.ensures c.sessions_close_shortly.ensures r.session r.commands is r.holds;
    }

pub returns-clause-done : goal.returns-clause-done
returns-clause-done g c =
    on_success c.each_step.result
    (λ done session commands s can.
    let has = has_lines _ _ _ _ _ s in
    let is = is_session session has.begins _ c.every_scenario_is_one.ensures (c.scenario.ensures session commands has) in
    done session commands s (may_close c.sessions_stay_up.ensures c.sessions_close_shortly.ensures session commands is can))
    c.each_step.ensures.done

pub returns-clause-rests : goal.returns-clause-rests
returns-clause-rests g c =
    on_success c.each_step.result
    (λ done session commands s can.
    let has = has_lines _ _ _ _ _ s in
    c.sessions_close_at_rest.ensures session (is_session session has.begins _ c.every_scenario_is_one.ensures (c.scenario.ensures session commands has)) commands)
    c.each_step.ensures.done

pub returns-clause-fresh : goal.returns-clause-fresh
returns-clause-fresh g c =
    let r = c.requires.stood in
    let has = has_lines _ _ _ _ _ r.stood in
    let is = is_session r.session has.begins _ c.every_scenario_is_one.ensures (c.scenario.ensures r.session r.commands has) in
    on_success c.each_step.result
    (λ done scenario commands s.
    of_one_story Rests _ r.session scenario (closed_in r.session r.commands) commands
    (has_lines _ _ _ _ _ (done r.session r.commands r.stood (may_close c.sessions_stay_up.ensures c.sessions_close_shortly.ensures r.session r.commands is r.holds)))
    (has_lines _ _ _ _ _ s) (c.sessions_close_at_rest.ensures r.session is r.commands))
    c.each_step.ensures.done

pub returns-clause-failed : goal.returns-clause-failed
returns-clause-failed g c =
    on_failure _ _ c.each_step.result
    (λ why failed session commands s can.
    let has = has_lines _ _ _ _ _ s in
    let is = is_session session has.begins _ c.every_scenario_is_one.ensures (c.scenario.ensures session commands has) in
    failed session commands s (may_close c.sessions_stay_up.ensures c.sessions_close_shortly.ensures session commands is can))
    c.each_step.ensures.failed
