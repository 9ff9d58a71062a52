use Rattle.std.proofs.Common.{◌+◌, ◌≤◌, ◌^◌, List, length, map, sym, subst, ◌∙◌, ap, arith}
use Rattle.fed_rules.specs.declared.commands.Command.{Command}
use Rattle.fed_rules.specs.declared.scenario.Scenario.{Scenario}
use Rattle.fed_rules.specs.Closing.{finished_alone}
use Rattle.fed_rules.specs.Plans.{IsScenario}
use Rattle.fed_rules.specs.Sessions.{fresh}
use Rattle.closing_laws.specs.Bound.{FinishingIsShort}
use Rattle.fed_world.specs.FreshWorlds.{Stands}
use Rattle.fed_world.proofs.ForCallers.{recalls}
use Rattle.closing.specs.Alone.{AllCommit, CanAllCommit, all_alone}
use Rattle.closing.specs.FreshTowards.{FailsToward}
use Rattle.closing.specs.Towards.{Fits}
use Rattle.closing.proofs.Deliveries.{finished_grows}
use Rattle.closing.proofs.Towards.{on_failure, on_success, short_here}
use Rattle.closing.proofs.World.{has_lines, of_one_scenario}
use Rattle.closing.proofs.alone.finish_alone.Goals as goal

-- at most 263,168 commands
finish_fits : FinishingIsShort → (scenario : Scenario) (commands : List Command) → IsScenario scenario → length commands + 2 ^ 20 ≤ 2 ^ 30 → Fits (fresh scenario) (finished_alone scenario commands)
finish_fits short scenario commands whole few = let all = short scenario whole commands in omega (arith, all, few)

pub returns-in_default-clause-failed : goal.returns-in_default-clause-failed
returns-in_default-clause-failed g c scenario commands s can =
    short_here g.D.Disk.tells c.args.world.now (map g.D.Disk.seen c.args.disks.now.items) (fresh scenario) (finished_alone scenario commands) commands (finished_grows scenario commands) s

pub each_alone-requires-clause-stood : goal.each_alone-requires-clause-stood
each_alone-requires-clause-stood g c =
    let r = c.requires.stood in
    let whole = subst IsScenario (c.scenario.ensures (fresh r.session) r.commands (has_lines _ _ _ _ _ r.stood)) c.every_scenario_is_one.ensures in
    let are = ap (λ all. all_alone all r.session r.commands) (c.deref.ensures.value ∙ c.in-Ok.ensures r.session r.commands (recalls _ _ _ _ _ r.stood) r.holds.up) in
    record { session = r.session; commands = r.commands; stood = r.stood; holds = subst (Fits (fresh r.session)) (sym are) (finish_fits c.finishing_is_bounded.ensures r.session r.commands whole r.holds.few) }

pub returns-clause-done : goal.returns-clause-done
returns-clause-done g c =
    on_success c.each_alone.result
    (λ done scenario commands s can.
    let whole = subst IsScenario (c.scenario.ensures (fresh scenario) commands (has_lines _ _ _ _ _ s)) c.every_scenario_is_one.ensures in
    let are = ap (λ all. all_alone all scenario commands) (c.deref.ensures.value ∙ c.in-Ok.ensures scenario commands (recalls _ _ _ _ _ s) can.up) in
    subst (λ all. Stands g.D.Disk.tells c.each_alone.new.world (map g.D.Disk.seen c.each_alone.new.disks.items) scenario all) are
    (done scenario commands s (subst (Fits (fresh scenario)) (sym are) (finish_fits c.finishing_is_bounded.ensures scenario commands whole can.few))))
    c.each_alone.ensures.done

pub returns-clause-failed : goal.returns-clause-failed
returns-clause-failed g c =
    on_failure _ _ c.each_alone.result
    (λ why failed scenario commands s can.
    let whole = subst IsScenario (c.scenario.ensures (fresh scenario) commands (has_lines _ _ _ _ _ s)) c.every_scenario_is_one.ensures in
    let are = ap (λ all. all_alone all scenario commands) (c.deref.ensures.value ∙ c.in-Ok.ensures scenario commands (recalls _ _ _ _ _ s) can.up) in
    subst (λ all. FailsToward g.D.Disk.seen g.D.Disk.tells why (map g.D.Disk.seen c.args.disks.now.items) c.each_alone.new.world (map g.D.Disk.seen c.each_alone.new.disks.items) all scenario commands) are
    (failed scenario commands s (subst (Fits (fresh scenario)) (sym are) (finish_fits c.finishing_is_bounded.ensures scenario commands whole can.few))))
    c.each_alone.ensures.failed

pub returns-clause-commits : goal.returns-clause-commits
returns-clause-commits g c =
    let r = c.requires.stood in
    let whole = subst IsScenario (c.scenario.ensures (fresh r.session) r.commands (has_lines _ _ _ _ _ r.stood)) c.every_scenario_is_one.ensures in
    let are = ap (λ all. all_alone all r.session r.commands) (c.deref.ensures.value ∙ c.in-Ok.ensures r.session r.commands (recalls _ _ _ _ _ r.stood) r.holds.up) in
    on_success c.each_alone.result
    (λ done can scenario commands s.
    let rests = of_one_scenario CanAllCommit _ can.session r.session can.commands r.commands (has_lines _ _ _ _ _ can.stood) (has_lines _ _ _ _ _ r.stood) can.holds in
    of_one_scenario AllCommit _ r.session scenario (finished_alone r.session r.commands) commands
    (has_lines _ _ _ _ _ (subst (λ all. Stands g.D.Disk.tells c.each_alone.new.world (map g.D.Disk.seen c.each_alone.new.disks.items) r.session all) are
    (done r.session r.commands r.stood (subst (Fits (fresh r.session)) (sym are) (finish_fits c.finishing_is_bounded.ensures r.session r.commands whole r.holds.few)))))
    (has_lines _ _ _ _ _ s)
    (c.finished_sessions_commit.ensures r.session r.commands whole rests.rests rests.left))
    c.each_alone.ensures.done
