use Rattle.std.proofs.Common.{map, sym, subst, ◌∙◌, ap}
use Rattle.fed_rules.specs.Closing as rules
use Rattle.fed_rules.specs.Closing.{for_each}
use Rattle.fed_rules.specs.Scenarios.{sites}
use Rattle.fed_rules.specs.Story.{story_in}
use Rattle.fed_world.specs.Worlds.{Stands}
use Rattle.fed_world.proofs.ForCallers.{recalls}
use Rattle.closing.specs.Steps.{with_commands}
use Rattle.closing.specs.Towards.{FailsToward, Fits}
use Rattle.closing.proofs.Grows.{clearing_is, clear_grows}
use Rattle.closing.proofs.Towards.{on_failure, on_success, short_here}
use Rattle.closing.proofs.closing.clear.Goals as goal

pub returns-in_default-clause-failed : goal.returns-in_default-clause-failed
returns-in_default-clause-failed g c session commands s can =
    short_here g.D.Disk.tells c.args.world.now (map g.D.Disk.seen c.args.disks.now.items) session (rules.clear session commands) commands (clear_grows session commands) s

pub carry_out-requires-clause-stood : goal.carry_out-requires-clause-stood
carry_out-requires-clause-stood g c =
    let r = c.requires.stood in
    let are = (ap (λ more. with_commands more r.commands) (c.deref.ensures.value ∙ c.in-Ok.ensures r.session r.commands (recalls _ _ _ _ _ r.stood) r.holds.up) ∙ clearing_is r.session (story_in r.session r.commands) (sites r.session.plan) r.commands) in
    record { session = r.session; commands = r.commands; stood = r.stood; holds = subst (Fits r.session) (sym are) r.holds.fits }

pub returns-clause-done : goal.returns-clause-done
returns-clause-done g c =
    on_success c.carry_out.result
    (λ done session commands s can.
    let are = (ap (λ more. with_commands more commands) (c.deref.ensures.value ∙ c.in-Ok.ensures session commands (recalls _ _ _ _ _ s) can.up) ∙ clearing_is session (story_in session commands) (sites session.plan) commands) in
    subst (λ all. Stands g.D.Disk.tells c.carry_out.new.world (map g.D.Disk.seen c.carry_out.new.disks.items) session all) are (done session commands s (subst (Fits session) (sym are) can.fits)))
    c.carry_out.ensures.done

pub returns-clause-failed : goal.returns-clause-failed
returns-clause-failed g c =
    on_failure _ _ c.carry_out.result
    (λ why failed session commands s can.
    let are = (ap (λ more. with_commands more commands) (c.deref.ensures.value ∙ c.in-Ok.ensures session commands (recalls _ _ _ _ _ s) can.up) ∙ clearing_is session (story_in session commands) (sites session.plan) commands) in
    subst (λ all. FailsToward g.D.Disk.seen g.D.Disk.tells why (map g.D.Disk.seen c.args.disks.now.items) c.carry_out.new.world (map g.D.Disk.seen c.carry_out.new.disks.items) all session commands) are (failed session commands s (subst (Fits session) (sym are) can.fits)))
    c.carry_out.ensures.failed
