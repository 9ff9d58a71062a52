use Rattle.std.proofs.Common.{map, sym, subst, ◌∙◌, ap}
use Rattle.fed_rules.specs.Closing as rules
use Rattle.fed_rules.specs.Closing.{for_each}
use Rattle.fed_world.specs.Worlds.{Stands}
use Rattle.fed_world.proofs.ForCallers.{recalls}
use Rattle.closing.specs.Towards.{FailsToward, Fits}
use Rattle.closing.proofs.Grows.{end_known_grows}
use Rattle.closing.proofs.Towards.{on_failure, on_success, short_here}
use Rattle.closing.proofs.closing.end_known.Goals as goal

pub returns-in_default-clause-failed : goal.returns-in_default-clause-failed
returns-in_default-clause-failed g c session commands s can =
    short_here g.D.Disk.tells c.args.world.now (map g.D.Disk.seen c.args.disks.now.items) session (rules.end_known session commands) commands (end_known_grows session commands) s

pub send_each-requires-clause-stood : goal.send_each-requires-clause-stood
send_each-requires-clause-stood g c =
    let r = c.requires.stood in
    let are = ap (λ tids. for_each (rules.send_again r.session) tids r.commands) (c.deref.ensures.value ∙ c.in-Ok.ensures r.session r.commands (recalls _ _ _ _ _ r.stood) r.holds.up) in
    record { session = r.session; commands = r.commands; stood = r.stood; holds = subst (Fits r.session) (sym are) r.holds.fits }

pub returns-clause-done : goal.returns-clause-done
returns-clause-done g c =
    on_success c.send_each.result
    (λ done session commands s can.
    let are = ap (λ tids. for_each (rules.send_again session) tids commands) (c.deref.ensures.value ∙ c.in-Ok.ensures session commands (recalls _ _ _ _ _ s) can.up) in
    subst (λ all. Stands g.D.Disk.tells c.send_each.new.world (map g.D.Disk.seen c.send_each.new.disks.items) session all) are (done session commands s (subst (Fits session) (sym are) can.fits)))
    c.send_each.ensures.done

pub returns-clause-failed : goal.returns-clause-failed
returns-clause-failed g c =
    on_failure _ _ c.send_each.result
    (λ why failed session commands s can.
    let are = ap (λ tids. for_each (rules.send_again session) tids commands) (c.deref.ensures.value ∙ c.in-Ok.ensures session commands (recalls _ _ _ _ _ s) can.up) in
    subst (λ all. FailsToward g.D.Disk.seen g.D.Disk.tells why (map g.D.Disk.seen c.args.disks.now.items) c.send_each.new.world (map g.D.Disk.seen c.send_each.new.disks.items) all session commands) are (failed session commands s (subst (Fits session) (sym are) can.fits)))
    c.send_each.ensures.failed
