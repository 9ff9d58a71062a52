use Rattle.std.proofs.Common.{map, sym, subst}
use Rattle.fed_world.specs.Worlds.{Stands}
use Rattle.closing.specs.Towards.{FailsToward, Fits}
use Rattle.closing.proofs.Grows.{bring_up_made, bring_up_grows}
use Rattle.closing.proofs.Towards.{on_failure, on_success, short_here}
use Rattle.fed_rules.specs.Closing as rules
use Rattle.fed_world.proofs.ForCallers.{recalls}
use Rattle.closing.proofs.closing.bring_up.Goals as goal

pub returns-in_default-clause-failed : goal.returns-in_default-clause-failed
returns-in_default-clause-failed g c session commands s fits =
    short_here g.D.Disk.tells c.args.world.now (map g.D.Disk.seen c.args.disks.now.items) session (rules.bring_up session commands) commands (bring_up_grows session commands) s

pub returns-in_default-bringing_up-clause-failed : goal.returns-in_default-bringing_up-clause-failed
returns-in_default-bringing_up-clause-failed g c session commands s fits =
    short_here g.D.Disk.tells c.args.world.now (map g.D.Disk.seen c.args.disks.now.items) session (rules.bring_up session commands) commands (bring_up_grows session commands) s

pub carry_out-requires-clause-stood : goal.carry_out-requires-clause-stood
carry_out-requires-clause-stood g c =
    let r = c.requires.stood in
    let are = bring_up_made r.session r.commands c.deref-2.result.now c.in-Ok-bringing_up.commands.items c.deref.result.now c.in-Ok.down.items c.deref-2.ensures.value c.in-Ok-bringing_up.ensures c.deref.ensures.value
    (c.in-Ok.ensures r.session r.commands (recalls _ _ _ _ _ r.stood)) in
    record { session = r.session; commands = r.commands; stood = r.stood; holds = subst (Fits r.session) (sym are) r.holds }

pub returns-clause-done : goal.returns-clause-done
returns-clause-done g c =
    on_success c.carry_out.result
    (λ done session commands s fits.
    let are = bring_up_made session commands c.deref-2.result.now c.in-Ok-bringing_up.commands.items c.deref.result.now c.in-Ok.down.items c.deref-2.ensures.value c.in-Ok-bringing_up.ensures c.deref.ensures.value
    (c.in-Ok.ensures session commands (recalls _ _ _ _ _ s)) in
    subst (λ all. Stands g.D.Disk.tells c.carry_out.new.world (map g.D.Disk.seen c.carry_out.new.disks.items) session all) are (done session commands s (subst (Fits session) (sym are) fits)))
    c.carry_out.ensures.done

pub returns-clause-failed : goal.returns-clause-failed
returns-clause-failed g c =
    on_failure _ _ c.carry_out.result
    (λ why failed session commands s fits.
    let are = bring_up_made session commands c.deref-2.result.now c.in-Ok-bringing_up.commands.items c.deref.result.now c.in-Ok.down.items c.deref-2.ensures.value c.in-Ok-bringing_up.ensures c.deref.ensures.value
    (c.in-Ok.ensures session commands (recalls _ _ _ _ _ s)) in
    subst (λ all. FailsToward g.D.Disk.seen g.D.Disk.tells why (map g.D.Disk.seen c.args.disks.now.items) c.carry_out.new.world (map g.D.Disk.seen c.carry_out.new.disks.items) all session commands) are (failed session commands s (subst (Fits session) (sym are) fits)))
    c.carry_out.ensures.failed
