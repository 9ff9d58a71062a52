use Rattle.std.proofs.Common.{map, sym, subst}
use Rattle.fed_world.specs.Worlds.{Stands}
use Rattle.closing.specs.Towards.{FailsToward, Fits}
use Rattle.closing.proofs.Grows.{take_made}
use Rattle.closing.proofs.Towards.{on_failure, on_success}
use Rattle.closing.proofs.World.{has_lines}
use Rattle.closing.proofs.delivering.take_sent.Goals as goal

pub carry_out-requires-clause-stood : goal.carry_out-requires-clause-stood
carry_out-requires-clause-stood g c =
    let r = c.requires.stood in
    let are = take_made r.session r.commands c.in-Some.place (c.in-Some.ensures r.session r.commands (has_lines _ _ _ _ _ r.stood)) in
    record { session = r.session; commands = r.commands; stood = r.stood; holds = subst (Fits r.session) (sym are) r.holds }

pub returns-in-Some-clause-done : goal.returns-in-Some-clause-done
returns-in-Some-clause-done g c =
    on_success c.carry_out.result
    (λ done session commands s fits.
    let are = take_made session commands c.in-Some.place (c.in-Some.ensures session commands (has_lines _ _ _ _ _ s)) in
    subst (λ all. Stands g.D.Disk.tells c.carry_out.new.world (map g.D.Disk.seen c.carry_out.new.disks.items) session all) are (done session commands s (subst (Fits session) (sym are) fits)))
    c.carry_out.ensures.done

pub returns-in-Some-clause-failed : goal.returns-in-Some-clause-failed
returns-in-Some-clause-failed g c =
    on_failure _ _ c.carry_out.result
    (λ why failed session commands s fits.
    let are = take_made session commands c.in-Some.place (c.in-Some.ensures session commands (has_lines _ _ _ _ _ s)) in
    subst (λ all. FailsToward g.D.Disk.seen g.D.Disk.tells why (map g.D.Disk.seen c.args.disks.now.items) c.carry_out.new.world (map g.D.Disk.seen c.carry_out.new.disks.items) all session commands) are (failed session commands s (subst (Fits session) (sym are) fits)))
    c.carry_out.ensures.failed
