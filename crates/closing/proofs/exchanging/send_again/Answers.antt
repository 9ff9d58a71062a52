use Rattle.std.proofs.Common.{◌∷◌, [], List, map, refl, sym, ◌∙◌, subst}
use Rattle.std.proofs.lemmas.Result.{err_from_is_err_and}
use Rattle.mdb_base.specs.declared.names.Tid.{Tid}
use Rattle.fed_rules.specs.declared.commands.Command.{Command}
use Rattle.fed_rules.specs.declared.commands.Command.TheVariants as Cmd
use Rattle.fed_rules.specs.Sessions.{Session}
use Rattle.fed_rules.specs.Closing as rules
use Rattle.fed_rules.specs.Closing.{deliver, last_sends}
use Rattle.fed_world.specs.Worlds.{HasRoom, Stands}
use Rattle.closing.specs.Steps.{deliver_all}
use Rattle.closing.specs.Towards.{FailsToward, Fits}
use Rattle.fed_world.proofs.ForCallers.{told_later}
use Rattle.closing.proofs.Grows.{deliver_grows}
use Rattle.closing.proofs.Loops.{each_extends}
use Rattle.closing.proofs.Towards.{Extends, extends_here, extends_one, fails_at, fails_within, fits_less, on_failure, on_success, room_one}
use Rattle.closing.proofs.World.{has_lines}
use Rattle.closing.proofs.exchanging.send_again.Goals as goal

abbrev one : Tid → List Command → List Command
one tid commands = Cmd.Again tid ∷ commands

rest : (session : Session) (tid : Tid) (commands : List Command) → Extends (rules.send_again session tid commands) (one tid commands)
rest session tid commands = each_extends (deliver session) (deliver_grows session) (last_sends session (one tid commands)) (one tid commands)

room : (session : Session) (tid : Tid) (commands : List Command) → Fits session (rules.send_again session tid commands) → HasRoom session commands
room session tid commands fits = room_one session (Cmd.Again tid) commands (fits_less session (rules.send_again session tid commands) (one tid commands) (rest session tid commands) fits)

pub apply-requires-clause-stood : goal.apply-requires-clause-stood
apply-requires-clause-stood g c =
    let r = c.requires.stood in
    record { session = r.session; commands = r.commands; stood = r.stood; holds = room r.session c.args.tid r.commands r.holds }

pub returns-in_err-apply-clause-failed : goal.returns-in_err-apply-clause-failed
returns-in_err-apply-clause-failed g c =
    let p = err_from_is_err_and c.from_residual.result c.from_residual.ensures.1 in
    rw (p.1, p.2) (λ session commands s fits.
    let tid = c.args.tid in
    fails_within g.D.Disk.seen g.D.Disk.tells c.apply.new.self (map g.D.Disk.seen c.apply.new.disks.items) session c.in_err-apply.field-0.0 (rules.send_again session tid commands) (one tid commands) commands commands
    (rest session tid commands) (extends_here commands)
    _ _ refl (fails_at g.D.Disk.seen g.D.Disk.tells c.apply.new.self (map g.D.Disk.seen c.apply.new.disks.items) session c.in_err-apply.field-0.0 (Cmd.Again tid) commands c.args.world.now c.args.disks.now.items s c.in_err-apply.ensures.cause
    (c.in_err-apply.ensures.failed session commands s (room session tid commands fits))))

pub returns-in_default-clause-failed : goal.returns-in_default-clause-failed
returns-in_default-clause-failed g c session commands s fits =
    let tid = c.args.tid in
    let next = c.in_ok-apply.ensures.applied session commands s (room session tid commands fits) in
    record {
      done = Cmd.Again tid ∷ [];
      left = (rest session tid commands).front;
      of_whole = (rest session tid commands).is;
      stood = next;
    }

pub deliver_each-requires-clause-stood : goal.deliver_each-requires-clause-stood
deliver_each-requires-clause-stood g c =
    let r = c.requires.stood in
    let tid = c.args.tid in
    let next = c.in_ok-apply.ensures.applied r.session r.commands r.stood (room r.session tid r.commands r.holds) in
    let are = c.deref.ensures.value ∙ c.in-Ok.ensures r.session (one tid r.commands) (has_lines _ _ _ _ _ next) in
    record { session = r.session; commands = one tid r.commands; stood = next; holds = subst (λ places. Fits r.session (deliver_all places r.session (one tid r.commands))) (sym are) r.holds }

pub returns-clause-done : goal.returns-clause-done
returns-clause-done g c =
    on_success c.deliver_each.result
    (λ done session commands s fits.
    let tid = c.args.tid in
    let next = c.in_ok-apply.ensures.applied session commands s (room session tid commands fits) in
    let are = c.deref.ensures.value ∙ c.in-Ok.ensures session (one tid commands) (has_lines _ _ _ _ _ next) in
    subst (λ places. Stands g.D.Disk.tells c.deliver_each.new.world (map g.D.Disk.seen c.deliver_each.new.disks.items) session (deliver_all places session (one tid commands))) are
    (done session (one tid commands) next (subst (λ places. Fits session (deliver_all places session (one tid commands))) (sym are) fits)))
    c.deliver_each.ensures.done

pub returns-clause-failed : goal.returns-clause-failed
returns-clause-failed g c =
    on_failure _ _ c.deliver_each.result
    (λ why failed session commands s fits.
    let tid = c.args.tid in
    let next = c.in_ok-apply.ensures.applied session commands s (room session tid commands fits) in
    let are = c.deref.ensures.value ∙ c.in-Ok.ensures session (one tid commands) (has_lines _ _ _ _ _ next) in
    let whole = rules.send_again session tid commands in
    fails_within g.D.Disk.seen g.D.Disk.tells c.deliver_each.new.world (map g.D.Disk.seen c.deliver_each.new.disks.items) session why whole whole (one tid commands) commands (extends_here whole) (extends_one (Cmd.Again tid) commands)
    _ _ c.in_ok-apply.ensures.cause (subst (λ places. FailsToward g.D.Disk.seen g.D.Disk.tells why (map g.D.Disk.seen c.apply.new.disks.items) c.deliver_each.new.world (map g.D.Disk.seen c.deliver_each.new.disks.items) (deliver_all places session (one tid commands)) session (one tid commands)) are
    (failed session (one tid commands) next (subst (λ places. Fits session (deliver_all places session (one tid commands))) (sym are) fits))))
    c.deliver_each.ensures.failed

pub returns-clause-cause : goal.returns-clause-cause
returns-clause-cause g c =
    told_later c.deliver_each.result _ _ _ c.in_ok-apply.ensures.cause c.deliver_each.ensures.cause
