use Rattle.std.proofs.Common.{◌∷◌, List, map, refl}
use Rattle.std.proofs.lemmas.Result.{err_from_is_err_and}
use Rattle.fed_rules.specs.declared.commands.Command.{Command}
use Rattle.fed_rules.specs.declared.commands.Place.{Place}
use Rattle.fed_rules.specs.Sessions.{Session}
use Rattle.fed_rules.specs.Closing.{deliver as delivered}
use Rattle.closing.specs.Steps.{give_of}
use Rattle.fed_world.specs.Worlds.{HasRoom}
use Rattle.closing.specs.Towards.{Fits}
use Rattle.fed_world.proofs.ForCallers.{told_later}
use Rattle.closing.proofs.Grows.{taken_grows}
use Rattle.closing.proofs.Towards.{extends_here, extends_one, fails_at, fails_within, fits_less, on_failure, on_success, room_one}
use Rattle.closing.proofs.delivering.deliver.Goals as goal

room : (session : Session) (place : Place) (commands : List Command) → Fits session (delivered session place commands) → HasRoom session commands
room session place commands fits =
    let one = give_of place ∷ commands in
    room_one session (give_of place) commands (fits_less session (delivered session place commands) one (taken_grows session one) fits)

pub apply-requires-clause-stood : goal.apply-requires-clause-stood
apply-requires-clause-stood g c =
    let r = c.requires.stood in
    record { session = r.session; commands = r.commands; stood = r.stood; holds = room r.session c.args.place r.commands r.holds }

pub returns-in_err-apply-clause-failed : goal.returns-in_err-apply-clause-failed
returns-in_err-apply-clause-failed g c =
    let p = err_from_is_err_and c.from_residual.result c.from_residual.ensures.1 in
    rw (p.1, p.2) (λ session commands s fits.
    let place = c.args.place in
    let one = give_of place ∷ commands in
    fails_within g.D.Disk.seen g.D.Disk.tells c.apply.new.self (map g.D.Disk.seen c.apply.new.disks.items) session c.in_err-apply.field-0.0 (delivered session place commands) one commands commands
    (taken_grows session one) (extends_here commands)
    _ _ refl (fails_at g.D.Disk.seen g.D.Disk.tells c.apply.new.self (map g.D.Disk.seen c.apply.new.disks.items) session c.in_err-apply.field-0.0 (give_of place) commands c.args.world.now c.args.disks.now.items s c.in_err-apply.ensures.cause
    (c.in_err-apply.ensures.failed session commands s (room session place commands fits))))

pub take_sent-requires-clause-stood : goal.take_sent-requires-clause-stood
take_sent-requires-clause-stood g c =
    let r = c.requires.stood in
    record {
      session = r.session;
      commands = give_of c.args.place ∷ r.commands;
      stood = c.in_ok-apply.ensures.applied r.session r.commands r.stood (room r.session c.args.place r.commands r.holds);
      holds = r.holds;
    }

pub returns-clause-done : goal.returns-clause-done
returns-clause-done g c =
    on_success c.take_sent.result
    (λ done session commands s fits. done session (give_of c.args.place ∷ commands) (c.in_ok-apply.ensures.applied session commands s (room session c.args.place commands fits)) fits)
    c.take_sent.ensures.done

pub returns-clause-failed : goal.returns-clause-failed
returns-clause-failed g c =
    on_failure _ _ c.take_sent.result
    (λ why failed session commands s fits.
    let place = c.args.place in
    let one = give_of place ∷ commands in
    let whole = delivered session place commands in
    fails_within g.D.Disk.seen g.D.Disk.tells c.take_sent.new.world (map g.D.Disk.seen c.take_sent.new.disks.items) session why whole whole one commands (extends_here whole) (extends_one (give_of place) commands)
    _ _ c.in_ok-apply.ensures.cause (failed session one (c.in_ok-apply.ensures.applied session commands s (room session place commands fits)) fits))
    c.take_sent.ensures.failed

pub returns-clause-cause : goal.returns-clause-cause
returns-clause-cause g c =
    told_later c.take_sent.result _ _ _ c.in_ok-apply.ensures.cause c.take_sent.ensures.cause
