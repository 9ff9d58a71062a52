use Rattle.std.proofs.Common.{◌∷◌, List, map, refl, ◌∙◌, ap}
use Rattle.std.proofs.lemmas.Result.{err_from_is_err_and}
use Rattle.fed_rules.specs.declared.commands.Command.{Command}
use Rattle.fed_rules.specs.declared.commands.Place.{Place}
use Rattle.fed_rules.specs.declared.scenario.Scenario.{Scenario}
use Rattle.fed_rules.specs.Closing.{sent_next}
use Rattle.fed_rules.specs.Sessions.{fresh}
use Rattle.closing.specs.Alone.{delivered_next}
use Rattle.closing.specs.Steps.{give_of}
use Rattle.fed_world.specs.Worlds.{HasRoom}
use Rattle.closing.specs.Towards.{Fits}
use Rattle.closing.proofs.Deliveries.{next_grows}
use Rattle.fed_world.proofs.ForCallers.{failed_later}
use Rattle.closing.proofs.Grows.{taken_grows}
use Rattle.closing.proofs.Towards.{extends_here, extends_one, fails_at, fails_within, fits_less, room_one, short_here, short_within}
use Rattle.closing.proofs.World.{has_lines}
use Rattle.closing.proofs.alone.deliver_next.Goals as goal

room : (scenario : Scenario) (place : Place) (commands : List Command) → Fits (fresh scenario) (delivered_next place scenario commands) → HasRoom (fresh scenario) commands
room scenario place commands fits =
    let one = give_of place ∷ commands in
    room_one (fresh scenario) (give_of place) commands (fits_less (fresh scenario) (delivered_next place scenario commands) one (taken_grows (fresh scenario) one) fits)

pub apply-requires-clause-stood : goal.apply-requires-clause-stood
apply-requires-clause-stood g c =
    let r = c.requires.stood in
    record { session = fresh r.session; commands = r.commands; stood = r.stood; holds = room r.session c.args.place r.commands r.holds }

pub returns-in_err-apply-clause-failed : goal.returns-in_err-apply-clause-failed
returns-in_err-apply-clause-failed g c =
    let p = err_from_is_err_and c.from_residual.result c.from_residual.ensures.1 in
    rw (p.1, p.2) (λ scenario commands s fits.
    let place = c.args.place in
    let one = give_of place ∷ commands in
    fails_within g.D.Disk.seen g.D.Disk.tells c.apply.new.self (map g.D.Disk.seen c.apply.new.disks.items) (fresh scenario) c.in_err-apply.field-0.0 (delivered_next place scenario commands) one commands commands
    (taken_grows (fresh scenario) one) (extends_here commands)
    _ _ refl (fails_at g.D.Disk.seen g.D.Disk.tells c.apply.new.self (map g.D.Disk.seen c.apply.new.disks.items) (fresh scenario) c.in_err-apply.field-0.0 (give_of place) commands c.args.world.now c.args.disks.now.items s c.in_err-apply.ensures.cause
    (c.in_err-apply.ensures.failed (fresh scenario) commands s (room scenario place commands fits))))

pub returns-in_default-clause-failed : goal.returns-in_default-clause-failed
returns-in_default-clause-failed g c scenario commands s fits =
    let place = c.args.place in
    let one = give_of place ∷ commands in
    short_within g.D.Disk.tells c.apply.new.self (map g.D.Disk.seen c.apply.new.disks.items) (fresh scenario) (delivered_next place scenario commands) (delivered_next place scenario commands) one commands
    (extends_here (delivered_next place scenario commands)) (extends_one (give_of place) commands)
    (short_here g.D.Disk.tells c.apply.new.self (map g.D.Disk.seen c.apply.new.disks.items) (fresh scenario) (delivered_next place scenario commands) one (taken_grows (fresh scenario) one)
    (c.in_ok-apply.ensures.applied (fresh scenario) commands s (room scenario place commands fits)))

pub take_sent-requires-clause-stood : goal.take_sent-requires-clause-stood
take_sent-requires-clause-stood g c =
    let r = c.requires.stood in
    record {
      session = fresh r.session;
      commands = give_of c.args.place ∷ r.commands;
      stood = c.in_ok-apply.ensures.applied (fresh r.session) r.commands r.stood (room r.session c.args.place r.commands r.holds);
      holds = r.holds;
    }

pub returns-in_err-take_sent-clause-failed : goal.returns-in_err-take_sent-clause-failed
returns-in_err-take_sent-clause-failed g c =
    let p = err_from_is_err_and c.from_residual-in_err-take_sent.result c.from_residual-in_err-take_sent.ensures.1 in
    rw (p.1, p.2) (λ scenario commands s fits.
    let place = c.args.place in
    let one = give_of place ∷ commands in
    let whole = delivered_next place scenario commands in
    fails_within g.D.Disk.seen g.D.Disk.tells c.take_sent.new.world (map g.D.Disk.seen c.take_sent.new.disks.items) (fresh scenario) c.in_err-take_sent.field-0.0 whole whole one commands (extends_here whole) (extends_one (give_of place) commands)
    _ _ c.in_ok-apply.ensures.cause (c.in_err-take_sent.ensures.failed (fresh scenario) one (c.in_ok-apply.ensures.applied (fresh scenario) commands s (room scenario place commands fits)) fits))

pub returns-in_err-take_sent-clause-cause : goal.returns-in_err-take_sent-clause-cause
returns-in_err-take_sent-clause-cause g c =
    let p = err_from_is_err_and c.from_residual-in_err-take_sent.result c.from_residual-in_err-take_sent.ensures.1 in
    rw (p.1, p.2) (failed_later c.in_err-take_sent.field-0.0 _ _ _ c.in_ok-apply.ensures.cause c.in_err-take_sent.ensures.cause)

pub returns-in-Ok-sent_at-clause-sent : goal.returns-in-Ok-sent_at-clause-sent
returns-in-Ok-sent_at-clause-sent g c scenario commands s fits =
    let place = c.args.place in
    let one = give_of place ∷ commands in
    let next = c.in_ok-apply.ensures.applied (fresh scenario) commands s (room scenario place commands fits) in
    let last = c.in_ok-take_sent.ensures.done (fresh scenario) one next fits in
    c.in-Ok-sent_at.ensures scenario (delivered_next place scenario commands) (has_lines _ _ _ _ _ last)
    ∙ ap (sent_next scenario (delivered_next place scenario commands)) (c.as_slice.ensures ∙ c.in-Ok.ensures (fresh scenario) one (has_lines _ _ _ _ _ next))

pub returns-in-Ok-sent_at-clause-done : goal.returns-in-Ok-sent_at-clause-done
returns-in-Ok-sent_at-clause-done g c scenario commands s fits =
    c.in_ok-take_sent.ensures.done (fresh scenario) (give_of c.args.place ∷ commands) (c.in_ok-apply.ensures.applied (fresh scenario) commands s (room scenario c.args.place commands fits)) fits

pub returns-in-Ok-sent_at-clause-cause : goal.returns-in-Ok-sent_at-clause-cause
returns-in-Ok-sent_at-clause-cause g c =
    c.in_ok-take_sent.ensures.cause ∙ c.in_ok-apply.ensures.cause

pub returns-clause-failed : goal.returns-clause-failed
returns-clause-failed g c scenario commands s fits =
    let place = c.args.place in
    let one = give_of place ∷ commands in
    let whole = delivered_next place scenario commands in
    let last = c.in_ok-take_sent.ensures.done (fresh scenario) one (c.in_ok-apply.ensures.applied (fresh scenario) commands s (room scenario place commands fits)) fits in
    short_within g.D.Disk.tells c.take_sent.new.world (map g.D.Disk.seen c.take_sent.new.disks.items) (fresh scenario) whole whole whole commands (extends_here whole) (next_grows scenario place commands)
    (short_here g.D.Disk.tells c.take_sent.new.world (map g.D.Disk.seen c.take_sent.new.disks.items) (fresh scenario) whole whole (extends_here whole) last)

pub returns-clause-cause : goal.returns-clause-cause
returns-clause-cause g c =
    c.in_ok-take_sent.ensures.cause ∙ c.in_ok-apply.ensures.cause
