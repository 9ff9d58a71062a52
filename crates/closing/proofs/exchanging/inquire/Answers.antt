use Rattle.std.proofs.Common.{◌∷◌, List, map, refl, ◌∙◌}
use Rattle.std.proofs.lemmas.Result.{err_from_is_err_and}
use Rattle.mdb_base.specs.declared.names.SiteId.{SiteId}
use Rattle.mdb_base.specs.declared.names.Tid.{Tid}
use Rattle.fed_rules.specs.declared.commands.Command.{Command}
use Rattle.fed_rules.specs.declared.commands.Command.TheVariants as Cmd
use Rattle.fed_rules.specs.Sessions.{Session}
use Rattle.fed_rules.specs.Closing as rules
use Rattle.fed_rules.specs.Closing.{taken}
use Rattle.fed_world.specs.Worlds.{HasRoom}
use Rattle.closing.specs.Towards.{Fits}
use Rattle.fed_world.proofs.ForCallers.{failed_later, told_later}
use Rattle.closing.proofs.Grows.{last_sends_grow, taken_grows}
use Rattle.closing.proofs.Towards.{Extends, extends_here, extends_one, extends_twice, fails_at, fails_within, fits_less, on_failure, on_success, room_one}
use Rattle.closing.proofs.exchanging.inquire.Goals as goal

abbrev one : SiteId → Tid → List Command → List Command
one site tid commands = Cmd.Ask site tid ∷ commands

-- what stands behind the inquiry, and behind its answer
second : (session : Session) (site : SiteId) (tid : Tid) (commands : List Command) → Extends (rules.inquire session site tid commands) (taken session (one site tid commands))
second session site tid commands = last_sends_grow session (taken session (one site tid commands))

first : (session : Session) (site : SiteId) (tid : Tid) (commands : List Command) → Extends (rules.inquire session site tid commands) (one site tid commands)
first session site tid commands =
    extends_twice (one site tid commands) (taken session (one site tid commands)) (rules.inquire session site tid commands) (second session site tid commands) (taken_grows session (one site tid commands))

behind : (session : Session) (site : SiteId) (tid : Tid) (commands : List Command) → Extends (taken session (one site tid commands)) commands
behind session site tid commands =
    extends_twice commands (one site tid commands) (taken session (one site tid commands)) (taken_grows session (one site tid commands)) (extends_one (Cmd.Ask site tid) commands)

room : (session : Session) (site : SiteId) (tid : Tid) (commands : List Command) → Fits session (rules.inquire session site tid commands) → HasRoom session commands
room session site tid commands fits = room_one session (Cmd.Ask site tid) commands (fits_less session (rules.inquire session site tid commands) (one site tid commands) (first session site tid commands) fits)

fits_second : (session : Session) (site : SiteId) (tid : Tid) (commands : List Command) → Fits session (rules.inquire session site tid commands) → Fits session (taken session (one site tid commands))
fits_second session site tid commands fits = fits_less session (rules.inquire session site tid commands) (taken session (one site tid commands)) (second session site tid commands) fits

pub apply-requires-clause-stood : goal.apply-requires-clause-stood
apply-requires-clause-stood g c =
    let r = c.requires.stood in
    record { session = r.session; commands = r.commands; stood = r.stood; holds = room r.session c.args.site c.args.tid r.commands r.holds }

pub returns-in_err-apply-clause-failed : goal.returns-in_err-apply-clause-failed
returns-in_err-apply-clause-failed g c =
    let p = err_from_is_err_and c.from_residual.result c.from_residual.ensures.1 in
    rw (p.1, p.2) (λ session commands s fits.
    fails_within g.D.Disk.seen g.D.Disk.tells c.apply.new.self (map g.D.Disk.seen c.apply.new.disks.items) session c.in_err-apply.field-0.0 (rules.inquire session c.args.site c.args.tid commands) (one c.args.site c.args.tid commands) commands commands
    (first session c.args.site c.args.tid commands) (extends_here commands)
    _ _ refl (fails_at g.D.Disk.seen g.D.Disk.tells c.apply.new.self (map g.D.Disk.seen c.apply.new.disks.items) session c.in_err-apply.field-0.0 (Cmd.Ask c.args.site c.args.tid) commands c.args.world.now c.args.disks.now.items s c.in_err-apply.ensures.cause
    (c.in_err-apply.ensures.failed session commands s (room session c.args.site c.args.tid commands fits))))

pub take_sent-requires-clause-stood : goal.take_sent-requires-clause-stood
take_sent-requires-clause-stood g c =
    let r = c.requires.stood in
    record {
      session = r.session;
      commands = one c.args.site c.args.tid r.commands;
      stood = c.in_ok-apply.ensures.applied r.session r.commands r.stood (room r.session c.args.site c.args.tid r.commands r.holds);
      holds = fits_second r.session c.args.site c.args.tid r.commands r.holds;
    }

pub returns-in_err-take_sent-clause-failed : goal.returns-in_err-take_sent-clause-failed
returns-in_err-take_sent-clause-failed g c =
    let p = err_from_is_err_and c.from_residual-in_err-take_sent.result c.from_residual-in_err-take_sent.ensures.1 in
    rw (p.1, p.2) (λ session commands s fits.
    let next = c.in_ok-apply.ensures.applied session commands s (room session c.args.site c.args.tid commands fits) in
    fails_within g.D.Disk.seen g.D.Disk.tells c.take_sent.new.world (map g.D.Disk.seen c.take_sent.new.disks.items) session c.in_err-take_sent.field-0.0 (rules.inquire session c.args.site c.args.tid commands) (taken session (one c.args.site c.args.tid commands)) (one c.args.site c.args.tid commands) commands
    (second session c.args.site c.args.tid commands) (extends_one (Cmd.Ask c.args.site c.args.tid) commands)
    _ _ c.in_ok-apply.ensures.cause (c.in_err-take_sent.ensures.failed session (one c.args.site c.args.tid commands) next (fits_second session c.args.site c.args.tid commands fits)))

pub returns-in_err-take_sent-clause-cause : goal.returns-in_err-take_sent-clause-cause
returns-in_err-take_sent-clause-cause g c =
    let p = err_from_is_err_and c.from_residual-in_err-take_sent.result c.from_residual-in_err-take_sent.ensures.1 in
    rw (p.1, p.2) (failed_later c.in_err-take_sent.field-0.0 _ _ _ c.in_ok-apply.ensures.cause c.in_err-take_sent.ensures.cause)

pub give_sent-requires-clause-stood : goal.give_sent-requires-clause-stood
give_sent-requires-clause-stood g c =
    let r = c.requires.stood in
    let next = c.in_ok-apply.ensures.applied r.session r.commands r.stood (room r.session c.args.site c.args.tid r.commands r.holds) in
    record {
      session = r.session;
      commands = taken r.session (one c.args.site c.args.tid r.commands);
      stood = c.in_ok-take_sent.ensures.done r.session (one c.args.site c.args.tid r.commands) next (fits_second r.session c.args.site c.args.tid r.commands r.holds);
      holds = r.holds;
    }

pub returns-clause-done : goal.returns-clause-done
returns-clause-done g c =
    on_success c.give_sent.result
    (λ done session commands s fits.
    let next = c.in_ok-apply.ensures.applied session commands s (room session c.args.site c.args.tid commands fits) in
    let last = c.in_ok-take_sent.ensures.done session (one c.args.site c.args.tid commands) next (fits_second session c.args.site c.args.tid commands fits) in
    done session (taken session (one c.args.site c.args.tid commands)) last fits)
    c.give_sent.ensures.done

pub returns-clause-failed : goal.returns-clause-failed
returns-clause-failed g c =
    on_failure _ _ c.give_sent.result
    (λ why failed session commands s fits.
    let next = c.in_ok-apply.ensures.applied session commands s (room session c.args.site c.args.tid commands fits) in
    let last = c.in_ok-take_sent.ensures.done session (one c.args.site c.args.tid commands) next (fits_second session c.args.site c.args.tid commands fits) in
    let whole = rules.inquire session c.args.site c.args.tid commands in
    fails_within g.D.Disk.seen g.D.Disk.tells c.give_sent.new.world (map g.D.Disk.seen c.give_sent.new.disks.items) session why whole whole (taken session (one c.args.site c.args.tid commands)) commands (extends_here whole) (behind session c.args.site c.args.tid commands)
    _ _ (c.in_ok-take_sent.ensures.cause ∙ c.in_ok-apply.ensures.cause) (failed session (taken session (one c.args.site c.args.tid commands)) last fits))
    c.give_sent.ensures.failed

pub returns-clause-cause : goal.returns-clause-cause
returns-clause-cause g c =
    let falls = c.in_ok-take_sent.ensures.cause ∙ c.in_ok-apply.ensures.cause in
    told_later c.give_sent.result _ _ _ falls c.give_sent.ensures.cause
