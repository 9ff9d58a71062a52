use Rattle.std.proofs.Common.{◌∷◌, List, map, refl, ◌∙◌}
use Rattle.std.proofs.lemmas.Result.{err_from_is_err_and}
use Rattle.mdb_base.specs.declared.acts.Step.{Step}
use Rattle.mdb_base.specs.declared.names.Tx.{Tx}
use Rattle.fed_rules.specs.declared.commands.Command.{Command}
use Rattle.fed_rules.specs.declared.commands.Command.TheVariants as Cmd
use Rattle.fed_rules.specs.declared.scenario.Scenario.{Scenario}
use Rattle.fed_rules.specs.Closing as rules
use Rattle.fed_rules.specs.Sessions.{fresh}
use Rattle.fed_world.specs.Worlds.{HasRoom}
use Rattle.closing.specs.Towards.{Fits}
use Rattle.closing.proofs.Deliveries.{steps_grow}
use Rattle.fed_world.proofs.ForCallers.{failed_later, told_later}
use Rattle.closing.proofs.Towards.{Extends, extends_here, extends_one, extends_twice, fails_at, fails_within, fits_less, on_failure_told, on_success, room_one}
use Rattle.closing.proofs.alone.local_alone.Goals as goal

-- behind the begin, and behind each step
abbrev one : Tx → List Command → List Command
one tx commands = Cmd.Begin tx ∷ commands

abbrev two : Tx → List Step → List Command → List Command
two tx steps commands = rules.steps_alone tx steps (one tx commands)

first : (tx : Tx) (steps : List Step) (commands : List Command) → Extends (rules.local_alone tx steps commands) (one tx commands)
first tx steps commands = extends_twice (one tx commands) (two tx steps commands) (rules.local_alone tx steps commands) (extends_one (Cmd.Commit tx) (two tx steps commands)) (steps_grow tx steps (one tx commands))

second : (tx : Tx) (steps : List Step) (commands : List Command) → Extends (two tx steps commands) commands
second tx steps commands = extends_twice commands (one tx commands) (two tx steps commands) (steps_grow tx steps (one tx commands)) (extends_one (Cmd.Begin tx) commands)

room : (scenario : Scenario) (tx : Tx) (steps : List Step) (commands : List Command) → Fits (fresh scenario) (rules.local_alone tx steps commands) → HasRoom (fresh scenario) commands
room scenario tx steps commands fits = room_one (fresh scenario) (Cmd.Begin tx) commands (fits_less (fresh scenario) (rules.local_alone tx steps commands) (one tx commands) (first tx steps commands) fits)

fits_two : (scenario : Scenario) (tx : Tx) (steps : List Step) (commands : List Command) → Fits (fresh scenario) (rules.local_alone tx steps commands) → Fits (fresh scenario) (two tx steps commands)
fits_two scenario tx steps commands fits = fits_less (fresh scenario) (rules.local_alone tx steps commands) (two tx steps commands) (extends_one (Cmd.Commit tx) (two tx steps commands)) fits

last_room : (scenario : Scenario) (tx : Tx) (steps : List Step) (commands : List Command) → Fits (fresh scenario) (rules.local_alone tx steps commands) → HasRoom (fresh scenario) (two tx steps commands)
last_room scenario tx steps commands fits = room_one (fresh scenario) (Cmd.Commit tx) (two tx steps commands) fits

pub apply-requires-clause-stood : goal.apply-requires-clause-stood
apply-requires-clause-stood g c =
    let r = c.requires.stood in
    record { session = fresh r.session; commands = r.commands; stood = r.stood; holds = room r.session c.args.tx c.args.steps.now r.commands r.holds }

pub returns-in_err-apply-clause-failed : goal.returns-in_err-apply-clause-failed
returns-in_err-apply-clause-failed g c =
    let p = err_from_is_err_and c.from_residual.result c.from_residual.ensures.1 in
    rw (p.1, p.2) (λ scenario commands s fits.
    let tx = c.args.tx in
    let steps = c.args.steps.now in
    fails_within g.D.Disk.seen g.D.Disk.tells c.apply.new.self (map g.D.Disk.seen c.apply.new.disks.items) (fresh scenario) c.in_err-apply.field-0.0 (rules.local_alone tx steps commands) (one tx commands) commands commands
    (first tx steps commands) (extends_here commands)
    _ _ refl (fails_at g.D.Disk.seen g.D.Disk.tells c.apply.new.self (map g.D.Disk.seen c.apply.new.disks.items) (fresh scenario) c.in_err-apply.field-0.0 (Cmd.Begin tx) commands c.args.world.now c.args.disks.now.items s c.in_err-apply.ensures.cause
    (c.in_err-apply.ensures.failed (fresh scenario) commands s (room scenario tx steps commands fits))))

pub steps_alone-requires-clause-stood : goal.steps_alone-requires-clause-stood
steps_alone-requires-clause-stood g c =
    let r = c.requires.stood in
    record {
      session = r.session;
      commands = one c.args.tx r.commands;
      stood = c.in_ok-apply.ensures.applied (fresh r.session) r.commands r.stood (room r.session c.args.tx c.args.steps.now r.commands r.holds);
      holds = fits_two r.session c.args.tx c.args.steps.now r.commands r.holds;
    }

pub returns-in_err-steps_alone-clause-failed : goal.returns-in_err-steps_alone-clause-failed
returns-in_err-steps_alone-clause-failed g c =
    let p = err_from_is_err_and c.from_residual-in_err-steps_alone.result c.from_residual-in_err-steps_alone.ensures.1 in
    rw (p.1, p.2) (λ scenario commands s fits.
    let tx = c.args.tx in
    let steps = c.args.steps.now in
    let next = c.in_ok-apply.ensures.applied (fresh scenario) commands s (room scenario tx steps commands fits) in
    fails_within g.D.Disk.seen g.D.Disk.tells c.steps_alone.new.world (map g.D.Disk.seen c.steps_alone.new.disks.items) (fresh scenario) c.in_err-steps_alone.field-0.0 (rules.local_alone tx steps commands) (two tx steps commands) (one tx commands) commands
    (extends_one (Cmd.Commit tx) (two tx steps commands)) (extends_one (Cmd.Begin tx) commands)
    _ _ c.in_ok-apply.ensures.cause (c.in_err-steps_alone.ensures.failed scenario (one tx commands) next (fits_two scenario tx steps commands fits)))

pub returns-in_err-steps_alone-clause-cause : goal.returns-in_err-steps_alone-clause-cause
returns-in_err-steps_alone-clause-cause g c =
    let p = err_from_is_err_and c.from_residual-in_err-steps_alone.result c.from_residual-in_err-steps_alone.ensures.1 in
    rw (p.1, p.2) (failed_later c.in_err-steps_alone.field-0.0 _ _ _ c.in_ok-apply.ensures.cause c.in_err-steps_alone.ensures.cause)

pub apply-requires-2-clause-stood : goal.apply-requires-2-clause-stood
apply-requires-2-clause-stood g c =
    let r = c.requires.stood in
    let tx = c.args.tx in
    let steps = c.args.steps.now in
    let next = c.in_ok-apply.ensures.applied (fresh r.session) r.commands r.stood (room r.session tx steps r.commands r.holds) in
    record {
      session = fresh r.session;
      commands = two tx steps r.commands;
      stood = c.in_ok-steps_alone.ensures.done r.session (one tx r.commands) next (fits_two r.session tx steps r.commands r.holds);
      holds = last_room r.session tx steps r.commands r.holds;
    }

pub returns-clause-done : goal.returns-clause-done
returns-clause-done g c =
    on_success c.apply-2.result
    (λ applied scenario commands s fits.
    let tx = c.args.tx in
    let steps = c.args.steps.now in
    let next = c.in_ok-apply.ensures.applied (fresh scenario) commands s (room scenario tx steps commands fits) in
    let last = c.in_ok-steps_alone.ensures.done scenario (one tx commands) next (fits_two scenario tx steps commands fits) in
    applied (fresh scenario) (two tx steps commands) last (last_room scenario tx steps commands fits))
    c.apply-2.ensures.applied

pub returns-clause-failed : goal.returns-clause-failed
returns-clause-failed g c =
    on_failure_told _ _ c.apply-2.result _ _
    (λ why told failed scenario commands s fits.
    let tx = c.args.tx in
    let steps = c.args.steps.now in
    let next = c.in_ok-apply.ensures.applied (fresh scenario) commands s (room scenario tx steps commands fits) in
    let last = c.in_ok-steps_alone.ensures.done scenario (one tx commands) next (fits_two scenario tx steps commands fits) in
    let whole = rules.local_alone tx steps commands in
    fails_within g.D.Disk.seen g.D.Disk.tells c.apply-2.new.self (map g.D.Disk.seen c.apply-2.new.disks.items) (fresh scenario) why whole whole (two tx steps commands) commands (extends_here whole) (second tx steps commands)
    _ _ (c.in_ok-steps_alone.ensures.cause ∙ c.in_ok-apply.ensures.cause) (fails_at g.D.Disk.seen g.D.Disk.tells c.apply-2.new.self (map g.D.Disk.seen c.apply-2.new.disks.items) (fresh scenario) why (Cmd.Commit tx) (two tx steps commands) c.steps_alone.new.world c.steps_alone.new.disks.items last told (failed (fresh scenario) (two tx steps commands) last (last_room scenario tx steps commands fits))))
    c.apply-2.ensures.cause c.apply-2.ensures.failed

pub returns-clause-cause : goal.returns-clause-cause
returns-clause-cause g c =
    let falls = c.in_ok-steps_alone.ensures.cause ∙ c.in_ok-apply.ensures.cause in
    told_later c.apply-2.result _ _ _ falls c.apply-2.ensures.cause
