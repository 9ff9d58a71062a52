use Rattle.std.proofs.Common.{◌≡◌, ◌-◌, true, false, List, length, map, slice_get, sym, ap, subst, ◌∙◌}
use Rattle.std.specs.Option.{option_copied}
use Rattle.fed_rules.specs.declared.commands.Line.{Line}
use Rattle.fed_rules.specs.declared.scenario.Scenario.{Scenario}
use Rattle.fed_rules.specs.Story.{story_of}
use Rattle.fed_rules.specs.Sessions.{fresh}
use Rattle.fed_world.specs.FreshWorlds.{Stands}
use Rattle.fed_world.proofs.ForCallers.{recalls, some_session}
use Rattle.audit_rules.specs.Faults.{names_declared}
use Rattle.run_audit.proofs.Due.{checked, declared_fault, next_line, undeclared_fault}
use Rattle.run_audit.proofs.turns.check_line.Goals as goal

pub returns-then-not-names_declared-clause-checks : goal.returns-then-not-names_declared-clause-checks
returns-then-not-names_declared-clause-checks g c = λ scenario commands s room.
    let is : c.scenario.result.now ≡ scenario = c.scenario.ensures (fresh scenario) commands s.has in
    undeclared_fault scenario (story_of scenario commands) c.args.printed.now
    (subst (λ (z : Scenario). names_declared z c.args.printed.now.command ≡ false) is (sym c.if-not-names_declared.ensures))

pub apply-requires-clause-stood : goal.apply-requires-clause-stood
apply-requires-clause-stood g c = some_session _ _ c.requires.stood

pub returns-clause-checks : goal.returns-clause-checks
returns-clause-checks g c = λ scenario commands s room.
    let seen = map g.D.Disk.seen c.args.disks.now.items in
    let story = story_of scenario commands in
    let is : c.scenario.result.now ≡ scenario = c.scenario.ensures (fresh scenario) commands s.has in
    let declared : names_declared scenario c.args.printed.now.command ≡ true =
    subst (λ (z : Scenario). names_declared z c.args.printed.now.command ≡ true) is (sym c.if-not-names_declared.ensures) in
    let next = c.in_ok-apply.ensures.applied (fresh scenario) commands s room in
    let due = next_line c.args.world.now c.apply.new.self scenario commands c.args.printed.now.command c.unwrap-due.result.now s.has next.has c.in_ok-apply.ensures.added
    (sym (ap option_copied (sym c.unwrap-due.ensures) ∙ c.last.ensures.value ∙ ap (λ (xs : List Line). slice_get xs (length xs - 1)) c.lines.ensures.lines)) in
    checked (Stands g.D.Disk.tells c.apply.new.self (map g.D.Disk.seen c.apply.new.disks.items)) c.args.printed.now scenario commands c.fault_of.result
    (declared_fault scenario story c.args.printed.now declared
    ∙ sym (c.fault_of.ensures scenario story due.0 due.1 (c.in-Ok.ensures scenario commands (recalls g.D.Disk.tells c.args.world.now seen (fresh scenario) commands s))))
    next
