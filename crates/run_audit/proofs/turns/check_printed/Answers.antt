use Rattle.std.proofs.Common.{List, Option, map, subst, sym, ap, ◌∙◌}
use Rattle.mdb_base.specs.declared.names.Tid.{Tid}
use Rattle.fed_rules.specs.Sessions.{fresh}
use Rattle.fed_rules.specs.Story.{story_of}
use Rattle.fed_world.specs.FreshWorlds.{Stands}
use Rattle.fed_world.proofs.ForCallers.{recalls}
use Rattle.scenario_text.specs.Pieces.{lines}
use Rattle.audit_rules.specs.declared.verdict.What.{What}
use Rattle.audit_rules.specs.Agreement as agreement
use Rattle.audit_text.specs.declared.reading.Printed.{Printed}
use Rattle.audit_text.specs.Lines.{as_printed}
use Rattle.run_audit.specs.Turns.{Checks, line_of}
use Rattle.run_audit.proofs.Behind.{line_differs, line_goes_on, neither_differs, order_decides}
use Rattle.run_audit.proofs.turns.check_printed.Goals as goal

pub returns-in-Some-clause-turns : goal.returns-in-Some-clause-turns
returns-in-Some-clause-turns g c = λ scenario commands s room.
    let story = story_of scenario commands in
    line_differs scenario c.args.number (line_of c.args.line) (lines c.args.line.behind.now) story c.in-Says.said c.in-Some.what
    (sym c.in-Ok.ensures ∙ ap (λ (p : Printed). as_printed p) c.in-Says.is)
    (subst (λ (o : Option What). Checks (Stands g.D.Disk.tells c.check_line.new.world (map g.D.Disk.seen c.check_line.new.disks.items)) c.in-Says.said scenario commands o) c.in-Some.is
    (c.in_ok-what-in-Says.ensures.checks scenario commands s room))

pub returns-in-Says-clause-turns : goal.returns-in-Says-clause-turns
returns-in-Says-clause-turns g c = λ scenario commands s room.
    let story = story_of scenario commands in
    let checked = subst (λ (o : Option What). Checks (Stands g.D.Disk.tells c.check_line.new.world (map g.D.Disk.seen c.check_line.new.disks.items)) c.in-Says.said scenario commands o) c.in-None.is
    (c.in_ok-what-in-Says.ensures.checks scenario commands s room) in
    record {
      command = c.in-Says.said.command;
      stands = checked.1;
      verdict = line_goes_on scenario c.args.number (line_of c.args.line) (lines c.args.line.behind.now) story c.in-Says.said (sym c.in-Ok.ensures ∙ ap (λ (p : Printed). as_printed p) c.in-Says.is) checked.0;
    }

pub at_order-requires-clause-stood : goal.at_order-requires-clause-stood
at_order-requires-clause-stood g c =
    let r = c.requires.stood in
    record { session = r.session; commands = r.commands; stood = recalls g.D.Disk.tells c.args.world.now (map g.D.Disk.seen c.args.disks.now.items) (fresh r.session) r.commands r.stood; holds = tt }

pub returns-in-Ok-at_order-clause-turns : goal.returns-in-Ok-at_order-clause-turns
returns-in-Ok-at_order-clause-turns g c = λ scenario commands s room.
    c.in-Ok-at_order.ensures scenario commands (recalls g.D.Disk.tells c.args.world.now (map g.D.Disk.seen c.args.disks.now.items) (fresh scenario) commands s)
    ∙ order_decides scenario c.args.number (line_of c.args.line) (lines c.args.line.behind.now) (story_of scenario commands) c.as_slice.result.now
    (sym c.in-Ok.ensures ∙ (ap (λ (p : Printed). as_printed p) c.in-Orders.is ∙ ap (λ (tids : List Tid). agreement.Orders tids) (sym c.as_slice.ensures)))

pub returns-clause-turns : goal.returns-clause-turns
returns-clause-turns g c = λ scenario commands s room.
    neither_differs scenario c.args.number (line_of c.args.line) (lines c.args.line.behind.now) (story_of scenario commands) (sym c.in-Ok.ensures ∙ ap (λ (p : Printed). as_printed p) c.in-Neither.is)
