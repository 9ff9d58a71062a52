use Rattle.std.proofs.Common.{List, sym, subst}
use Rattle.fed_rules.specs.declared.commands.Line.{Line}
use Rattle.fed_rules.specs.Right.{AreLines}
use Rattle.fed_world.specs.Lines.{AreLinesIn}
use Rattle.fed_world.proofs.RightLines.{lines_fresh}
use Rattle.fed_world.proofs.world.World.lines.Goals as goal

pub returns-clause-right : goal.returns-clause-right
returns-clause-right c session commands h = subst (λ (ls : List Line). AreLinesIn ls session commands) (sym c.as_slice.ensures.value) (record { commands_are = h.commands_are; right = h.right })

pub returns-clause-fresh : goal.returns-clause-fresh
returns-clause-fresh c scenario commands h =
    subst (λ (ls : List Line). AreLines ls scenario commands) (sym c.as_slice.ensures.value)
    (lines_fresh c.args.self.now.lines.items scenario commands (record { commands_are = h.commands_are; right = h.right }))
