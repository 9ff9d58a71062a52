use Rattle.std.proofs.Common.{sym, ◌∙◌, ap}
use Rattle.std.specs.Prelude.{List}
use Rattle.std.proofs.lemmas.List.{drop_all}
use Rattle.fed_rules.specs.declared.commands.Line.{Line}
use Rattle.session_report.specs.Told.{told_on}
use Rattle.session_report.proofs.ToldOn.{told_all}
use Rattle.session_report.proofs.telling.Telling.of.Goals as goal

pub returns : goal.returns
returns c =
    sym (ap (λ (ls : List Line). told_on c.args.channels.now ls c.loop-line.telling) (drop_all c.loop-line.line-index c.args.lines.now c.loop-line-test.false))
    ∙ (c.loop-line.invariant ∙ told_all c.args.channels.now c.args.lines.now)
