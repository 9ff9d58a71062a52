use Rattle.std.proofs.Common.{◌∙◌}
use Rattle.fed_rules.specs.Sessions.{fresh}
use Rattle.closing.proofs.Cores.{on_ok}
use Rattle.closing.proofs.LastLine.{sent_at_none, sent_at_some}
use Rattle.closing.proofs.alone.sent_at.Goals as goal

pub returns-then-is_empty : goal.returns-then-is_empty
returns-then-is_empty c scenario commands h = c.none.ensures ∙ sent_at_none scenario commands c.args.answers.now c.if-is_empty.ensures

pub returns : goal.returns
returns c = on_ok _ _ c.sent_again.result (λ places last scenario commands h. last (fresh scenario) commands h ∙ sent_at_some scenario commands c.args.answers.now c.if-is_empty.ensures) c.sent_again.ensures
