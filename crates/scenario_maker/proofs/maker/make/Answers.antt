use Rattle.std.proofs.Common.{ap, ◌∙◌}
use Rattle.scenario_maker.specs.Made.{made_transactions}
use Rattle.scenario_maker.proofs.Sound.{scenario_of}
use Rattle.scenario_maker.proofs.maker.make.Goals as goal

pub invariant_of-result : goal.invariant_of-result
invariant_of-result c =
    scenario_of c.args.number c.args.sites c.args.transactions c.in_ok-lines.lines c.in_ok-items.items c.in_ok-transactions.transactions c.of.result c.of-2.result
    c.requires.some_sites c.requires.few_sites c.requires.few_transactions c.in_ok-lines.ensures.lines c.in_ok-items.ensures
    (c.in_ok-transactions.ensures ∙ ap (made_transactions c.args.sites c.args.transactions) c.in_ok-lines.ensures.last)
    (c.of.ensures ∙ c.new.ensures.items) (c.of-2.ensures ∙ c.new-2.ensures.items)
