use Rattle.std.proofs.Common.{false, sym, ◌∙◌}
use Rattle.usable_journals.proofs.OnceLaws.{ends}
use Rattle.usable_journals.proofs.site_once.Once.end.Goals as goal

pub returns-else-was_in_doubt : goal.returns-else-was_in_doubt
returns-else-was_in_doubt c decision =
    ends c.args.self.now c.remove-was_in_doubt.new.self c.args.tid decision false c.contains-was_prepared.result (sym c.if-was_in_doubt.false ∙ c.remove-was_in_doubt.ensures.test)
    c.contains-was_prepared.ensures c.remove-was_in_doubt.ensures.updates.0
