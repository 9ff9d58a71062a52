use Rattle.std.proofs.Common.{sym, ◌∙◌}
use Rattle.record_fields.specs.ExactItems.{rising_passes}
use Rattle.record_fields.proofs.items.items_of.Goals as goal

pub returns-clause-rising : goal.returns-clause-rising
returns-clause-rising g c = rising_passes g.T.Item.number_of c.in_ok-items.items.items (rw (← c.deref.ensures.value) (sym c.rises.ensures ∙ c.if-not-rises.false))
