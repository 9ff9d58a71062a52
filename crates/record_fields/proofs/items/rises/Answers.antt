use Rattle.std.proofs.Common.{sym, ◌∙◌}
use Rattle.record_fields.specs.ExactItems.{short_rises}
use Rattle.record_fields.proofs.items.rises.Goals as goal

pub returns : goal.returns
returns g c = sym (short_rises g.T.Item.number_of c.loop-rest.rest.now c.in_default.len_below) ∙ c.loop-rest.invariant
