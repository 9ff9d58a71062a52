use Rattle.std.proofs.Common.{◌∙◌}
use Rattle.coord_tables.proofs.begun.find.Goals as goal

pub returns : goal.returns
returns c = c.copied.ensures ∙ c.get.ensures.value
