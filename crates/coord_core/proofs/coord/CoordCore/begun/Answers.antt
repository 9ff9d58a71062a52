use Rattle.std.proofs.Common.{◌∙◌}
use Rattle.coord_core.proofs.coord.CoordCore.begun.Goals as goal

pub returns : goal.returns
returns g c = λ terms past h. c.attempts_of.ensures ∙ h.begun c.args.tx
