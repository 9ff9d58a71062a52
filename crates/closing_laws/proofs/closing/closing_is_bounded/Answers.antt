use Rattle.closing_laws.proofs.Bound.{closing_short}
use Rattle.closing_laws.proofs.closing.closing_is_bounded.Goals as goal

pub returns : goal.returns
returns c = closing_short
