use Rattle.closing_laws.proofs.AloneBound.{finishing_short}
use Rattle.closing_laws.proofs.alone.finishing_is_bounded.Goals as goal

pub returns : goal.returns
returns c = finishing_short
