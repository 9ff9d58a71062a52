use Rattle.made_laws.proofs.Worth.{moves_keep}
use Rattle.made_laws.proofs.made.moves_keep_worth.Goals as goal

pub returns : goal.returns
returns c = moves_keep
