use Rattle.made_laws.proofs.Refuted.{added_twice}
use Rattle.made_laws.proofs.wrong_rules.wrong_moves.Goals as goal

pub returns : goal.returns
returns c = added_twice
