use Rattle.made_laws.proofs.Refuted.{second_missed}
use Rattle.made_laws.proofs.wrong_rules.wrong_counts.Goals as goal

pub returns : goal.returns
returns c = second_missed
