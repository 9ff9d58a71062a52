use Rattle.refuted_rules.proofs.Sites.{trimmed_missed}
use Rattle.refuted_rules.proofs.wrong_rules.wrong_sums.Goals as goal

pub returns : goal.returns
returns c = trimmed_missed
