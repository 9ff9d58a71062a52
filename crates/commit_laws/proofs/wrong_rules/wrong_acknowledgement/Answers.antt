use Rattle.commit_laws.proofs.Refuted.{aborts_acknowledged_early_refuted}
use Rattle.commit_laws.proofs.wrong_rules.wrong_acknowledgement.Goals as goal

pub returns : goal.returns
returns c = aborts_acknowledged_early_refuted
