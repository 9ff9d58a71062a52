use Rattle.progress_laws.proofs.Refuted.{unsettled_still}
use Rattle.progress_laws.proofs.wrong_rules.wrong_rest.Goals as goal

pub returns : goal.returns
returns c = unsettled_still
