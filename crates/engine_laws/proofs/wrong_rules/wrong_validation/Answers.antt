use Rattle.engine_laws.proofs.Refuted.{without_prepared_refuted, without_committed_refuted}
use Rattle.engine_laws.proofs.wrong_rules.wrong_validation.Goals as goal

pub returns-clause-no_prepared : goal.returns-clause-no_prepared
returns-clause-no_prepared c = without_prepared_refuted

pub returns-clause-no_committed : goal.returns-clause-no_committed
returns-clause-no_committed c = without_committed_refuted
