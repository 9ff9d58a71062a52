use Rattle.federation_laws.proofs.Refuted.{by_decision_time_refuted}
use Rattle.federation_laws.proofs.wrong_rules.wrong_order.Goals as goal

pub returns : goal.returns
returns c = by_decision_time_refuted
