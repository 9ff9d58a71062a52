use Rattle.refuted_rules.proofs.Orders.{not_ranked}
use Rattle.refuted_rules.proofs.wrong_rules.wrong_ranking.Goals as goal

pub returns : goal.returns
returns c = not_ranked
