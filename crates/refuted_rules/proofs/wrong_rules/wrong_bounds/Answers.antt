use Rattle.refuted_rules.proofs.Bounds.{closes_later, finishes_later}
use Rattle.refuted_rules.proofs.wrong_rules.wrong_bounds.Goals as goal

pub returns-clause-closing : goal.returns-clause-closing
returns-clause-closing c = closes_later

pub returns-clause-finishing : goal.returns-clause-finishing
returns-clause-finishing c = finishes_later
