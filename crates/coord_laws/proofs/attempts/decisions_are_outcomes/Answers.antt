use Rattle.coord_laws.proofs.Past.{decisions_outcomes, decided_awaited}
use Rattle.coord_laws.proofs.attempts.decisions_are_outcomes.Goals as goal

pub returns-clause-outcome : goal.returns-clause-outcome
returns-clause-outcome c = decisions_outcomes

pub returns-clause-awaited : goal.returns-clause-awaited
returns-clause-awaited c = decided_awaited
