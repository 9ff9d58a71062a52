use Rattle.progress_laws.proofs.Adds.{closing_adds, finishing_adds}
use Rattle.progress_laws.proofs.ends.ends_add_their_own.Goals as goal

pub returns-clause-closing : goal.returns-clause-closing
returns-clause-closing c = closing_adds

pub returns-clause-finishing : goal.returns-clause-finishing
returns-clause-finishing c = finishing_adds
