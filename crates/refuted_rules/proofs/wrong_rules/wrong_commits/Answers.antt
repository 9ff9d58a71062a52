use Rattle.refuted_rules.proofs.Coordinators.{committed_twice}
use Rattle.refuted_rules.proofs.Graphs.{cycle_closed}
use Rattle.refuted_rules.proofs.Unmade.{unmade}
use Rattle.refuted_rules.proofs.wrong_rules.wrong_commits.Goals as goal

pub returns-clause-twice : goal.returns-clause-twice
returns-clause-twice c = committed_twice

pub returns-clause-cycle : goal.returns-clause-cycle
returns-clause-cycle c = cycle_closed

pub returns-clause-unmade : goal.returns-clause-unmade
returns-clause-unmade c = unmade
