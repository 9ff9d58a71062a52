use Rattle.commit_laws.proofs.ForgettingProofs.{known-while-missing, forgotten-when-none-is-missing, forgotten-are-acknowledged, restarts-count-anew}
use Rattle.commit_laws.proofs.forgetting_laws.attempts_are_forgotten_when_acknowledged.Goals as goal

pub returns-clause-known : goal.returns-clause-known
returns-clause-known c = known-while-missing

pub returns-clause-forgotten : goal.returns-clause-forgotten
returns-clause-forgotten c = forgotten-when-none-is-missing

pub returns-clause-acknowledged : goal.returns-clause-acknowledged
returns-clause-acknowledged c = forgotten-are-acknowledged

pub returns-clause-restarted : goal.returns-clause-restarted
returns-clause-restarted c = restarts-count-anew
