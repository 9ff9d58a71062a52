use Rattle.engine_laws.proofs.LockingReplies.{locking_answers, locking_takes, locking_seals}
use Rattle.engine_laws.proofs.locking.locking_answers.Goals as goal

pub returns-clause-access : goal.returns-clause-access
returns-clause-access c = locking_answers

pub returns-clause-ticket : goal.returns-clause-ticket
returns-clause-ticket c = locking_takes

pub returns-clause-sealing : goal.returns-clause-sealing
returns-clause-sealing c = locking_seals
