use Rattle.resume_laws.proofs.AgainSessions.{stopped_keep_outcomes}
use Rattle.resume_laws.proofs.again.stopped_sessions_keep_outcomes.Goals as goal

pub returns : goal.returns
returns c = stopped_keep_outcomes
