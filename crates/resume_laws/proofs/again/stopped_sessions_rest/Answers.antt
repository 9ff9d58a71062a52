use Rattle.resume_laws.proofs.AgainSessions.{stopped_rest}
use Rattle.resume_laws.proofs.again.stopped_sessions_rest.Goals as goal

pub returns : goal.returns
returns c = stopped_rest
