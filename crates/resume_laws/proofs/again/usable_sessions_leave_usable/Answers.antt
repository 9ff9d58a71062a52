use Rattle.resume_laws.proofs.AgainSessions.{sessions_leave_usable}
use Rattle.resume_laws.proofs.again.usable_sessions_leave_usable.Goals as goal

pub returns : goal.returns
returns c = sessions_leave_usable
