use Rattle.resume_laws.proofs.ClosedSessions.{all_close_at_rest}
use Rattle.resume_laws.proofs.closed.sessions_close_at_rest.Goals as goal

pub returns : goal.returns
returns c = all_close_at_rest c.closed_sessions_rest.ensures
