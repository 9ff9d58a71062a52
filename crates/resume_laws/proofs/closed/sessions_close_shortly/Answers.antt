use Rattle.resume_laws.proofs.ClosedSessions.{all_close_shortly}
use Rattle.resume_laws.proofs.closed.sessions_close_shortly.Goals as goal

pub returns : goal.returns
returns c = all_close_shortly c.closing_is_bounded.ensures
