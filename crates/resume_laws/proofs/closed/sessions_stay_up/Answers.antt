use Rattle.resume_laws.proofs.ClosedSessions.{all_stay_up}
use Rattle.resume_laws.proofs.closed.sessions_stay_up.Goals as goal

pub returns : goal.returns
returns c = all_stay_up c.closing_stays_up.ensures
