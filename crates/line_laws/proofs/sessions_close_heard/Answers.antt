use Rattle.line_laws.proofs.Heard.{resuming_heard, sessions_heard}
use Rattle.line_laws.proofs.sessions_close_heard.Goals as goal

pub returns-clause-sessions : goal.returns-clause-sessions
returns-clause-sessions c = sessions_heard

pub returns-clause-resuming : goal.returns-clause-resuming
returns-clause-resuming c = resuming_heard
