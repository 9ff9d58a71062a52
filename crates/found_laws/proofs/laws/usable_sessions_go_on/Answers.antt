use Rattle.found_laws.proofs.FoundSessions.{sessions_go_on_so}
use Rattle.found_laws.proofs.laws.usable_sessions_go_on.Goals as goal

pub returns : goal.returns
returns c = sessions_go_on_so
