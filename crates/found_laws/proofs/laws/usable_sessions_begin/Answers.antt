use Rattle.found_laws.proofs.FoundSessions.{sessions_begin}
use Rattle.found_laws.proofs.laws.usable_sessions_begin.Goals as goal

pub returns : goal.returns
returns c = sessions_begin
