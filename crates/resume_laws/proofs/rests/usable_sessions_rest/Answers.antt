use Rattle.resume_laws.proofs.FoundRests.{sessions_rest}
use Rattle.resume_laws.proofs.rests.usable_sessions_rest.Goals as goal

pub returns : goal.returns
returns c = sessions_rest
