use Rattle.resume_laws.proofs.RestsAgain.{all_rest}
use Rattle.resume_laws.proofs.rests.resumed_sessions_rest.Goals as goal

pub returns : goal.returns
returns c = all_rest
