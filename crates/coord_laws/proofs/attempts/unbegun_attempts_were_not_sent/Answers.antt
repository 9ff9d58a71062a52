use Rattle.coord_laws.proofs.Unsent.{unbegun_unsent}
use Rattle.coord_laws.proofs.attempts.unbegun_attempts_were_not_sent.Goals as goal

pub returns : goal.returns
returns c = unbegun_unsent
