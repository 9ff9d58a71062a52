use Rattle.coord_laws.proofs.Past.{known_begun}
use Rattle.coord_laws.proofs.attempts.known_attempts_were_begun.Goals as goal

pub returns : goal.returns
returns c = known_begun
