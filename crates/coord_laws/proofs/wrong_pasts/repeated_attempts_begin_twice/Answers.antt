use Rattle.coord_laws.proofs.Refuted.{begins_twice}
use Rattle.coord_laws.proofs.wrong_pasts.repeated_attempts_begin_twice.Goals as goal

pub returns : goal.returns
returns c = begins_twice
