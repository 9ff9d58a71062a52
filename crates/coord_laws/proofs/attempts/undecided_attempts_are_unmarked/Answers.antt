use Rattle.coord_laws.proofs.Past.{undecided_unmarked}
use Rattle.coord_laws.proofs.attempts.undecided_attempts_are_unmarked.Goals as goal

pub returns : goal.returns
returns c = undecided_unmarked
