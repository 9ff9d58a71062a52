use Rattle.resume_laws.proofs.WorkedStops as Worked
use Rattle.resume_laws.proofs.worked.a_checkpoint_is_read_with_its_ends.Goals as goal

pub returns : goal.returns
returns c = Worked.knows_a_forgotten_one
