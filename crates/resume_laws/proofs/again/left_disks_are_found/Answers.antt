use Rattle.resume_laws.proofs.LeftDisks.{left_found}
use Rattle.resume_laws.proofs.again.left_disks_are_found.Goals as goal

pub returns : goal.returns
returns c = left_found
