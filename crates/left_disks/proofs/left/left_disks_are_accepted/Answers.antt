use Rattle.left_disks.proofs.Laws.{accepted}
use Rattle.left_disks.proofs.left.left_disks_are_accepted.Goals as goal

pub returns : goal.returns
returns c = accepted
