use Rattle.left_disks.proofs.Laws.{usable}
use Rattle.left_disks.proofs.left.left_disks_are_usable.Goals as goal

pub returns : goal.returns
returns c = usable
