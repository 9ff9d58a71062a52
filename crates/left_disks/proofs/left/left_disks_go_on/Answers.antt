use Rattle.left_disks.proofs.Laws.{go_on}
use Rattle.left_disks.proofs.left.left_disks_go_on.Goals as goal

pub returns : goal.returns
returns c = go_on c.sessions_go_on.ensures.rightly c.sessions_go_on.ensures.rest
