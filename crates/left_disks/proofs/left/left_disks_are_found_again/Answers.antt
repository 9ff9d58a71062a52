use Rattle.left_disks.proofs.Laws.{found_again}
use Rattle.left_disks.proofs.left.left_disks_are_found_again.Goals as goal

pub returns : goal.returns
returns c = found_again c.sessions_go_on.ensures.rightly c.sessions_go_on.ensures.rest
