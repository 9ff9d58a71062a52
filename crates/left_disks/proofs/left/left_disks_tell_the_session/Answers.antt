use Rattle.left_disks.proofs.Laws.{tell_the_session}
use Rattle.left_disks.proofs.left.left_disks_tell_the_session.Goals as goal

pub returns : goal.returns
returns c = tell_the_session
