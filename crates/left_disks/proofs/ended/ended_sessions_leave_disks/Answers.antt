use Rattle.left_disks.proofs.Laws.{ended_leave}
use Rattle.left_disks.proofs.ended.ended_sessions_leave_disks.Goals as goal

pub returns : goal.returns
returns c = ended_leave
