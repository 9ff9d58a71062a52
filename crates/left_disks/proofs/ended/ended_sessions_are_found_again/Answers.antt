use Rattle.left_disks.proofs.Laws.{ended_found}
use Rattle.left_disks.proofs.ended.ended_sessions_are_found_again.Goals as goal

pub returns : goal.returns
returns c = ended_found c.sessions_go_on.ensures.rightly c.sessions_go_on.ensures.rest
