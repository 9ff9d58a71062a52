use Rattle.disk_laws.proofs.CoordLeft.{leave_one_commit, leave_order}
use Rattle.disk_laws.proofs.coordinators.journals_stand_in_order.Goals as goal

pub returns-clause-order : goal.returns-clause-order
returns-clause-order c = leave_order

pub returns-clause-once : goal.returns-clause-once
returns-clause-once c = leave_one_commit
