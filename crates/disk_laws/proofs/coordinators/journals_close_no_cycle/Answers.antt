use Rattle.disk_laws.proofs.CoordLeft.{leave_no_cycle}
use Rattle.disk_laws.proofs.coordinators.journals_close_no_cycle.Goals as goal

pub returns : goal.returns
returns c = leave_no_cycle
