use Rattle.disk_laws.proofs.CoordLists.{leave_coord_sums, leave_open}
use Rattle.disk_laws.proofs.coordinators.checkpoints_are_sums_of_the_coordinator.Goals as goal

pub returns-clause-sums : goal.returns-clause-sums
returns-clause-sums c = leave_coord_sums

pub returns-clause-of_open : goal.returns-clause-of_open
returns-clause-of_open c = leave_open
