use Rattle.disk_laws.proofs.CoordFormat.{leave_members}
use Rattle.disk_laws.proofs.CoordLeft.{leave_declared}
use Rattle.disk_laws.proofs.coordinators.journals_name_declared_sites.Goals as goal

pub returns-clause-declared : goal.returns-clause-declared
returns-clause-declared c = leave_declared

pub returns-clause-rising : goal.returns-clause-rising
returns-clause-rising c = leave_members
