use Rattle.disk_laws.proofs.CoordBounds.{leave_coord_below}
use Rattle.disk_laws.proofs.usable.tickets_are_below.Goals as goal

pub returns : goal.returns
returns c = leave_coord_below
