use Rattle.disk_laws.proofs.SiteBounds.{leave_below}
use Rattle.disk_laws.proofs.sites.numbers_are_below.Goals as goal

pub returns : goal.returns
returns c = leave_below
