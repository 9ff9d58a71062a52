use Rattle.disk_laws.proofs.SiteDrawers.{leave_different}
use Rattle.disk_laws.proofs.sites.numbers_differ.Goals as goal

pub returns : goal.returns
returns c = leave_different
