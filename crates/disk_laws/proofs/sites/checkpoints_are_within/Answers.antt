use Rattle.disk_laws.proofs.SiteLeft.{leave_sums}
use Rattle.disk_laws.proofs.SiteLists.{leave_lists}
use Rattle.disk_laws.proofs.sites.checkpoints_are_within.Goals as goal

pub returns-clause-within : goal.returns-clause-within
returns-clause-within c = leave_sums

pub returns-clause-of_some : goal.returns-clause-of_some
returns-clause-of_some c = leave_lists
