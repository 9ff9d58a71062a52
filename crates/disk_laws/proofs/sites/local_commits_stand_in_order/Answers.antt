use Rattle.disk_laws.proofs.SiteLeft.{leave_locals}
use Rattle.disk_laws.proofs.sites.local_commits_stand_in_order.Goals as goal

pub returns : goal.returns
returns c = leave_locals
