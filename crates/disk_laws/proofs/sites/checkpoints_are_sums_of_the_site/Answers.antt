use Rattle.disk_laws.proofs.SiteFits.{leave_site_sums}
use Rattle.disk_laws.proofs.sites.checkpoints_are_sums_of_the_site.Goals as goal

pub returns : goal.returns
returns c = leave_site_sums
