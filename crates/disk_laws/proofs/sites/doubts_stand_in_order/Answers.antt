use Rattle.disk_laws.proofs.SiteLeft.{leave_doubts}
use Rattle.disk_laws.proofs.sites.doubts_stand_in_order.Goals as goal

pub returns : goal.returns
returns c = leave_doubts
