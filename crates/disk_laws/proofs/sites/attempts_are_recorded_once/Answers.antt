use Rattle.disk_laws.proofs.SiteOnce.{leave_once, leave_parted}
use Rattle.disk_laws.proofs.sites.attempts_are_recorded_once.Goals as goal

pub returns-clause-once : goal.returns-clause-once
returns-clause-once c = leave_once

pub returns-clause-parted : goal.returns-clause-parted
returns-clause-parted c = leave_parted
