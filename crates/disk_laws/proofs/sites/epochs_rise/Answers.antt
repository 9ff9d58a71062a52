use Rattle.disk_laws.proofs.SiteWritten.{leave_epochs}
use Rattle.disk_laws.proofs.sites.epochs_rise.Goals as goal

pub returns : goal.returns
returns c = leave_epochs
