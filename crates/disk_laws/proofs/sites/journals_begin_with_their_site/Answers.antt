use Rattle.disk_laws.proofs.SiteLeft.{leave_first}
use Rattle.disk_laws.proofs.SiteWritten.{leave_setup}
use Rattle.disk_laws.proofs.sites.journals_begin_with_their_site.Goals as goal

pub returns-clause-first : goal.returns-clause-first
returns-clause-first c = leave_first

pub returns-clause-alone : goal.returns-clause-alone
returns-clause-alone c = leave_setup
