use Rattle.disk_laws.proofs.SiteNumbers.{leave_numbers}
use Rattle.disk_laws.proofs.sites.numbers_begin_at_one.Goals as goal

pub returns : goal.returns
returns c = leave_numbers
