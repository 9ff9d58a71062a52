use Rattle.sum_laws.proofs.ReadAs.{coordinators_read, sites_read}
use Rattle.sum_laws.proofs.sums.journals_are_read.Goals as goal

pub returns-clause-sites : goal.returns-clause-sites
returns-clause-sites c = sites_read

pub returns-clause-coordinators : goal.returns-clause-coordinators
returns-clause-coordinators c = coordinators_read
