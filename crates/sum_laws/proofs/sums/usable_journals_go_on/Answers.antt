use Rattle.coord_laws.proofs.ForCallers.{usable_go_on}
use Rattle.site_history.proofs.ForCallers.{sites_go_on}
use Rattle.sum_laws.proofs.sums.usable_journals_go_on.Goals as goal

pub returns-clause-coordinators : goal.returns-clause-coordinators
returns-clause-coordinators c = usable_go_on

pub returns-clause-sites : goal.returns-clause-sites
returns-clause-sites c = sites_go_on
