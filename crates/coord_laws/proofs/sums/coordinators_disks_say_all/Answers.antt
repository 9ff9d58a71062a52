use Rattle.coord_laws.proofs.CoordRestarts.{coord_journals_say_all, going_journals_say_all}
use Rattle.coord_laws.proofs.sums.coordinators_disks_say_all.Goals as goal

pub returns-clause-all : goal.returns-clause-all
returns-clause-all c = coord_journals_say_all

pub returns-clause-going_on : goal.returns-clause-going_on
returns-clause-going_on c = going_journals_say_all
