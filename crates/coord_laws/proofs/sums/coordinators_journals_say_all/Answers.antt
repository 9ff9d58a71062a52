use Rattle.coord_laws.proofs.CoordJournals.{journal_says}
use Rattle.coord_laws.proofs.sums.coordinators_journals_say_all.Goals as goal

pub returns : goal.returns
returns c = journal_says
