use Rattle.coord_laws.proofs.Past.{records_name, participants_declared}
use Rattle.coord_laws.proofs.records.records_name_the_participants.Goals as goal

pub returns-clause-named : goal.returns-clause-named
returns-clause-named c = records_name

pub returns-clause-declared : goal.returns-clause-declared
returns-clause-declared c = participants_declared
