use Rattle.resume_laws.proofs.WorkedStops as Worked
use Rattle.resume_laws.proofs.worked.a_newest_record_alone_is_foreign.Goals as goal

pub returns : goal.returns
returns c = Worked.newest_is_foreign
