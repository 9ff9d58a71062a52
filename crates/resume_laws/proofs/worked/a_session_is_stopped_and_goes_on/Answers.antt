use Rattle.resume_laws.proofs.WorkedStops as Worked
use Rattle.resume_laws.proofs.worked.a_session_is_stopped_and_goes_on.Goals as goal

pub returns-clause-usable : goal.returns-clause-usable
returns-clause-usable c = Worked.usable

pub returns-clause-session : goal.returns-clause-session
returns-clause-session c = Worked.is_session

pub returns-clause-left : goal.returns-clause-left
returns-clause-left c = Worked.disks_left

pub returns-clause-lines : goal.returns-clause-lines
returns-clause-lines c = Worked.lines_end

pub returns-clause-rest : goal.returns-clause-rest
returns-clause-rest c = Worked.ends_the_same
