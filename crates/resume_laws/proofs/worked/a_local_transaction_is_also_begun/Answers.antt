use Rattle.resume_laws.proofs.WorkedDisks as Worked
use Rattle.resume_laws.proofs.worked.a_local_transaction_is_also_begun.Goals as goal

pub returns-clause-coordinator : goal.returns-clause-coordinator
returns-clause-coordinator c = Worked.usable_coordinator 1

pub returns-clause-site : goal.returns-clause-site
returns-clause-site c = Worked.usable_site

pub returns-clause-foreign : goal.returns-clause-foreign
returns-clause-foreign c = Worked.foreign

pub returns-clause-lines : goal.returns-clause-lines
returns-clause-lines c = Worked.lines_contradict
