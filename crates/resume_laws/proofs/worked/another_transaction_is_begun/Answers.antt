use Rattle.resume_laws.proofs.WorkedDisks as Worked
use Rattle.resume_laws.proofs.worked.another_transaction_is_begun.Goals as goal

pub returns-clause-usable : goal.returns-clause-usable
returns-clause-usable c = Worked.usable

pub returns-clause-lines : goal.returns-clause-lines
returns-clause-lines c = Worked.lines_agree
