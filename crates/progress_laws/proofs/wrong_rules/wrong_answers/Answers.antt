use Rattle.progress_laws.proofs.Refuted.{still_in_doubt, undecided_still}
use Rattle.progress_laws.proofs.wrong_rules.wrong_answers.Goals as goal

pub returns-clause-untold : goal.returns-clause-untold
returns-clause-untold c = still_in_doubt

pub returns-clause-undecided : goal.returns-clause-undecided
returns-clause-undecided c = undecided_still
