use Rattle.commit_laws.proofs.Refuted.{commits_forgotten_by_nothing_refuted, commits_forgotten_at_once_refuted}
use Rattle.commit_laws.proofs.wrong_rules.wrong_forgetting.Goals as goal

pub returns-clause-presumed_nothing : goal.returns-clause-presumed_nothing
returns-clause-presumed_nothing c = commits_forgotten_by_nothing_refuted

pub returns-clause-presumed_abort : goal.returns-clause-presumed_abort
returns-clause-presumed_abort c = commits_forgotten_at_once_refuted
