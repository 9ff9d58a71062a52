use Rattle.commit_laws.proofs.OutcomeLaws.{settles-say-the-outcome, settles-commit-where-kept}
use Rattle.commit_laws.proofs.outcome_laws.sites_settle_the_outcome.Goals as goal

pub returns-clause-outcome : goal.returns-clause-outcome
returns-clause-outcome c = settles-say-the-outcome

pub returns-clause-commit : goal.returns-clause-commit
returns-clause-commit c = settles-commit-where-kept
