use Rattle.commit_laws.proofs.PreparedLaws.{commit-decisions-find-all-prepared, commit-records-find-all-prepared}
use Rattle.commit_laws.proofs.prepared_laws.commits_find_all_prepared.Goals as goal

pub returns-clause-decisions : goal.returns-clause-decisions
returns-clause-decisions c = commit-decisions-find-all-prepared

pub returns-clause-records : goal.returns-clause-records
returns-clause-records c = commit-records-find-all-prepared
