use Rattle.commit_laws.proofs.Refuted.{abort_always_presumed_refuted, commit_always_presumed_refuted, commit_presumed_by_abort_refuted, prepares_sent_early_refuted, torn_records_kept_refuted}
use Rattle.commit_laws.proofs.wrong_rules.wrong_coordinators.Goals as goal

pub returns-clause-abort_presumed : goal.returns-clause-abort_presumed
returns-clause-abort_presumed c = abort_always_presumed_refuted

pub returns-clause-commit_presumed : goal.returns-clause-commit_presumed
returns-clause-commit_presumed c = commit_always_presumed_refuted

pub returns-clause-commit_presumed_by_abort : goal.returns-clause-commit_presumed_by_abort
returns-clause-commit_presumed_by_abort c = commit_presumed_by_abort_refuted

pub returns-clause-unsynced_initiations : goal.returns-clause-unsynced_initiations
returns-clause-unsynced_initiations c = prepares_sent_early_refuted

pub returns-clause-torn_records : goal.returns-clause-torn_records
returns-clause-torn_records c = torn_records_kept_refuted
