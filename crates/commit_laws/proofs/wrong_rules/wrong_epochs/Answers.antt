use Rattle.commit_laws.proofs.Refuted.{epochs_ignored_refuted, epochs_ignored_seals_later}
use Rattle.commit_laws.proofs.wrong_rules.wrong_epochs.Goals as goal

pub returns-clause-elsewhere : goal.returns-clause-elsewhere
returns-clause-elsewhere c = epochs_ignored_refuted

pub returns-clause-later : goal.returns-clause-later
returns-clause-later c = epochs_ignored_seals_later
