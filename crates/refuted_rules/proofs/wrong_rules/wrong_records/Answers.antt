use Rattle.refuted_rules.proofs.Coordinators.{unrecorded_no_outcome, unrecorded_unawaited, early_marked, unbegun_known, unbegun_recorded, every_site_named}
use Rattle.refuted_rules.proofs.wrong_rules.wrong_records.Goals as goal

pub returns-clause-outcomes : goal.returns-clause-outcomes
returns-clause-outcomes c = unrecorded_no_outcome

pub returns-clause-awaited : goal.returns-clause-awaited
returns-clause-awaited c = unrecorded_unawaited

pub returns-clause-marked : goal.returns-clause-marked
returns-clause-marked c = early_marked

pub returns-clause-known : goal.returns-clause-known
returns-clause-known c = unbegun_known

pub returns-clause-recorded : goal.returns-clause-recorded
returns-clause-recorded c = unbegun_recorded

pub returns-clause-named : goal.returns-clause-named
returns-clause-named c = every_site_named
