use Rattle.engine_laws.proofs.Refuted.{newest_version_refuted, versions_without_waits_refuted}
use Rattle.engine_laws.proofs.wrong_rules.wrong_multiversion.Goals as goal

pub returns-clause-newest_version : goal.returns-clause-newest_version
returns-clause-newest_version c = newest_version_refuted

pub returns-clause-no_waits : goal.returns-clause-no_waits
returns-clause-no_waits c = versions_without_waits_refuted
