use Rattle.audit_rules.proofs.Refuted.{zero_named, last_named}
use Rattle.audit_rules.proofs.wrong_rules.wrong_verdicts.Goals as goal

pub returns-clause-counted : goal.returns-clause-counted
returns-clause-counted c = zero_named

pub returns-clause-passed : goal.returns-clause-passed
returns-clause-passed c = last_named
