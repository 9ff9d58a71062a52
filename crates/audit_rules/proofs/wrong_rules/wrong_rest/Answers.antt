use Rattle.audit_rules.proofs.Refuted.{armed_rests}
use Rattle.audit_rules.proofs.wrong_rules.wrong_rest.Goals as goal

pub returns : goal.returns
returns c = armed_rests
