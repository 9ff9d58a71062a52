use Rattle.audit_rules.proofs.Refuted.{unclosed_taken}
use Rattle.audit_rules.proofs.wrong_rules.wrong_cycles.Goals as goal

pub returns : goal.returns
returns c = unclosed_taken
