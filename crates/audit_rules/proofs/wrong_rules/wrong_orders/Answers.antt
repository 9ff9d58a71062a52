use Rattle.audit_rules.proofs.Refuted.{shorter_taken, longer_taken}
use Rattle.audit_rules.proofs.wrong_rules.wrong_orders.Goals as goal

pub returns-clause-left_out : goal.returns-clause-left_out
returns-clause-left_out c = shorter_taken

pub returns-clause-twice : goal.returns-clause-twice
returns-clause-twice c = longer_taken
