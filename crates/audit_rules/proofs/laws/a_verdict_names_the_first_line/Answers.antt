use Rattle.std.proofs.Common.{[]}
use Rattle.audit_rules.proofs.FirstFault.{first_fault}
use Rattle.audit_rules.proofs.laws.a_verdict_names_the_first_line.Goals as goal

pub returns : goal.returns
returns g c = λ read is scenario n texts line what e. first_fault read is scenario n texts [] line what (record { declared = tt; right = tt }) e
