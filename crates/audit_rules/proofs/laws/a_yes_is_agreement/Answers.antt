use Rattle.std.proofs.Common.{[]}
use Rattle.audit_rules.proofs.YesAgrees.{yes_agrees}
use Rattle.audit_rules.proofs.AgreementIsYes.{agreement_is_yes}
use Rattle.audit_rules.proofs.laws.a_yes_is_agreement.Goals as goal

pub returns : goal.returns
returns g c = λ read is scenario n texts. (yes_agrees read is scenario n texts [] (record { declared = tt; right = tt }), agreement_is_yes read is scenario n texts [])
