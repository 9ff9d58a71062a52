use Rattle.refuted_rules.proofs.Policies.{refused_conservatively}
use Rattle.refuted_rules.proofs.wrong_rules.wrong_policies.Goals as goal

pub returns : goal.returns
returns c = refused_conservatively
