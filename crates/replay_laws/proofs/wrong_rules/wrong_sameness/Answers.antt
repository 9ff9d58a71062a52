use Rattle.replay_laws.proofs.Refuted.{two_refusals}
use Rattle.replay_laws.proofs.wrong_rules.wrong_sameness.Goals as goal

pub returns : goal.returns
returns c = two_refusals
