use Rattle.replay_laws.proofs.Refuted.{added_at_rest}
use Rattle.replay_laws.proofs.wrong_rules.wrong_closing.Goals as goal

pub returns : goal.returns
returns c = added_at_rest
