use Rattle.replay_laws.proofs.Replays.{closing_nothing}
use Rattle.replay_laws.proofs.replayed.closing_adds_nothing.Goals as goal

pub returns : goal.returns
returns c = closing_nothing
