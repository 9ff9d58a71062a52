use Rattle.replay_laws.proofs.Replays.{gives_again}
use Rattle.replay_laws.proofs.replayed.commands_give_again.Goals as goal

pub returns : goal.returns
returns c = gives_again c.closing_adds_nothing.ensures c.right_lines_agree.ensures.bare
