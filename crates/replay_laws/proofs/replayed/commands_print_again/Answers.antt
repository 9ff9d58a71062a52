use Rattle.replay_laws.proofs.PrintedAgain.{prints_again}
use Rattle.replay_laws.proofs.replayed.commands_print_again.Goals as goal

pub returns : goal.returns
returns c = prints_again c.commands_give_again.ensures
