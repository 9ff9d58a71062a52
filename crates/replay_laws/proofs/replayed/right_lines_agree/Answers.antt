use Rattle.replay_laws.proofs.Replays.{lines_agree, lines_one}
use Rattle.replay_laws.proofs.replayed.right_lines_agree.Goals as goal

pub returns-clause-bare : goal.returns-clause-bare
returns-clause-bare c = lines_agree

pub returns-clause-one : goal.returns-clause-one
returns-clause-one c = lines_one
