use Rattle.refuted_rules.proofs.Sites.{closed_run_lives}
use Rattle.refuted_rules.proofs.wrong_rules.wrong_sites.Goals as goal

pub returns : goal.returns
returns c = closed_run_lives
