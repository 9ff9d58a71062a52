use Rattle.site_history.proofs.Plain.{sum_plain}
use Rattle.site_history.proofs.sums.checkpoints_say_nothing_new.Goals as goal

pub returns : goal.returns
returns c = sum_plain
