use Rattle.journal_disk.proofs.Whole.{left_by_some}
use Rattle.journal_disk.proofs.laws.what_a_stop_leaves.Goals as goal

pub returns-clause-each : goal.returns-clause-each
returns-clause-each c = left_by_some
