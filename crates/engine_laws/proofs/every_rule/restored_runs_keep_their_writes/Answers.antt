use Rattle.engine_laws.proofs.Rows.{puts_of_written, rising_puts}
use Rattle.engine_laws.proofs.every_rule.restored_runs_keep_their_writes.Goals as goal

pub returns-clause-rising : goal.returns-clause-rising
returns-clause-rising c = rising_puts

pub returns-clause-kept : goal.returns-clause-kept
returns-clause-kept c = puts_of_written
