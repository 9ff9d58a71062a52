use Rattle.refuted_rules.proofs.Rows.{commit_missed, written_twice}
use Rattle.refuted_rules.proofs.Sites.{first_rows_left}
use Rattle.refuted_rules.proofs.wrong_rules.wrong_rows.Goals as goal

pub returns-clause-table : goal.returns-clause-table
returns-clause-table c = commit_missed

pub returns-clause-rising : goal.returns-clause-rising
returns-clause-rising c = written_twice

pub returns-clause-running : goal.returns-clause-running
returns-clause-running c = first_rows_left
