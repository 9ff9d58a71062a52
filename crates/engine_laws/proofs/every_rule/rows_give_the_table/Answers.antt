use Rattle.engine_laws.proofs.Rows.{rows_of_table}
use Rattle.engine_laws.proofs.every_rule.rows_give_the_table.Goals as goal

pub returns : goal.returns
returns c = rows_of_table
