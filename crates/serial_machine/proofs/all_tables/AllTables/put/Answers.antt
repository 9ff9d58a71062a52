use Rattle.std.proofs.lemmas.Result.{IfOk-at_ok}
use Rattle.serial_machine.proofs.all_tables.AllTables.put.Goals as goal

pub returns-clause-written : goal.returns-clause-written
returns-clause-written c s k = (IfOk-at_ok _ c.unwrap.ensures c.insert-inserted.ensures.updates).0 (s.0, k.0)
