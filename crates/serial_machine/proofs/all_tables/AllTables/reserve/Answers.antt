use Rattle.serial_machine.proofs.all_tables.AllTables.reserve.Goals as goal

pub returns-clause-same : goal.returns-clause-same
returns-clause-same c site key = c.reserve.ensures.entries.2 (site.0, key.0)
