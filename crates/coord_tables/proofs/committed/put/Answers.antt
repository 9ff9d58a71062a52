use Rattle.coord_tables.proofs.Trees.{entry_put}
use Rattle.coord_tables.proofs.committed.put.Goals as goal

pub returns-clause-put : goal.returns-clause-put
returns-clause-put c = entry_put c.args.tids.now.entries _ c.args.tx c.args.committed c.in_ok-insert.ensures.updates.0
