use Rattle.coord_tables.proofs.Trees.{entry_put}
use Rattle.coord_tables.proofs.begun.put.Goals as goal

pub returns-clause-put : goal.returns-clause-put
returns-clause-put c = entry_put c.args.counts.now.entries _ c.args.tx 0 c.in_ok-insert.ensures.updates.0
