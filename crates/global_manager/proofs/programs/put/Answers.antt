use Rattle.mdb_base.proofs.ForCallers.{txs_exact, txs_total}
use Rattle.site_book.proofs.ForCallers.{entries_put}
use Rattle.global_manager.proofs.programs.put.Goals as goal

pub returns : goal.returns
returns c = entries_put txs_total txs_exact c.args.programs.now.entries _ c.args.tx c.args.program c.in_ok-insert.ensures.updates.0
