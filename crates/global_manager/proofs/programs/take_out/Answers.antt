use Rattle.mdb_base.proofs.ForCallers.{txs_exact, txs_total}
use Rattle.site_book.proofs.ForCallers.{entries_gone}
use Rattle.global_manager.proofs.programs.take_out.Goals as goal

pub returns : goal.returns
returns c = entries_gone txs_total txs_exact c.args.programs.now.entries _ c.args.tx c.remove.ensures.updates.0
