use Rattle.std.proofs.Common.{sym, ◌∙◌}
use Rattle.mdb_base.proofs.ForCallers.{txs_exact, txs_total}
use Rattle.site_book.proofs.ForCallers.{get_look}
use Rattle.global_manager.proofs.programs.find.Goals as goal

pub returns : goal.returns
returns c = c.get.ensures.value ∙ sym (get_look txs_total txs_exact _ c.args.tx)
