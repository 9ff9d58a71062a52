use Rattle.std.proofs.Common.{List, [], ap, inl, ◌∙◌}
use Rattle.std.specs.FinMap.{from_entries, get}
use Rattle.mdb_base.specs.declared.acts.Step.{Step}
use Rattle.mdb_base.specs.declared.names.Tx.{Tx}
use Rattle.mdb_base.specs.Names.{tx_cmp}
use Rattle.mdb_base.proofs.ForCallers.{txs_exact, txs_total}
use Rattle.site_book.proofs.ForCallers.{get_look}
use Rattle.coord_core.proofs.ForCallers.{is_opened}
use Rattle.global_manager.proofs.Lines.{own_fits, there}
use Rattle.global_manager.proofs.manager.GlobalManager.reopen.Goals as goal

pub returns-clause-stands : goal.returns-clause-stands
returns-clause-stands g c journal f =
    let stood = c.in_ok-core.ensures.stands journal f in
    record {
      core = stood;
      owns = record {
        held = (λ tx. ap (λ (es : List (Tx × List Step)). get {R = tx_cmp} (from_entries es) tx) c.new-programs.ensures.empty ∙ get_look txs_total txs_exact [] tx);
        named = (λ tx some. let (steps, is) = there _ some in (own_fits c.args.protocols [] tt tx steps is).named);
        sited = (λ tx steps is. (own_fits c.args.protocols [] tt tx steps is).sited);
        owned = inl (is_opened (g.D.Disk.seen c.args.disk.now).image c.args.protocols journal stood.holds.sound.rising f);
      };
    }
