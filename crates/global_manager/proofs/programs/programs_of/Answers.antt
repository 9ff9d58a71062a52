use Rattle.std.proofs.Common.{◌≡◌, ◌<◌, ◌-◌, suc, List, [], ◌∷◌, length, drop, sym, ap, ◌∙◌, arith}
use Rattle.std.specs.FinMap.{from_entries, get}
use Rattle.mdb_base.specs.declared.acts.Step.{Step}
use Rattle.mdb_base.specs.declared.names.Tx.{Tx}
use Rattle.mdb_base.proofs.ForCallers.{drop_all, drop_before, txs_exact, txs_total}
use Rattle.fed_rules.specs.declared.scenario.TxLine.{TxLine}
use Rattle.mdb_base.specs.Names.{tx_cmp}
use Rattle.site_book.proofs.ForCallers.{get_look}
use Rattle.global_manager.specs.Stands.{own_programs}
use Rattle.global_manager.proofs.Lines.{noted_more}
use Rattle.global_manager.proofs.programs.programs_of.Goals as goal

pub loop-left-init : goal.loop-left-init
loop-left-init c = record {
  within = omega arith;
  held = (λ tx.
      ap (λ (es : List (Tx × List Step)). get {R = tx_cmp} (from_entries es) tx) c.new-programs.ensures.empty ∙ get_look txs_total txs_exact [] tx
      ∙ sym (ap (λ (ls : List TxLine). own_programs ls tx) (drop_all c.args.lines.now)));
}

pub loop-left-preserved : goal.loop-left-preserved
loop-left-preserved c =
    let lines = c.args.lines.now in
    let left = c.loop-left.left in
    let line : TxLine = c.index-lines-left.result in
    let next : left ≡ suc (left - 1) = omega arith in
    let below : left - 1 < length lines = omega arith in
    let whole : drop (left - 1) lines ≡ line ∷ drop left lines = drop_before lines (left - 1) left line next below c.index-lines-left.is in
    record {
      within = omega arith;
      held = (λ tx.
          noted_more line (drop left lines) (from_entries c.loop-left.programs.entries) (from_entries c.note.new.programs.entries) c.loop-left.invariant.held c.in_ok-note.ensures tx
          ∙ sym (ap (λ (ls : List TxLine). own_programs ls tx) whole));
    }
