use Rattle.std.proofs.Common.{◌≡◌, ◌<◌, ◌-◌, suc, Option, List, ◌∷◌, length, drop, sym, ap, ◌∙◌, arith}
use Rattle.mdb_base.specs.declared.acts.Step.{Step}
use Rattle.mdb_base.proofs.ForCallers.{drop_all, drop_before}
use Rattle.fed_rules.specs.declared.scenario.TxLine.{TxLine}
use Rattle.local_dbms.specs.Stands.{own_programs, program_in}
use Rattle.local_dbms.proofs.Lines.{noted_more}
use Rattle.local_dbms.proofs.programs.programs_of.Goals as goal

pub loop-left-init : goal.loop-left-init
loop-left-init c = record {
  within = omega arith;
  held = (λ tx.
      ap (λ (kept : List (Option (List Step))). program_in kept tx) c.new-programs.ensures.items
      ∙ sym (ap (λ (ls : List TxLine). own_programs c.args.site ls tx) (drop_all c.args.lines.now)));
}

pub loop-left-preserved : goal.loop-left-preserved
loop-left-preserved c =
    let lines = c.args.lines.now in
    let left = c.loop-left.left in
    let line : TxLine = c.index-lines-left.result in
    let next : left ≡ suc (left - 1) = omega arith in
    let below : left - 1 < length lines = omega arith in
    let whole : drop (left - 1) lines ≡ line ∷ drop left lines = drop_before lines (left - 1) left line next below c.index-lines-left.is in
    record {
      within = omega arith;
      held = (λ tx.
          noted_more c.args.site line (drop left lines) c.loop-left.programs.items c.note.new.programs.items c.loop-left.invariant.held c.in_ok-note.ensures tx
          ∙ sym (ap (λ (ls : List TxLine). own_programs c.args.site ls tx) whole));
    }
