use Rattle.std.proofs.Common.{◌++◌, List, [], ◌∷◌, get_or, sym, ap, ◌∙◌}
use Rattle.std.specs.BTreeSet.{contains}
use Rattle.session_report.specs.declared.marks.Mark.{Mark}
use Rattle.mdb_base.specs.Names.{tid_cmp}
use Rattle.session_report.proofs.Members.{unrefused_none, unrefused_one}
use Rattle.session_report.proofs.orders.unrefused.Goals as goal
use Rattle.session_report.proofs.orders.unrefused.Goals.{then-not-is_refused+in_ok-push, else-not-is_refused}

abbrev any_mark : Mark
any_mark = record { tid = record { tx = record { 0 = 0 }; attempt = 0 }; number = 0 }

pub loop-mark-preserved : goal.loop-mark-preserved
loop-mark-preserved c =
    elim c.if-not-is_refused.branch [
      | then-not-is_refused+in_ok-push w ↦
          ap (λ (v : _). v.items) w.kept-is ∙ (w.in_ok-push.ensures.items ∙ (ap (λ (ms : List Mark). ms ++ get_or c.args.marks.now c.loop-mark.mark-index any_mark ∷ []) c.loop-mark.invariant
          ∙ sym (unrefused_one (contains tid_cmp c.args.refused.now) c.args.marks.now c.loop-mark.mark-index any_mark c.loop-mark-test.true (sym c.is_refused.ensures ∙ w.if-not-is_refused.true))))
      | else-not-is_refused w ↦
          ap (λ (v : _). v.items) w.kept-is ∙ (c.loop-mark.invariant
          ∙ sym (unrefused_none (contains tid_cmp c.args.refused.now) c.args.marks.now c.loop-mark.mark-index any_mark c.loop-mark-test.true (sym c.is_refused.ensures ∙ w.if-not-is_refused.false)))
    ]
