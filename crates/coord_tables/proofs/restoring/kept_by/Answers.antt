use Rattle.std.proofs.Common.{◌∷◌, [], ◌++◌, true, false, sym, ap, ◌∙◌}
use Rattle.protocol_table.specs.declared.known.Restored.{Restored}
use Rattle.coord_tables.specs.Starting.{is_awaited, restored_by}
use Rattle.coord_tables.proofs.Keepings.{next_kept}
use Rattle.coord_tables.proofs.restoring.kept_by.Goals as goal
use Rattle.coord_tables.proofs.restoring.kept_by.Goals.{then-is_awaited+in_ok-restored_by+in_ok-push, else-is_awaited}

pub loop-attempt-preserved : goal.loop-attempt-preserved
loop-attempt-preserved c =
    let committed = c.args.sum.now.committed in
    let items = c.as_slice-attempt-items.result.now in
    let i = c.loop-attempt.attempt-index in
    let x = c.attempt-item.result in
    elim c.if-is_awaited.branch [
      | then-is_awaited+in_ok-restored_by+in_ok-push w ↦
          ap (λ (v : _). v.items) w.kept-is
          ∙ (w.in_ok-push.ensures.items
          ∙ (ap (λ (k : Restored). c.loop-attempt.kept.items ++ k ∷ []) w.in_ok-restored_by.ensures
          ∙ (ap (λ ks. ks ++ restored_by committed x ∷ []) c.loop-attempt.invariant
          ∙ sym (next_kept (restored_by committed) (is_awaited committed) items i x true c.loop-attempt-test.true c.attempt-item.is (sym c.is_awaited.ensures ∙ w.if-is_awaited.true)))))
      | else-is_awaited w ↦
          ap (λ (v : _). v.items) w.kept-is
          ∙ (c.loop-attempt.invariant
          ∙ sym (next_kept (restored_by committed) (is_awaited committed) items i x false c.loop-attempt-test.true c.attempt-item.is (sym c.is_awaited.ensures ∙ w.if-is_awaited.false)))
    ]
