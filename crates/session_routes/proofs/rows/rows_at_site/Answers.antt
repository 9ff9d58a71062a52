use Rattle.std.proofs.Common.{Vec, Global, ◌∙◌, ap}
use Rattle.mdb_base.specs.declared.rows.Put.{Put}
use Rattle.session_routes.proofs.FirstRows.{row_kept, row_left_out}
use Rattle.session_routes.proofs.rows.rows_at_site.Goals as goal
use Rattle.session_routes.proofs.rows.rows_at_site.Goals.{then-item-site+in_ok-push, else-item-site}

pub loop-item-preserved : goal.loop-item-preserved
loop-item-preserved c =
    elim c.if-item-site.branch [
      | then-item-site+in_ok-push w ↦
          row_kept c.args.items.now c.args.site c.loop-item.item-index _ c.loop-item.rows.items c.if-item-site.rows.items _ c.loop-item-test.true w.if-item-site.true
          c.loop-item.invariant (ap (λ (rows : Vec Put Global). rows.items) w.rows-is ∙ w.in_ok-push.ensures.items)
      | else-item-site w ↦
          row_left_out c.args.items.now c.args.site c.loop-item.item-index _ c.loop-item.rows.items c.if-item-site.rows.items _ c.loop-item-test.true w.if-item-site.false
          c.loop-item.invariant (ap (λ (rows : Vec Put Global). rows.items) w.rows-is)
    ]
