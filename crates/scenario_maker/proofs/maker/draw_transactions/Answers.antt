use Rattle.std.proofs.Common.{◌+◌, ◌++◌, [], ◌∷◌, cond, sym, ap, ap₂, ◌∙◌}
use Rattle.scenario_maker.specs.Draws.{so_far}
use Rattle.scenario_maker.specs.Made.{is_global, made_transaction}
use Rattle.scenario_maker.proofs.Counts.{behind_one, one_more}
use Rattle.scenario_maker.proofs.maker.draw_transactions.Goals as goal

pub loop-made-preserved : goal.loop-made-preserved
loop-made-preserved c =
    let before = c.loop-made.invariant in
    let number = c.loop-made.made + 1 in (
      c.in_ok-push.ensures.items
          ∙ ap₂ (λ lines line. lines ++ line ∷ []) before.0
          (c.in_ok-draw_transaction.ensures.line ∙ ap (made_transaction c.args.sites number) before.1)
          ∙ sym (one_more c.args.sites c.loop-made.made c.args.draws.now.last),
      c.in_ok-draw_transaction.ensures.last
          ∙ ap (so_far (cond (is_global c.args.sites number) 5 4)) before.1
          ∙ sym (behind_one c.args.sites c.loop-made.made c.args.draws.now.last),
    )
