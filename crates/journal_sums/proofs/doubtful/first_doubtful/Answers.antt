use Rattle.std.proofs.Common.{◌≡◌, suc, ◌-◌, Some, drop, sym, ap, ◌∙◌, arith}
use Rattle.fed_rules.specs.SiteRecords.{doubt_of}
use Rattle.fed_rules.specs.SiteSums.{carried}
use Rattle.journal_sums.proofs.DoubtLaws.{next_carried}
use Rattle.journal_sums.proofs.doubtful.first_doubtful.Goals as goal

pub loop-left-preserved : goal.loop-left-preserved
loop-left-preserved c = record {
  within = omega arith;
  held = λ tid.
      let helds = c.args.doubtful.now in
      let left = c.loop-left.left in
      let one_more : left ≡ suc (left - 1) = omega arith in
      next_carried helds (left - 1) c.in_ok-copy_held.field-0 tid _ _ (c.at.ensures ∙ ap Some (sym c.in_ok-copy_held.ensures))
      (c.loop-left.invariant.held tid ∙ ap (λ n. doubt_of (carried (drop n helds)) tid) one_more) (c.in_ok-put.ensures tid);
}
