use Rattle.std.proofs.Common.{sym, ◌∙◌}
use Rattle.usable_journals.proofs.SameSums.{same_home, same_lists, same_marks, sum_is}
use Rattle.usable_journals.proofs.same_sums.is_same_sum.Goals as goal

pub returns-then-not-is_same_home : goal.returns-then-not-is_same_home
returns-then-not-is_same_home c = (λ e. absurd cc, λ is. sym c.if-not-is_same_home.true ∙ c.is_same_home.ensures.1 (same_home c.args.one.now c.args.other.now is))

pub returns-then-not-has_same_marks : goal.returns-then-not-has_same_marks
returns-then-not-has_same_marks c = (λ e. absurd cc, λ is. sym c.if-not-has_same_marks.true ∙ c.has_same_marks.ensures.1 (same_marks c.args.one.now c.args.other.now is))

pub returns : goal.returns
returns c = (
  λ e.
      sum_is c.args.one.now c.args.other.now (c.is_same_home.ensures.0 c.if-not-is_same_home.false) (c.has_same_marks.ensures.0 c.if-not-has_same_marks.false)
      (c.has_same_lists.ensures.0 e),
  λ is. c.has_same_lists.ensures.1 (same_lists c.args.one.now c.args.other.now is),
)
