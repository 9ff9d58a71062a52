use Rattle.std.proofs.Common.{sym, ◌∙◌}
use Rattle.usable_journals.proofs.fronts.Front.can_hold.Goals as goal

pub returns-then-not-is_last : goal.returns-then-not-is_last
returns-then-not-is_last c = (λ e. absurd cc, λ can. sym c.if-not-is_last.true ∙ c.is_last.ensures.1 can.last)

pub returns : goal.returns
returns c = (
  λ e. record { last = c.is_last.ensures.0 c.if-not-is_last.false; keys = sym c.may_hold_all.ensures ∙ e },
  λ can. c.may_hold_all.ensures ∙ can.keys,
)
