use Rattle.record_fields.specs.AttemptOrder.{before-less, less-before}
use Rattle.record_fields.proofs.laws.attempts_rise_by_their_numbers.Goals as goal

pub returns : goal.returns
returns c = λ a b x y. (before-less a b x y, less-before a b x y)
