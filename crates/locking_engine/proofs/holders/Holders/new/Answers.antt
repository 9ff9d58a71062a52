use Rattle.std.proofs.Common.{◌≡◌, Some, None, sym, ap, ◌∙◌}
use Rattle.locking_engine.specs.Lists.{Lists, list_of, holders_in}
use Rattle.locking_engine.proofs.holders.Holders.new.Goals as goal

pub invariant_of-result : goal.invariant_of-result
invariant_of-result c = record {
  apart = c.new.ensures.unique;
  by_age = λ key list is. let bad : None ≡ Some list = sym (ap (λ (es : Lists). list_of es key) c.new.ensures.empty) ∙ is in cc;
}

pub returns : goal.returns
returns c = ap holders_in c.new.ensures.empty
