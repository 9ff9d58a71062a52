use Rattle.std.proofs.Common.{true, false, subst}
use Rattle.run_book.specs.Takers.{ByAge}
use Rattle.multiversion_engine.specs.Unended.{AreWithin}
use Rattle.multiversion_engine.proofs.ByAge.{some_within, none_within}
use Rattle.multiversion_engine.proofs.unended.Unended.any_within.Goals as goal

pub returns-in-Some : goal.returns-in-Some
returns-in-Some c =
    subst (λ (m : ByAge). AreWithin m c.args.from c.args.until true) c.self.view_is
    (some_within c.args.from c.args.until c.self.inside.tids c.range.result _ _ (c.range.ensures.in_range tt) c.in-Some.ensures.steps)

pub returns-in-None : goal.returns-in-None
returns-in-None c =
    subst (λ (m : ByAge). AreWithin m c.args.from c.args.until false) c.self.view_is
    (none_within c.args.from c.args.until c.self.inside.tids c.range.result (c.range.ensures.in_range tt) c.in-None.ensures.steps.0)
