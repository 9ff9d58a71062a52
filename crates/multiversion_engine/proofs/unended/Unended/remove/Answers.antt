use Rattle.std.proofs.Common.{ap, ◌∙◌}
use Rattle.std.specs.FinMap.{remove}
use Rattle.run_book.specs.Takers.{ByAge}
use Rattle.run_book.proofs.ForCallers.{entries_gone}
use Rattle.multiversion_engine.proofs.unended.Unended.remove.Goals as goal

pub returns : goal.returns
returns c =
    entries_gone c.self.inside.tids.entries _ c.args.age c.remove.ensures.updates.0
    ∙ ap (λ (m : ByAge). remove m c.args.age) c.self.view_is
