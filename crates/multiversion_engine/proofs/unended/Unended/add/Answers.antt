use Rattle.std.proofs.Common.{ap, ◌∙◌}
use Rattle.std.specs.FinMap.{insert}
use Rattle.run_book.specs.Takers.{ByAge}
use Rattle.run_book.proofs.ForCallers.{entries_put}
use Rattle.multiversion_engine.proofs.unended.Unended.add.Goals as goal

pub returns-clause-added : goal.returns-clause-added
returns-clause-added c =
    entries_put c.self.inside.tids.entries _ c.args.age c.args.tid c.in_ok-insert.ensures.updates.0
    ∙ ap (λ (m : ByAge). insert m c.args.age c.args.tid) c.self.view_is
