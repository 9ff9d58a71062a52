use Rattle.std.proofs.Common.{ap, ◌∙◌}
use Rattle.std.specs.FinMap.{insert}
use Rattle.validation_engine.specs.Index.{Index}
use Rattle.validation_engine.proofs.Entries.{entries_put}
use Rattle.validation_engine.proofs.index.Index.put.Goals as goal

pub returns-clause-put : goal.returns-clause-put
returns-clause-put c =
    entries_put c.self.inside.keys.entries _ c.args.key.0 c.args.writers c.in_ok-insert.ensures.updates.0
    ∙ ap (λ (m : Index). insert m c.args.key.0 c.args.writers) c.self.view_is
