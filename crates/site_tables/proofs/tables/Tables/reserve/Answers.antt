use Rattle.std.proofs.Common.{ap, ◌∙◌}
use Rattle.site_tables.proofs.Looks.{same_looks}
use Rattle.site_tables.proofs.tables.Tables.reserve.Goals as goal

pub returns-clause-same : goal.returns-clause-same
returns-clause-same c = same_looks _ _ c.reserve.ensures.entries.2 ∙ ap (λ t. t.versions) c.self.view_is
