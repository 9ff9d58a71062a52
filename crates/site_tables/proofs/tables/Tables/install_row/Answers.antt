use Rattle.std.proofs.Common.{ap, ◌∙◌}
use Rattle.site_tables.specs.Tables.{with_row}
use Rattle.site_tables.proofs.OneRow.{with_row-looks}
use Rattle.site_tables.proofs.tables.Tables.install_row.Goals as goal

pub returns-clause-written : goal.returns-clause-written
returns-clause-written c =
    with_row-looks c.args.number c.args.put c.self.inside.versions.entries _ c.write.ensures.written
    ∙ ap (λ t. with_row c.args.number c.args.put t.versions) c.self.view_is
