use Rattle.std.proofs.Common.{ap, sym, ◌∙◌}
use Rattle.std.specs.FinMap.{get}
use Rattle.site_tables.specs.Tables.{row_of}
use Rattle.site_tables.proofs.Looks.{get-lookup}
use Rattle.site_tables.proofs.tables.Tables.rows.Goals as goal

pub returns-clause-rows : goal.returns-clause-rows
returns-clause-rows c key =
    c.sort_rows.ensures key ∙ c.in_ok-all_rows.ensures.rows key
    ∙ ap row_of (sym (get-lookup _ key.0) ∙ ap (λ t. get t.versions key.0) c.self.view_is)
