use Rattle.std.proofs.Common.{ap, sym, ◌∙◌}
use Rattle.std.specs.FinMap.{get}
use Rattle.site_tables.specs.Tables.{value_of}
use Rattle.site_tables.proofs.Looks.{get-lookup}
use Rattle.site_tables.proofs.tables.Tables.get.Goals as goal

pub returns : goal.returns
returns c =
    c.value.ensures ∙ ap value_of (sym (get-lookup _ c.args.key.0)) ∙ ap (λ t. value_of (get t.versions c.args.key.0)) c.self.view_is
