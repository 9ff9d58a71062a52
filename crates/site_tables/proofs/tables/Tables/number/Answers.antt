use Rattle.std.proofs.Common.{ap, sym, ◌∙◌}
use Rattle.std.specs.FinMap.{get}
use Rattle.site_tables.specs.Numbers.{number_of}
use Rattle.site_tables.proofs.Looks.{get-lookup}
use Rattle.site_tables.proofs.tables.Tables.number.Goals as goal

pub returns : goal.returns
returns c =
    c.number.ensures ∙ ap number_of (sym (get-lookup _ c.args.key.0)) ∙ ap (λ t. number_of (get t.versions c.args.key.0)) c.self.view_is
