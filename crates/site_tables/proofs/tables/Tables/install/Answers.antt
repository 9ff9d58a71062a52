use Rattle.std.proofs.Common.{nat_eq, ap, sym, ◌∙◌}
use Rattle.std.specs.FinMap.{get}
use Rattle.std.specs.Map.{lookup}
use Rattle.mdb_base.specs.Rows.{value_in}
use Rattle.site_tables.specs.Tables.{written}
use Rattle.site_tables.proofs.Looks.{get-lookup}
use Rattle.site_tables.proofs.tables.Tables.install.Goals as goal

pub returns-clause-written : goal.returns-clause-written
returns-clause-written c key =
    let number = c.args.number in
    let was = lookup (nat_eq key.0) c.self.inside.versions.entries in
    get-lookup _ key.0 ∙ c.write_all.ensures.written key
    ∙ ap (λ writes. written number (value_in writes key) was) c.as_slice.ensures.items
    ∙ ap (written number (value_in c.args.writes.now key)) (sym (get-lookup _ key.0) ∙ ap (λ t. get t.versions key.0) c.self.view_is)
