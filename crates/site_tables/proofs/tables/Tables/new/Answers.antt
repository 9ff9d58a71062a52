use Rattle.std.proofs.Common.{None, List, nat_eq, sym, ap, ◌∙◌, subst}
use Rattle.std.specs.Map.{lookup}
use Rattle.mdb_base.specs.declared.rows.Put.{Put}
use Rattle.mdb_base.specs.Rising.{IsRising}
use Rattle.mdb_base.specs.Rows.{value_in}
use Rattle.site_tables.specs.Tables.{written}
use Rattle.site_tables.proofs.Looks.{get-lookup}
use Rattle.site_tables.proofs.tables.Tables.new.Goals as goal

pub write_first-requires-clause-none : goal.write_first-requires-clause-none
write_first-requires-clause-none c key = ap (λ es. lookup (nat_eq key.0) es) c.in_ok-versions.ensures.empty

pub write_first-requires-clause-rising : goal.write_first-requires-clause-rising
write_first-requires-clause-rising c = subst (λ (rows : List Put). IsRising (λ put. put.key.0) rows) (sym c.as_slice.ensures.items) c.as_slice.ensures.rising

pub returns-clause-written : goal.returns-clause-written
returns-clause-written c key = get-lookup _ key.0 ∙ c.write_first.ensures key ∙ ap (λ rows. written 0 (value_in rows key) None) c.as_slice.ensures.items
