-- The rows that the items of a site are, before they are put in order.
use Rattle.std.specs.Prelude.{cond, IsTrue, List, [], ◌∷◌}
use Rattle.mdb_base.specs.declared.names.SiteId.{SiteId}
use Rattle.mdb_base.specs.declared.rows.Put.{Put}
use Rattle.mdb_base.specs.Names.{same_site}
use Rattle.fed_rules.specs.declared.scenario.ItemLine.{ItemLine}
use Rattle.fed_rules.specs.Plans.{all_differ, one_row}

-- the rows of the items of a site, in the order of their lines
abbrev pub rows_at : List ItemLine → SiteId → List Put
rows_at [] site = []
rows_at (item ∷ items) site = cond (same_site item.site site) (item.put ∷ rows_at items site) (rows_at items site)

-- no two items are of one row
abbrev pub DifferInRow : List ItemLine → Type 0
DifferInRow items = IsTrue (all_differ one_row items)
