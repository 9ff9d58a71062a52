-- The rows of a site's engine beside its records.
use Rattle.std.specs.Prelude.{◌≡◌}
use Rattle.fed_rules.specs.Runs.{rows}
use Rattle.fed_rules.specs.SitePast.{SitePast, engine_lines, epoch_start, records}
use Rattle.fed_rules.specs.SiteRecords.{Home, site_rows}

-- the rows of the engine, those that the epoch started from with what was committed since, are the table of the records
abbrev pub HasItsTable : Home → SitePast → Type 0
HasItsTable home past = rows (epoch_start home past) (engine_lines past) ≡ site_rows home (records home past)
