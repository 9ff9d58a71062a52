use Rattle.site_history.specs.Tables.{HasItsTable}
use Rattle.site_history.proofs.EngineRows.{engine_rows, found_rows}
use Rattle.site_history.proofs.SitesOfStories.{of_events}
use Rattle.site_history.proofs.tables.engines_have_the_tables_of_their_records.Goals as goal

pub returns-clause-made : goal.returns-clause-made
returns-clause-made c = engine_rows

pub returns-clause-found : goal.returns-clause-found
returns-clause-found c = found_rows

pub returns-clause-stories : goal.returns-clause-stories
returns-clause-stories c = of_events HasItsTable engine_rows
