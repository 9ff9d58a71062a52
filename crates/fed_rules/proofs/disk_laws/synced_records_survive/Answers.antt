use Rattle.fed_rules.specs.CoordRecords.{coord_frame}
use Rattle.fed_rules.specs.SiteRecords.{site_frame}
use Rattle.fed_rules.proofs.Durable.{safe_calls}
use Rattle.fed_rules.proofs.disk_laws.synced_records_survive.Goals as goal

pub returns-clause-site : goal.returns-clause-site
returns-clause-site c = λ disk calls kept sound safe. safe_calls site_frame disk calls kept sound safe

pub returns-clause-coordinator : goal.returns-clause-coordinator
returns-clause-coordinator c = λ disk calls kept sound safe. safe_calls coord_frame disk calls kept sound safe
