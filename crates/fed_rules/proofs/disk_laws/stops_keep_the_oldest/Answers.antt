use Rattle.fed_rules.specs.CoordRecords.{coord_frame}
use Rattle.fed_rules.specs.SiteRecords.{site_frame}
use Rattle.fed_rules.proofs.Durable.{whole_front}
use Rattle.fed_rules.proofs.disk_laws.stops_keep_the_oldest.Goals as goal

pub returns-clause-site : goal.returns-clause-site
returns-clause-site c = λ disk cut. whole_front site_frame _ disk.records

pub returns-clause-coordinator : goal.returns-clause-coordinator
returns-clause-coordinator c = λ disk cut. whole_front coord_frame _ disk.records
