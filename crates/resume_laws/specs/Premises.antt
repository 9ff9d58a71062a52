-- What is taken from other laws of the disks that a session left: its journals say what its records said, and its coordinator's is one that the rules go
-- on from.
use Rattle.std.specs.Prelude.{◌≡◌, Some, List}
use Rattle.mdb_base.specs.declared.names.SiteId.{SiteId}
use Rattle.presumptions.specs.declared.Participant.{Participant}
use Rattle.fed_rules.specs.declared.records.CoordRecord.{CoordRecord}
use Rattle.fed_rules.specs.declared.records.SiteRecord.{SiteRecord}
use Rattle.fed_rules.specs.declared.scenario.Scenario.{Scenario}
use Rattle.fed_rules.specs.declared.sums.CoordSum.{CoordSum}
use Rattle.fed_rules.specs.CoordPast as Coordinator
use Rattle.fed_rules.specs.CoordPast.{CoordPast}
use Rattle.fed_rules.specs.CoordRecords.{coord_frame}
use Rattle.fed_rules.specs.Found.{Journal}
use Rattle.fed_rules.specs.Reopened.{coord_read, first_of, opened_coordinator, opened_site}
use Rattle.fed_rules.specs.Resumed.{journal_on}
use Rattle.fed_rules.specs.Scenarios.{home_of, protocols}
use Rattle.fed_rules.specs.SitePast.{SitePast, disk, records}
use Rattle.fed_rules.specs.SiteRecords.{Home, site_frame}
use Rattle.fed_rules.specs.SiteSums.{site_sum}
use Rattle.fed_rules.specs.Story.{Story, coord_past, home_found, past_of}
use Rattle.coord_laws.specs.Pasts.{IsOpened}
use Rattle.coord_laws.specs.CoordRestarts.{TellsRecords}

-- the journals that are left
abbrev pub site_left : Home → SitePast → Journal SiteRecord
site_left home here = journal_on site_frame (disk home here)

abbrev pub coord_left : CoordPast → Journal CoordRecord
coord_left past = journal_on coord_frame (Coordinator.disk past)

-- a site's journal begins with its first record, and says what all its records said
pub record SiteSaysSame (home : Home) (here : SitePast) : Type 0 where
  pub first : Home
  pub is : home_found (first_of (site_left home here).records) ≡ Some first
  pub sums : site_sum first (records first (opened_site (site_left home here))) ≡ site_sum home (records home here)

-- the coordinator's journal tells what all its records told, and the rules go on from it
pub record CoordSaysSame (members : List Participant) (past : CoordPast) : Type 0 where
  pub sum : CoordSum
  pub before : TellsRecords members sum (Coordinator.records past)
  pub now : TellsRecords members sum (coord_read (coord_left past))
  pub opened : IsOpened members (opened_coordinator members (coord_left past))

pub record SaysSame (scenario : Scenario) (left : Story) : Type 0 where
  pub coordinator : CoordSaysSame (protocols scenario) (coord_past left)
  pub sites : (site : SiteId) (home : Home) → home_of scenario site ≡ Some home → SiteSaysSame home (past_of site left)
