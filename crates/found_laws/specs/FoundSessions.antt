-- A session that goes on from usable disks, whoever left them.
use Rattle.std.specs.Prelude.{ℕ, ◌≡◌, ◌≤◌, ◌<◌, Bool, Option, Some, None, List, [], ◌∷◌}
use Rattle.mdb_base.specs.declared.names.SiteId.{SiteId}
use Rattle.mdb_base.specs.declared.names.Tx.{Tx}
use Rattle.mdb_base.specs.Rising.{IsRising}
use Rattle.mdb_base.specs.Words.{Each}
use Rattle.order_laws.specs.Chains.{In}
use Rattle.fed_rules.specs.declared.commands.Command.{Command}
use Rattle.fed_rules.specs.declared.events.SiteEvent.{SiteEvent}
use Rattle.fed_rules.specs.declared.records.CoordRecord.{CoordRecord}
use Rattle.fed_rules.specs.declared.records.SiteRecord.{SiteRecord}
use Rattle.fed_rules.specs.Found.{Found, Journal}
use Rattle.fed_rules.specs.Reopened.{first_of, opened_coordinator, opened_site}
use Rattle.fed_rules.specs.Resumed.{going_on, plan_of}
use Rattle.fed_rules.specs.Scenarios.{home_of, protocols}
use Rattle.fed_rules.specs.Site.{site_past_on}
use Rattle.fed_rules.specs.SitePast.{SitePast}
use Rattle.fed_rules.specs.SiteRecords.{Home}
use Rattle.fed_rules.specs.Story.{coord_past, past_of, story_in}
use Rattle.fed_rules.specs.Usable.{AreUnnamed, IsUsableCoordinator, IsUsableSite, home_of_first}
use Rattle.site_history.specs.Events.{AreSorted}
use Rattle.coord_laws.specs.FoundCoordinators.{MembersRise}
use Rattle.site_history.specs.FoundSites.{IsFoundSite, WritesRise}

-- usable journals of sites' disks by rising number, the greatest of which is 8
abbrev pub AreOfDisks : ℕ → List (Journal SiteRecord) → Type 0
AreOfDisks least [] = Unit {0}
AreOfDisks least (journal ∷ journals) = (number : ℕ) × (least < number) × (number ≤ 8) × IsUsableSite number journal.records × AreOfDisks number journals

-- what is found is usable, of the format, and no transaction that the coordinator's journal names is local at a site
pub record AreUsable (found : Found) : Type 0 where
  pub coordinator : Journal CoordRecord
  pub is : found.coordinator ≡ Some coordinator
  pub usable : IsUsableCoordinator (protocols (plan_of found)) coordinator.records
  pub members : Each MembersRise coordinator.records
  pub sites : AreOfDisks 0 found.sites
  pub unnamed : Each (λ (site : Journal SiteRecord). AreUnnamed coordinator.records site.records) found.sites

-- the session begins with the pasts that the journals stand for: that of the coordinator, and at each declared site that of one of them
pub record BeginsWith (found : Found) (coordinator : Journal CoordRecord) : Type 0 where
  pub at_coordinator : coord_past (story_in (going_on found) []) ≡ opened_coordinator (protocols (plan_of found)) coordinator
  pub at_sites : (site : SiteId) (home : Home) → home_of (plan_of found) site ≡ Some home
      → (journal : Journal SiteRecord) × In journal found.sites × (past_of site (story_in (going_on found) []) ≡ opened_site journal)

abbrev pub UsableSessionsBegin : Type 0
UsableSessionsBegin = (found : Found) → (usable : AreUsable found) → BeginsWith found usable.coordinator

-- the first rows rise by key, as the format has them
abbrev pub RowsRise : Option Home → Type 0
RowsRise None = Unit {0}
RowsRise (Some home) = IsRising (λ put. put.key.0) home.items

abbrev pub IsOfFormat : Journal SiteRecord → Type 0
IsOfFormat journal = Each WritesRise journal.records × RowsRise (home_of_first (first_of journal.records))

-- the past is what sorted events make of a journal that is found at this site, so that all laws of such pasts hold of it
pub record IsFoundPast (home : Home) (past : SitePast) : Type 0 where
  pub local : Tx → Bool
  pub journal : Journal SiteRecord
  pub found : IsFoundSite home local journal
  pub events : List SiteEvent
  pub sorted : AreSorted local events
  pub is : past ≡ site_past_on home (opened_site journal) events

-- so it is at each declared site, behind whatever commands
abbrev pub UsableSessionsGoOn : Type 0
UsableSessionsGoOn =
    (found : Found) → AreUsable found → Each IsOfFormat found.sites → (commands : List Command) (site : SiteId) (home : Home)
    → home_of (plan_of found) site ≡ Some home → IsFoundPast home (past_of home.site (story_in (going_on found) commands))
