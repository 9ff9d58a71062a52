-- With what a session begins: with empty disks, or with the journals that are found on its disks.
use Rattle.std.specs.Prelude.{ℕ, ◌≡◌, ◌⊎◌, Bool, false, Option, Some, None, List, [], length}
use Rattle.std.specs.Global.{Vec}
use Rattle.std.specs.List.{AllByRecursion}
use Rattle.mdb_base.specs.declared.names.SiteId.{SiteId}
use Rattle.mdb_base.specs.declared.names.Tid.{Tid}
use Rattle.mdb_base.specs.Names.{same_site}
use Rattle.mdb_base.specs.Words.{Each, first_where}
use Rattle.fed_rules.specs.declared.records.CoordRecord.{CoordRecord}
use Rattle.fed_rules.specs.declared.records.SiteRecord.{SiteRecord}
use Rattle.fed_rules.specs.declared.scenario.Scenario.{Scenario}
use Rattle.fed_rules.specs.Found.{Found, Journal, nothing}
use Rattle.fed_rules.specs.Reopened.{first_of}
use Rattle.fed_rules.specs.Resumed.{begun, going_on}
use Rattle.fed_rules.specs.Sessions.{Session, fresh}
use Rattle.fed_rules.specs.SiteRecords.{Home}
use Rattle.fed_rules.specs.Story.{first_story, found_sites, home_found, past_of}
use Rattle.journal_disk.specs.Disk.{Seen}
use Rattle.journal_disk.specs.Frames.{AreWhole}
use Rattle.local_dbms.specs.Found.{found_programs}
use Rattle.local_dbms.specs.Stands.{OwnPrograms, own_programs}
use Rattle.found_laws.specs.Ranges.{AreInRange}
use Rattle.found_laws.specs.FoundSessions.{AreUsable, IsOfFormat}
use Rattle.session_report.specs.declared.marks.Mark.{Mark}
use Rattle.session_report.specs.Marks.{kept_marks}
use Rattle.site_journal.specs.Spelling.{IsRecord}

-- the session begins with empty disks
abbrev pub IsFresh : Session → Type 0
IsFresh session = session ≡ fresh session.plan

-- it goes on from what is found, which is usable, in records of the format, whose attempts lie in their range
pub record GoesOn (session : Session) : Type 0 where
  pub is : session ≡ going_on session.found
  pub usable : AreUsable session.found
  pub range : AreInRange session.found
  pub format : Each IsOfFormat session.found.sites
  pub records : Each (λ (journal : Journal SiteRecord). AllByRecursion IsRecord journal.records) session.found.sites

-- one of both
abbrev pub Begins : Session → Type 0
Begins session = IsFresh session ⊎ GoesOn session

-- ---- what a world of the session holds

abbrev pub scenario_by : Option (Journal CoordRecord) → Scenario → Scenario
scenario_by None plan = plan
scenario_by (Some journal) plan = record plan { items = [] }

-- the scenario: where the session goes on from disks, the first rows stand in the journals alone
abbrev pub scenario_of : Session → Scenario
scenario_of session = scenario_by session.found.coordinator session.plan

-- which attempts were begun before: where the session goes on from disks, those that a record names
abbrev pub Remembers : Option (Vec Tid) → Found → Type 0
Remembers None found = found ≡ nothing
Remembers (Some tids) found = (journal : Journal CoordRecord) × (found.coordinator ≡ Some journal) × (tids.items ≡ begun found)

-- nothing is on the disk of a site that isn't declared, or no whole frame where the session goes on from disks
abbrev pub IsBlank : Option (Journal CoordRecord) → Seen → Type 0
IsBlank None disk = disk.size ≡ 0
IsBlank (Some journal) disk = AreWhole disk.image.bytes []

-- ---- what a world of the session holds of a site

abbrev pub is_at : SiteId → Option Home → Bool
is_at site None = false
is_at site (Some home) = same_site home.site site

-- the journal that is found at a site
abbrev pub journal_at : List (Journal SiteRecord) → SiteId → Option (Journal SiteRecord)
journal_at journals site = first_where (λ journal. is_at site (home_found (first_of journal.records))) journals

abbrev pub either : {A : Type 0} → Option A → Option A → Option A
either None other = other
either (Some x) other = Some x

abbrev pub with_found : Option (Journal SiteRecord) → OwnPrograms → OwnPrograms
with_found None own = own
with_found (Some journal) own = λ tx. either (own tx) (found_programs journal.records tx)

-- the programs of a site: those of its local transactions, and of what is local in its journal besides a made-up one
abbrev pub programs_at : Session → SiteId → OwnPrograms
programs_at session site = with_found (journal_at session.found.sites site) (own_programs site session.plan.transactions)

-- the marks of the records that the session begins with at a site
abbrev pub first_marks : Session → Home → List Mark
first_marks session home = kept_marks home (past_of home.site (first_story session))

-- how many lines at sites the session begins with
abbrev pub made_up : Session → ℕ
made_up session = length (found_sites session.found.sites)
