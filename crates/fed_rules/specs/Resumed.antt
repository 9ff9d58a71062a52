-- A session that goes on from the disks that another one left: what it finds there, what it makes of it, and what it prints.
use Rattle.std.specs.Prelude.{ℕ, ◌-◌, ◌++◌, false, Option, Some, None, List, [], ◌∷◌, length, map, take}
use Rattle.mdb_base.specs.declared.names.SiteId.{SiteId}
use Rattle.mdb_base.specs.declared.names.Tid.{Tid}
use Rattle.mdb_base.specs.declared.rows.Put.{Put}
use Rattle.mdb_base.specs.declared.rows.SiteRows.{SiteRows}
use Rattle.mdb_base.specs.Words.{found as each_found, map_some, or_else, those, with_some}
use Rattle.fed_rules.specs.declared.commands.Command.{Command}
use Rattle.fed_rules.specs.declared.commands.Line.{Line}
use Rattle.fed_rules.specs.declared.records.CoordRecord.{CoordRecord}
use Rattle.fed_rules.specs.declared.records.SiteRecord.{SiteRecord}
use Rattle.fed_rules.specs.declared.records.SiteRecord.TheVariants.{Setup, Start, Prepared, Ended, Local, Checkpoint}
use Rattle.fed_rules.specs.declared.report.Outcome.{Outcome}
use Rattle.fed_rules.specs.declared.scenario.ItemLine.{ItemLine}
use Rattle.fed_rules.specs.declared.scenario.Scenario.{Scenario}
use Rattle.fed_rules.specs.declared.scenario.SiteLine.{SiteLine}
use Rattle.fed_rules.specs.Attempts.{each_attempt}
use Rattle.fed_rules.specs.Closing.{closed_in, rising}
use Rattle.fed_rules.specs.Sessions.{Session}
use Rattle.fed_rules.specs.CoordPast as Coordinator
use Rattle.fed_rules.specs.CoordRecords.{coord_frame, outcome, recorded}
use Rattle.fed_rules.specs.Disk.{Disk, bytes_of, journal}
use Rattle.fed_rules.specs.Found.{Found, Journal}
use Rattle.fed_rules.specs.Reopened.{coord_read, first_of}
use Rattle.fed_rules.specs.Reports.{is_forgotten, tables}
use Rattle.fed_rules.specs.Scenarios.{home_of, sites}
use Rattle.fed_rules.specs.SitePast.{disk}
use Rattle.fed_rules.specs.SiteRecords.{Home, site_frame}
use Rattle.fed_rules.specs.Story.{Story, coord_past, home_found, lines_of, past_of, story_in}

-- ---- what is found

-- the journal on a disk, with the bytes of a torn rest
abbrev pub journal_on : {Record : Type 0} → (Record → ℕ) → Disk Record → Journal Record
journal_on size disk = record { records = journal size disk; torn = disk.length - bytes_of size disk.records }

abbrev pub left_at : Story → Option Home → Option (Journal SiteRecord)
left_at story None = None
left_at story (Some home) = Some (journal_on site_frame (disk home (past_of home.site story)))

-- what a session leaves on its disks, of which each site was set up
abbrev pub left_by : Scenario → Story → Found
left_by scenario story =
    record {
      coordinator = Some (journal_on coord_frame (Coordinator.disk (coord_past story)));
      sites = each_found (λ site. left_at story (home_of scenario site)) (sites scenario);
    }

-- ---- what a session makes of it

abbrev pub site_line_by : Home → SiteLine
site_line_by home = record { site = home.site; engine = home.engine; protocol = home.protocol }

abbrev pub homes : List (Journal SiteRecord) → List Home
homes journals = each_found (λ journal. home_found (first_of journal.records)) journals

abbrev pub items_by : List Home → List ItemLine
items_by [] = []
items_by (home ∷ homes) = map (λ put. record { site = home.site; put = put }) home.items ++ items_by homes

-- the scenario of a session that goes on: the sites of the journals with their first rows, and no transactions
abbrev pub plan_of : Found → Scenario
plan_of found =
    record {
      sites = map site_line_by (homes found.sites);
      items = items_by (homes found.sites);
      transactions = [];
      clients = 1;
      turns = 1;
      tries = 1;
      links = [];
      stops = [];
      conservative = false;
    }

abbrev pub going_on : Found → Session
going_on found = record { plan = plan_of found; found = found }

-- its commands, the last one first: each actor comes back, and the session is closed
abbrev pub resuming : Found → List Command
resuming found = closed_in (going_on found) []

abbrev pub resumed : Found → Story
resumed found = story_in (going_on found) (resuming found)

-- its lines, the last one first
abbrev pub resumed_lines : Found → List Line
resumed_lines found = take (length (resuming found)) (lines_of (resumed found))

-- ---- what is printed of it

-- the global attempts that a record of a site names
abbrev pub names : SiteRecord → List Tid
names (Prepared tid epoch number ticket writes) = tid ∷ []
names (Ended tid decision) = tid ∷ []
names (Checkpoint sum) = map (λ held. held.tid) sum.doubtful ++ with_some sum.owner []
names (Setup site engine protocol items) = []
names (Start epoch) = []
names (Local tid number writes) = []

abbrev pub all_names : List SiteRecord → List Tid
all_names [] = []
all_names (newest ∷ older) = names newest ++ all_names older

abbrev pub sites_name : List (Journal SiteRecord) → List Tid
sites_name [] = []
sites_name (journal ∷ journals) = all_names journal.records ++ sites_name journals

abbrev pub coordinator_names : Option (Journal CoordRecord) → List Tid
coordinator_names None = []
coordinator_names (Some journal) = recorded (coord_read journal)

-- the global attempts that a record names, rising
abbrev pub begun : Found → List Tid
begun found = rising (each_attempt (coordinator_names found.coordinator ++ sites_name found.sites))

-- how they ended, which of them are forgotten, and the rows of each site
pub record Rest : Type 0 where
  pub outcomes : List Outcome
  pub forgotten : List Tid
  pub tables : List SiteRows

abbrev pub rest_of : Found → Story → Rest
rest_of found story =
    record {
      outcomes = map (λ tid. record { tid = tid; decision = outcome (Coordinator.records (coord_past story)) tid }) (begun found);
      forgotten = those (is_forgotten (plan_of found) story) (begun found);
      tables = tables (plan_of found) story;
    }
