-- The site orders of a story, the reads of their members, what each site's table is and what it is due, and what a serial order gives.
use Rattle.std.specs.Prelude.{ℕ, ◌≡◌, Bool, cond, Option, Some, None, List, [], map}
use Rattle.mdb_base.specs.declared.acts.Step.{Step}
use Rattle.mdb_base.specs.declared.names.Key.{Key}
use Rattle.mdb_base.specs.declared.names.SiteId.{SiteId}
use Rattle.mdb_base.specs.declared.names.Tid.{Tid}
use Rattle.mdb_base.specs.declared.rows.Put.{Put}
use Rattle.mdb_base.specs.Names.{same_tid}
use Rattle.mdb_base.specs.Rows.{look_up}
use Rattle.mdb_base.specs.Words.{found}
use Rattle.order_laws.specs.Merge as merge
use Rattle.fed_rules.specs.declared.answers.Answer.{Answer}
use Rattle.fed_rules.specs.declared.answers.Answer.TheVariants as Say
use Rattle.fed_rules.specs.declared.events.SiteEvent.{SiteEvent}
use Rattle.fed_rules.specs.declared.events.SiteEvent.TheVariants as Ev
use Rattle.fed_rules.specs.declared.records.SiteRecord.{SiteRecord}
use Rattle.fed_rules.specs.declared.scenario.Scenario.{Scenario}
use Rattle.fed_rules.specs.CoordPast as Coordinator
use Rattle.fed_rules.specs.CoordPast.{oldest_first}
use Rattle.fed_rules.specs.CoordRecords.{has_commit}
use Rattle.fed_rules.specs.Scenarios.{home_of, local_home, items_of, program_of, sites}
use Rattle.fed_rules.specs.Serial.{Tables, serial_reads, serial_tables}
use Rattle.fed_rules.specs.SitePast.{SitePast, records}
use Rattle.fed_rules.specs.SiteRecords.{Home, order_of, site_rows, due_rows}
use Rattle.fed_rules.specs.Story.{Story, past_of, coord_past}

-- whether the outcome of a global attempt is commit
abbrev pub is_committed : Story → Tid → Bool
is_committed story tid = has_commit (Coordinator.records (coord_past story)) tid

abbrev pub records_at : Option Home → Story → List SiteRecord
records_at None story = []
records_at (Some home) story = records home (past_of home.site story)

-- the kept records of a site, the newest first
abbrev pub records_of : Scenario → Story → SiteId → List SiteRecord
records_of scenario story site = records_at (home_of scenario site) story

-- the order of a site: its committed local transactions, and its prepared ones with outcome commit, by rising serial number
abbrev pub order_at : Scenario → Story → SiteId → List Tid
order_at scenario story site = order_of (is_committed story) (records_of scenario story site)

-- the orders of all sites, by rising site
abbrev pub orders : Scenario → Story → List (List Tid)
orders scenario story = map (order_at scenario story) (sites scenario)

-- one order for all sites
abbrev pub IsMerge : Scenario → Story → List Tid → Type 0
IsMerge scenario story order = merge.IsMerge same_tid (orders scenario story) order

abbrev pub read_by : Tid → SiteEvent → Answer → Option ℕ
read_by tid (Ev.Act acting act) (Say.Read key value) = cond (same_tid acting tid) (Some value) None
read_by tid event answer = None

-- the values that a local attempt read at its site, in program order
abbrev pub local_reads : SitePast → Tid → List ℕ
local_reads past tid = oldest_first (found (λ x. read_by tid x.event x.answer) past)

abbrev pub reads_at : Option Home → Story → Tid → List ℕ
reads_at None story tid = Coordinator.reads (coord_past story) tid
reads_at (Some home) story tid = local_reads (past_of home.site story) tid

-- the values that an attempt read, in program order: of a local one at its site, of a global one as the coordinator counted them
abbrev pub reads_of : Scenario → Story → Tid → List ℕ
reads_of scenario story tid = reads_at (local_home scenario tid.tx) story tid

abbrev pub table_at : Option Home → Story → List Put
table_at None story = []
table_at (Some home) story = site_rows home (records home (past_of home.site story))

-- the rows of a site
abbrev pub table_of : Scenario → Story → SiteId → List Put
table_of scenario story site = table_at (home_of scenario site) story

abbrev pub due_at : Option Home → Story → List Put
due_at None story = []
due_at (Some home) story = due_rows (is_committed story) home (records home (past_of home.site story))

-- the rows that a site is due: with every prepared transaction whose outcome is commit
abbrev pub due_of : Scenario → Story → SiteId → List Put
due_of scenario story site = due_at (home_of scenario site) story

-- the tables that the items make
abbrev pub first_tables : Scenario → Tables
first_tables scenario site = look_up (items_of scenario.items site)

-- the programs of these attempts
abbrev pub programs_of : Scenario → List Tid → List (List Step)
programs_of scenario order = map (λ tid. program_of scenario tid.tx) order

-- running the programs of the order one after another gives each member's reads, and what is due at each site
pub record IsSerial (scenario : Scenario) (story : Story) (order : List Tid) : Type 0 where
  pub reads : serial_reads (programs_of scenario order) (first_tables scenario) ≡ map (reads_of scenario story) order
  pub tables : (site : SiteId) → (home : Home) → home_of scenario site ≡ Some home →
      (key : Key) → serial_tables (programs_of scenario order) (first_tables scenario) site key ≡ look_up (due_of scenario story site) key
