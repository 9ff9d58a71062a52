-- The summary of a scenario that was made and carried out: what was made, and what the journals on the disks say of it, as one line.
use Rattle.std.specs.Prelude.{ℕ, ◌+◌, ◌%◌, ◌^◌, Bool, true, false, is_none, is_some, Option, Some, None, List, [], ◌∷◌, ◌++◌, codes, count_by, decimal, length, sum_by}
use Rattle.mdb_base.specs.declared.names.SiteId.{SiteId}
use Rattle.mdb_base.specs.declared.rows.Put.{Put}
use Rattle.fed_rules.specs.declared.records.CoordRecord.{CoordRecord}
use Rattle.fed_rules.specs.declared.records.CoordRecord.TheVariants.{Commit}
use Rattle.fed_rules.specs.declared.records.SiteRecord.{SiteRecord}
use Rattle.fed_rules.specs.declared.records.SiteRecord.TheVariants.{Local}
use Rattle.fed_rules.specs.declared.scenario.Scenario.{Scenario}
use Rattle.fed_rules.specs.CoordPast as Coordinator
use Rattle.fed_rules.specs.Scenarios.{home_of, sites}
use Rattle.fed_rules.specs.SitePast as Site
use Rattle.fed_rules.specs.SiteRecords.{Home}
use Rattle.fed_rules.specs.SiteSums.{journal_sum}
use Rattle.fed_rules.specs.Story.{Story, coord_past, past_of}

-- whether a record is the commit of a local transaction
abbrev pub is_local_commit : SiteRecord → Bool
is_local_commit (Local tid number writes) = true
is_local_commit other = false

-- whether a record is the commit of a global one
abbrev pub is_global_commit : CoordRecord → Bool
is_global_commit (Commit tid tickets) = true
is_global_commit other = false

-- the values of rows together
abbrev pub rows_total : List Put → ℕ
rows_total rows = sum_by (λ row. row.value) rows

-- ---- what the journals on the disks say

-- the records on the disk of a site, and the rows that they give; an undeclared one has none
abbrev pub journal_at : Option Home → Story → List SiteRecord
journal_at None story = []
journal_at (Some home) story = Site.journal home (past_of home.site story)

abbrev pub rows_at : Option Home → Story → List Put
rows_at None story = []
rows_at (Some home) story = (journal_sum home (journal_at (Some home) story)).rows

-- how many Local records stand on the disk of a site, and on the disks of all sites
abbrev pub commits_at : Scenario → Story → SiteId → ℕ
commits_at scenario story site = count_by is_local_commit (journal_at (home_of scenario site) story)

abbrev pub local_commits : Scenario → Story → ℕ
local_commits scenario story = sum_by (commits_at scenario story) (sites scenario)

-- how many Commit records stand on the disk of the coordinator
abbrev pub global_commits : Story → ℕ
global_commits story = count_by is_global_commit (Coordinator.journal (coord_past story))

-- and how many of both
abbrev pub commits : Scenario → Story → ℕ
commits scenario story = local_commits scenario story + global_commits story

-- the sum of a site's table, and of all tables, that the journals give; that of all modulo 2^64
abbrev pub total_at : Scenario → Story → SiteId → ℕ
total_at scenario story site = rows_total (rows_at (home_of scenario site) story)

abbrev pub total_given : Scenario → Story → ℕ
total_given scenario story = sum_by (total_at scenario story) (sites scenario) % 2 ^ 64

-- ---- the line

-- of these numbers
abbrev pub summary_line : (sites globals locals committed total : ℕ) → List ℕ
summary_line sites globals locals committed total =
    (codes "sites " ++ decimal sites ++ codes " globals " ++ decimal globals ++ codes " locals " ++ decimal locals ++ codes " committed " ++ decimal committed
    ++ codes " total " ++ decimal total) ++ 10 ∷ []

-- of what was made, and of the journals
abbrev pub summary_text : Scenario → Story → List ℕ
summary_text scenario story =
    summary_line (length scenario.sites) (count_by (λ line. is_none line.home) scenario.transactions) (count_by (λ line. is_some line.home) scenario.transactions)
    (commits scenario story) (total_given scenario story)
