-- Programs that move an amount from one row to another, and what the tables are worth together.
use Rattle.std.specs.Prelude.{ℕ, zero, suc, ◌≡◌, ◌⊎◌, ◌+◌, ◌*◌, ◌≤◌, ◌<◌, ◌%◌, ◌^◌, List, [], ◌∷◌, sum_by}
use Rattle.mdb_base.specs.declared.acts.Step.{Step}
use Rattle.mdb_base.specs.declared.names.SiteId.{SiteId}
use Rattle.mdb_base.specs.Rows.{Table}
use Rattle.mdb_base.specs.Words.{Each}
use Rattle.order_laws.specs.Chains.{Distinct, In}
use Rattle.fed_rules.specs.declared.commands.Command.{Command}
use Rattle.fed_rules.specs.declared.scenario.Scenario.{Scenario}
use Rattle.fed_rules.specs.Orders.{table_of}
use Rattle.fed_rules.specs.Scenarios.{sites}
use Rattle.fed_rules.specs.Serial.{Tables, serial_tables}
use Rattle.fed_rules.specs.Story.{Story, story_of}
use Rattle.closing_laws.specs.AtRest.{IsAtRest}
use Rattle.report_text.specs.Summaries.{rows_total}
use Rattle.scenario_maker.specs.Made.{made, transfer}

-- the values of the keys below this one together
abbrev pub column : Table → ℕ → ℕ
column table zero = 0
column table (suc n) = column table n + table (record { 0 = n })

-- those of the tables of these sites, at each site up to its bound
abbrev pub worth : List SiteId → (SiteId → ℕ) → Tables → ℕ
worth [] bound tables = 0
worth (site ∷ sites) bound tables = column (tables site) (bound site) + worth sites bound tables

-- the program takes an amount from a row of one of these sites and puts it into one of another, or has no step
pub record IsMove (sites : List SiteId) (bound : SiteId → ℕ) (program : List Step) : Type 0 where
  pub from : SiteId
  pub key : ℕ
  pub to : SiteId
  pub other : ℕ
  pub amount : ℕ
  pub is : program ≡ transfer from.0 key to.0 other amount
  pub from_in : In from sites
  pub to_in : In to sites
  pub key_low : key < bound from
  pub other_low : other < bound to
  pub fits : amount ≤ 2 ^ 64

abbrev pub MovesAtMost : List SiteId → (SiteId → ℕ) → List Step → Type 0
MovesAtMost sites bound program = (program ≡ []) ⊎ IsMove sites bound program

-- such programs, run one after another in any order and any number of times, leave the tables of the sites worth as much, modulo 2^64
abbrev pub MovesKeepWorth : Type 0
MovesKeepWorth =
    (sites : List SiteId) (bound : SiteId → ℕ) (programs : List (List Step)) (tables : Tables) → Distinct sites → Each (MovesAtMost sites bound) programs
    → worth sites bound (serial_tables programs tables) % 2 ^ 64 ≡ worth sites bound tables % 2 ^ 64

-- ---- a made scenario

-- the values of the tables of all sites together
abbrev pub total_of : Scenario → Story → ℕ
total_of scenario story = sum_by (λ site. rows_total (table_of scenario story site)) (sites scenario) % 2 ^ 64

-- a made scenario has ten rows of 100 at each site: at rest, whatever was done, lost, stopped, committed and refused before, its tables have as much
abbrev pub MadeTotalsStay : Type 0
MadeTotalsStay =
    (number count transactions : ℕ) → 1 ≤ count → count ≤ 8 → transactions ≤ 1024 → (commands : List Command)
    → IsAtRest (made number count transactions) (story_of (made number count transactions) commands)
    → total_of (made number count transactions) (story_of (made number count transactions) commands) ≡ 1000 * count
