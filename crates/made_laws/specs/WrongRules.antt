-- Moves and counts that look right and aren't.
use Rattle.std.specs.Prelude.{ℕ, ◌≡◌, ◌+◌, ◌*◌, ◌-◌, ◌%◌, ◌^◌, List, [], ◌∷◌, count_by, length, sum_by, take}
use Rattle.mdb_base.specs.declared.acts.Act.TheVariants.{Get, Add}
use Rattle.mdb_base.specs.declared.acts.Step.{Step}
use Rattle.mdb_base.specs.declared.names.SiteId.{SiteId}
use Rattle.order_laws.specs.Chains.{Distinct}
use Rattle.fed_rules.specs.declared.commands.Command.{Command}
use Rattle.fed_rules.specs.declared.scenario.Scenario.{Scenario}
use Rattle.fed_rules.specs.CoordPast as Coordinator
use Rattle.fed_rules.specs.Orders.{records_of}
use Rattle.fed_rules.specs.Plans.{IsScenario}
use Rattle.fed_rules.specs.Scenarios.{sites}
use Rattle.fed_rules.specs.Serial.{Tables, serial_tables}
use Rattle.fed_rules.specs.Story.{Story, coord_past, story_of}
use Rattle.report_text.specs.Summaries.{is_global_commit, is_local_commit}
use Rattle.made_laws.specs.Counted.{AreDone}
use Rattle.made_laws.specs.Moves.{worth}

-- a program that is made so leaves some tables worth something else
pub record ChangesWorth (moved : (from key to other amount : ℕ) → List Step) : Type 0 where
  pub sites : List SiteId
  pub distinct : Distinct sites
  pub bound : SiteId → ℕ
  pub tables : Tables
  pub from : ℕ
  pub key : ℕ
  pub to : ℕ
  pub other : ℕ
  pub amount : ℕ
  pub changed : worth sites bound (serial_tables (moved from key to other amount ∷ []) tables) % 2 ^ 64 ≡ worth sites bound tables % 2 ^ 64 → ⊥

-- takes an amount from a row and puts twice as much into another one
abbrev pub transfer_twice : (from key to other amount : ℕ) → List Step
transfer_twice from key to other amount =
    record { site = record { 0 = from }; act = Get (record { 0 = key }) }
    ∷ record { site = record { 0 = from }; act = Add (record { 0 = key }) 0 (2 ^ 64 - amount) }
    ∷ record { site = record { 0 = to }; act = Get (record { 0 = other }) }
    ∷ record { site = record { 0 = to }; act = Add (record { 0 = other }) 1 (2 * amount) } ∷ []

-- of some story, in which each transaction has a commit, it counts another number of commits
pub record MissesACommit (count : Scenario → Story → ℕ) : Type 0 where
  pub scenario : Scenario
  pub good : IsScenario scenario
  pub commands : List Command  -- the last one first
  pub done : AreDone scenario (story_of scenario commands)
  pub missed : count scenario (story_of scenario commands) ≡ length scenario.transactions → ⊥

-- the Local records of the first site alone, and the Commit records of the coordinator
abbrev pub committed_at_first : Scenario → Story → ℕ
committed_at_first scenario story =
    sum_by (λ site. count_by is_local_commit (records_of scenario story site)) (take 1 (sites scenario))
    + count_by is_global_commit (Coordinator.records (coord_past story))
