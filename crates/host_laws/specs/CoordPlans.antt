-- What is settled of the coordinator of a run before its threads start.
use Rattle.std.specs.Prelude.{ℕ, List}
use Rattle.fed_rules.specs.declared.scenario.StopLine.{StopLine}
use Rattle.fed_rules.specs.Terms.{Terms}
use Rattle.fed_rules.specs.OwnPrograms.{OwnPrograms}
use Rattle.coord_tables.specs.Terms.{Terms}

-- its sites with their protocols and its policy, the programs of the global transactions, its scripted stops in their order, and how often its
-- disk failed before
pub record CoordPlan : Type 0 where
  pub terms : Terms
  pub programs : OwnPrograms
  pub stops : List StopLine
  pub faults : ℕ
