-- What is settled of a run before its threads start.
use Rattle.std.specs.Prelude.{ℕ, List}
use Rattle.fed_rules.specs.declared.scenario.StopLine.{StopLine}
use Rattle.fed_rules.specs.SiteRecords.{Home}
use Rattle.fed_rules.specs.OwnPrograms.{OwnPrograms}

-- of a site: how it was set up, the programs of its own transactions, its scripted stops in their order, and how often its disk failed before
pub record SitePlan : Type 0 where
  pub home : Home
  pub programs : OwnPrograms
  pub stops : List StopLine
  pub faults : ℕ

-- the most lines of a host
abbrev pub most_lines : ℕ
most_lines = 16777216
