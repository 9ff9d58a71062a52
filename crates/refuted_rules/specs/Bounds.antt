-- Bounds on closing and finishing that look right and aren't.
use Rattle.std.specs.Prelude.{ℕ, ◌+◌, ◌*◌, ◌<◌, List, length}
use Rattle.fed_rules.specs.declared.commands.Command.{Command}
use Rattle.fed_rules.specs.declared.scenario.Scenario.{Scenario}
use Rattle.fed_rules.specs.Closing.{closed, finished_alone}
use Rattle.fed_rules.specs.Plans.{IsScenario}

-- closing some session takes more commands than the bound gives for those before it
pub record ClosesLater (bound : ℕ → ℕ) : Type 0 where
  pub scenario : Scenario
  pub good : IsScenario scenario
  pub commands : List Command  -- the last one first
  pub longer : bound (length commands) + length commands < length (closed scenario commands)

-- one command for each one before it
abbrev pub one_for_each : ℕ → ℕ
one_for_each count = count

-- finishing the transactions of some scenario alone takes more commands than the bound gives for their number
pub record FinishesLater (bound : ℕ → ℕ) : Type 0 where
  pub scenario : Scenario
  pub good : IsScenario scenario
  pub commands : List Command  -- the last one first
  pub longer : bound (length scenario.transactions) + length commands < length (finished_alone scenario commands)

-- as many commands for each transaction as a local one takes at most: begin, 32 steps and commit
abbrev pub as_if_all_were_local : ℕ → ℕ
as_if_all_were_local count = 34 * count
