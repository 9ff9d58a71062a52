-- A session: its scenario, and what it finds on its disks.
use Rattle.fed_rules.specs.declared.scenario.Scenario.{Scenario}
use Rattle.fed_rules.specs.Found.{Found, nothing}

pub record Session : Type 0 where
  pub plan : Scenario
  pub found : Found

-- one that begins with empty disks
abbrev pub fresh : Scenario → Session
fresh scenario = record { plan = scenario; found = nothing }
