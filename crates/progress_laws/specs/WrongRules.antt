-- Ways to end a doubt or a session that look right and aren't, and a session that isn't at rest.
use Rattle.std.specs.Prelude.{◌≡◌, true, false, is_some, Some, List}
use Rattle.mdb_base.specs.declared.acts.Step.{Step}
use Rattle.mdb_base.specs.declared.names.SiteId.{SiteId}
use Rattle.mdb_base.specs.declared.names.Tid.{Tid}
use Rattle.order_laws.specs.Chains.{In}
use Rattle.fed_rules.specs.declared.commands.Command.{Command}
use Rattle.fed_rules.specs.declared.scenario.Scenario.{Scenario}
use Rattle.fed_rules.specs.declared.scenario.TxLine.{TxLine}
use Rattle.fed_rules.specs.Closing.{closed, is_done}
use Rattle.fed_rules.specs.CoordPast.{is_open}
use Rattle.fed_rules.specs.Orders.{is_committed, records_of}
use Rattle.fed_rules.specs.Plans.{IsScenario}
use Rattle.fed_rules.specs.Scenarios.{home_of, program_of}
use Rattle.fed_rules.specs.SitePast.{records}
use Rattle.fed_rules.specs.SiteRecords.{Home, doubt_of}
use Rattle.fed_rules.specs.Story.{coord_past, past_of, story_of}
use Rattle.closing_laws.specs.Finished.{HaveAttemptsLeft}
use Rattle.progress_laws.specs.Progress.{AreReady}

-- a site is in doubt of an attempt, and it and the coordinator are ready
pub record IsDoubtful (scenario : Scenario) (commands : List Command) (home : Home) (tid : Tid) : Type 0 where
  pub declared : home_of scenario home.site ≡ Some home
  pub ready : AreReady home.site (story_of scenario commands)
  pub in_doubt : is_some (doubt_of (records home (past_of home.site (story_of scenario commands))) tid) ≡ true

-- behind these commands some site is still in doubt of an attempt that the coordinator has decided
pub record LeavesADoubt (end : Scenario → SiteId → Tid → List Command → List Command) : Type 0 where
  pub scenario : Scenario
  pub commands : List Command  -- the last one first
  pub home : Home
  pub tid : Tid
  pub doubtful : IsDoubtful scenario commands home tid
  pub decided : is_open (coord_past (story_of scenario commands)) tid ≡ false
  pub still : is_some (doubt_of (records home (past_of home.site (story_of scenario (end scenario home.site tid commands)))) tid) ≡ true

-- or of one that it hasn't decided
pub record LeavesADoubtUndecided (end : Scenario → SiteId → Tid → List Command → List Command) : Type 0 where
  pub scenario : Scenario
  pub commands : List Command  -- the last one first
  pub home : Home
  pub tid : Tid
  pub doubtful : IsDoubtful scenario commands home tid
  pub undecided : is_open (coord_past (story_of scenario commands)) tid ≡ true
  pub still : is_some (doubt_of (records home (past_of home.site (story_of scenario (end scenario home.site tid commands)))) tid) ≡ true

-- behind these commands some transaction of which a further attempt might begin has no commit
pub record LeavesUncommitted (end : Scenario → List Command → List Command) : Type 0 where
  pub scenario : Scenario
  pub commands : List Command  -- the last one first
  pub left : HaveAttemptsLeft scenario (story_of scenario commands)
  pub line : TxLine
  pub listed : In line scenario.transactions
  pub undone : is_done scenario (story_of scenario (end scenario commands)) line.tx ≡ false

-- behind some commands a site of the program of an attempt that committed is still in doubt of it
pub record LeavesUnsettled : Type 0 where
  pub scenario : Scenario
  pub good : IsScenario scenario
  pub commands : List Command  -- the last one first
  pub tid : Tid
  pub committed : is_committed (story_of scenario commands) tid ≡ true
  pub step : Step
  pub of_program : In step (program_of scenario tid.tx)
  pub still : is_some (doubt_of (records_of scenario (story_of scenario commands) step.site) tid) ≡ true

-- the session is closed, and nothing is finished
abbrev pub closed_alone : Scenario → List Command → List Command
closed_alone scenario commands = closed scenario commands
