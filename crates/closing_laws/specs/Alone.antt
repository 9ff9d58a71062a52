-- A transaction that is finished alone commits, and leaves the session at rest.
use Rattle.std.specs.Prelude.{◌≡◌, ◌<◌, true, false, Some, List}
use Rattle.mdb_base.specs.declared.acts.Step.{Step}
use Rattle.mdb_base.specs.declared.names.Tx.{Tx}
use Rattle.fed_rules.specs.declared.commands.Command.{Command}
use Rattle.fed_rules.specs.declared.scenario.Scenario.{Scenario}
use Rattle.fed_rules.specs.Closing.{local_alone, global_alone, is_done}
use Rattle.fed_rules.specs.CoordPast as Coordinator
use Rattle.fed_rules.specs.Plans.{IsScenario}
use Rattle.fed_rules.specs.Scenarios.{local_home, program_of, global_program}
use Rattle.fed_rules.specs.SitePast.{attempts_of}
use Rattle.fed_rules.specs.SiteRecords.{Home}
use Rattle.fed_rules.specs.Story.{Story, coord_past, past_of, story_of, most_attempts}
use Rattle.closing_laws.specs.AtRest.{IsAtRest}

-- the transaction has a commit, and the session is at rest
pub record IsFinished (scenario : Scenario) (tx : Tx) (story : Story) : Type 0 where
  pub done : is_done scenario story tx ≡ true
  pub rest : IsAtRest scenario story

-- so it is for a local transaction without a commit, of which not all attempts were begun
abbrev pub LocalsCommitAlone : Type 0
LocalsCommitAlone =
    (scenario : Scenario) (commands : List Command) (tx : Tx) (home : Home) → IsScenario scenario → IsAtRest scenario (story_of scenario commands)
    → local_home scenario tx ≡ Some home → is_done scenario (story_of scenario commands) tx ≡ false
    → attempts_of (past_of home.site (story_of scenario commands)) tx < most_attempts
    → IsFinished scenario tx (story_of scenario (local_alone tx (program_of scenario tx) commands))

-- and for a global one
abbrev pub GlobalsCommitAlone : Type 0
GlobalsCommitAlone =
    (scenario : Scenario) (commands : List Command) (tx : Tx) (steps : List Step) → IsScenario scenario → IsAtRest scenario (story_of scenario commands)
    → global_program scenario tx ≡ Some steps → is_done scenario (story_of scenario commands) tx ≡ false
    → Coordinator.attempts_of (coord_past (story_of scenario commands)) tx < most_attempts
    → IsFinished scenario tx (story_of scenario (global_alone scenario tx steps commands))
