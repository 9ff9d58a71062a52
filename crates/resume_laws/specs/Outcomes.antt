-- How the attempts of a session end that goes on from the disks that another one left.
use Rattle.std.specs.Prelude.{◌≡◌, List}
use Rattle.mdb_base.specs.declared.names.SiteId.{SiteId}
use Rattle.mdb_base.specs.declared.names.Tid.{Tid}
use Rattle.presumptions.specs.declared.Decision.{Decision}
use Rattle.fed_rules.specs.declared.commands.Command.{Command}
use Rattle.fed_rules.specs.declared.scenario.Scenario.{Scenario}
use Rattle.fed_rules.specs.Endings.{Settles, outcome_in}
use Rattle.fed_rules.specs.GoingOn.{AllDown}
use Rattle.fed_rules.specs.Plans.{IsScenario}
use Rattle.fed_rules.specs.Resumed.{left_by, resumed}
use Rattle.fed_rules.specs.Story.{past_of, story_of}
use Rattle.resume_laws.specs.Premises.{SaysSame}

-- of each attempt the outcome stays, if only the journals say what the records said
abbrev pub OutcomesStay : Type 0
OutcomesStay =
    (scenario : Scenario) → IsScenario scenario → (commands : List Command) → SaysSame scenario (story_of scenario commands) → (tid : Tid)
    → outcome_in (resumed (left_by scenario (story_of scenario commands))) tid ≡ outcome_in (story_of scenario commands) tid

-- and each site that settles an attempt says its outcome
abbrev pub SettlesAgree : Type 0
SettlesAgree =
    (scenario : Scenario) → IsScenario scenario → (commands : List Command) → AllDown scenario (story_of scenario commands)
    → SaysSame scenario (story_of scenario commands) → (site : SiteId) (tid : Tid) (decision : Decision)
    → Settles (past_of site (resumed (left_by scenario (story_of scenario commands)))) tid decision → decision ≡ outcome_in (story_of scenario commands) tid
