-- What the conservative ticket method gives: no commit is refused for a cycle.
use Rattle.std.specs.Prelude.{◌≡◌, true, Some, List}
use Rattle.fed_rules.specs.declared.answers.Answer.{Answer}
use Rattle.fed_rules.specs.declared.answers.Answer.TheVariants as Say
use Rattle.fed_rules.specs.declared.answers.Cause.TheVariants as For
use Rattle.fed_rules.specs.declared.commands.Command.{Command}
use Rattle.fed_rules.specs.declared.scenario.Scenario.{Scenario}
use Rattle.fed_rules.specs.CoordPast.{CoordHappening}
use Rattle.fed_rules.specs.Plans.{IsScenario}
use Rattle.commit_laws.specs.Forgetting.{IsNextOfCoordinator}

-- the answer refuses a commit for a cycle of the ticket graph
abbrev pub RefusesForCycle : Answer → Type 0
RefusesForCycle (Say.Decides decision (Some (For.Cycle edges)) forgets) = Unit {0}
RefusesForCycle answer = ⊥

-- where tickets are taken conservatively, no line of the coordinator does so, after any commands
abbrev pub ConservativeTicketsCloseNoCycle : Type 0
ConservativeTicketsCloseNoCycle =
    (scenario : Scenario) → IsScenario scenario → scenario.conservative ≡ true → (commands : List Command) (x : CoordHappening)
    → IsNextOfCoordinator scenario commands x → RefusesForCycle x.answer → ⊥
