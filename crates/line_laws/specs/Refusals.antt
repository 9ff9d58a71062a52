-- Where tickets are taken conservatively, no printed line refuses a commit for a cycle.
use Rattle.std.specs.Prelude.{◌≡◌, true, List}
use Rattle.mdb_base.specs.Words.{Each}
use Rattle.fed_rules.specs.declared.commands.Command.{Command}
use Rattle.fed_rules.specs.declared.commands.Line.{Line}
use Rattle.fed_rules.specs.declared.scenario.Scenario.{Scenario}
use Rattle.fed_rules.specs.Plans.{IsScenario}
use Rattle.fed_rules.specs.Right.{IsNext, IsRightStory}
use Rattle.fed_rules.specs.Story.{story_of}
use Rattle.federation_laws.specs.Conservative.{RefusesForCycle}

-- no line refuses a commit for a cycle
abbrev pub RefuseNone : List Line → Type 0
RefuseNone lines = Each (λ line. RefusesForCycle line.answer → ⊥) lines

-- so the next line of any story refuses no commit for a cycle
abbrev pub ConservativeNextLinesRefuseNone : Type 0
ConservativeNextLinesRefuseNone =
    (scenario : Scenario) → IsScenario scenario → scenario.conservative ≡ true → (commands : List Command) (line : Line)
    → IsNext scenario (story_of scenario commands) line → RefusesForCycle line.answer → ⊥

-- and no right line does
abbrev pub ConservativeLinesRefuseNone : Type 0
ConservativeLinesRefuseNone =
    (scenario : Scenario) → IsScenario scenario → scenario.conservative ≡ true → (lines : List Line) → IsRightStory scenario lines → RefuseNone lines
