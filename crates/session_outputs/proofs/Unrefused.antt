-- Where tickets are taken conservatively, no line of right ones refuses a commit for a cycle.
use Rattle.std.proofs.Common.{List, reverse, subst}
use Rattle.std.proofs.lemmas.List.{reverse-reverse}
use Rattle.order_laws.proofs.ForCallers.{each_reverse}
use Rattle.fed_rules.specs.declared.commands.Command.{Command}
use Rattle.fed_rules.specs.declared.commands.Line.{Line}
use Rattle.fed_rules.specs.declared.scenario.Scenario.{Scenario}
use Rattle.fed_rules.specs.Plans.{IsScenario}
use Rattle.fed_rules.specs.Right.{AreLines}
use Rattle.federation_laws.specs.Conservative.{RefusesForCycle}
use Rattle.line_laws.specs.Refusals.{ConservativeLinesRefuseNone, RefuseNone}
use Rattle.session_outputs.specs.Outcomes.{AreUnrefused}

pub unrefused : ConservativeLinesRefuseNone → (scenario : Scenario) → IsScenario scenario → (commands : List Command) (lines : List Line) → AreLines lines scenario commands → AreUnrefused scenario lines
unrefused law scenario whole commands lines are conservative =
    subst RefuseNone (reverse-reverse lines)
    (each_reverse (λ (line : Line). RefusesForCycle line.answer → ⊥) (reverse lines) (law scenario whole conservative (reverse lines) are.right))
