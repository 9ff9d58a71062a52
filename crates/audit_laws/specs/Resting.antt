-- That all is at rest, by the audit's test, is what closing leaves.
use Rattle.std.specs.Prelude.{◌≡◌, ◌↔◌, true, List}
use Rattle.fed_rules.specs.declared.commands.Command.{Command}
use Rattle.fed_rules.specs.declared.scenario.Scenario.{Scenario}
use Rattle.fed_rules.specs.Story.{story_of}
use Rattle.closing_laws.specs.AtRest.{IsAtRest}
use Rattle.audit_rules.specs.Ends.{rests}

abbrev pub QuietRunsRest : Type 0
QuietRunsRest = (scenario : Scenario) (commands : List Command) → (rests scenario (story_of scenario commands) ≡ true) ↔ IsAtRest scenario (story_of scenario commands)
