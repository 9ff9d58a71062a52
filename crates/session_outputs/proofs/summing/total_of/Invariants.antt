use Rattle.std.proofs.Common.{◌≡◌, ◌%◌, ◌^◌, List, take}
use Rattle.std.specs.Prelude.{sum_by}
use Rattle.fed_rules.specs.declared.commands.Command.{Command}
use Rattle.fed_rules.specs.declared.scenario.Scenario.{Scenario}
use Rattle.fed_rules.specs.Scenarios.{sites}
use Rattle.fed_rules.specs.Story.{story_of}
use Rattle.fed_world.specs.FreshWorlds.{ActorsRecall, Rests}
use Rattle.report_text.specs.Summaries.{total_at}
use Rattle.session_outputs.proofs.summing.total_of.Given as goal

abbrev pub invariant-loop-place : goal.invariant-loop-place
invariant-loop-place l =
    (scenario : Scenario) (commands : List Command) → ActorsRecall l.cores scenario (story_of scenario commands) → Rests scenario commands
    → l.total ≡ sum_by (total_at scenario (story_of scenario commands)) (take l.place (sites scenario)) % 2 ^ 64
