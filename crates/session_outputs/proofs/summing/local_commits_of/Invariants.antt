use Rattle.std.proofs.Common.{◌≡◌, take}
use Rattle.std.specs.Prelude.{sum_by}
use Rattle.fed_rules.specs.declared.scenario.Scenario.{Scenario}
use Rattle.fed_rules.specs.Scenarios.{sites}
use Rattle.fed_rules.specs.Story.{Story}
use Rattle.fed_world.specs.FreshWorlds.{ActorsRecall}
use Rattle.report_text.specs.Summaries.{commits_at}
use Rattle.session_outputs.proofs.summing.local_commits_of.Given as goal

abbrev pub invariant-loop-place : goal.invariant-loop-place
invariant-loop-place l =
    (scenario : Scenario) (story : Story) → ActorsRecall l.cores scenario story → l.count ≡ sum_by (commits_at scenario story) (take l.place (sites scenario))
