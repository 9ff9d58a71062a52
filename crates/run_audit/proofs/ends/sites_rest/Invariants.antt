use Rattle.std.proofs.Common.{◌≡◌, List, drop}
use Rattle.fed_rules.specs.declared.commands.Command.{Command}
use Rattle.fed_rules.specs.declared.scenario.Scenario.{Scenario}
use Rattle.fed_rules.specs.Story.{story_of}
use Rattle.fed_world.specs.FreshWorlds.{Recalls}
use Rattle.run_audit.specs.Resting.{sites_rest}
use Rattle.run_audit.proofs.ends.sites_rest.Given as goal

-- the sites that are left decide
abbrev pub invariant-loop-line : goal.invariant-loop-line
invariant-loop-line l =
    (scenario : Scenario) (commands : List Command) → Recalls l.world scenario commands
    → sites_rest scenario (story_of scenario commands) l.sites ≡ sites_rest scenario (story_of scenario commands) (drop l.line-index l.sites)
