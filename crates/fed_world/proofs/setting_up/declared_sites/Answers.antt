use Rattle.std.proofs.Common.{subst}
use Rattle.fed_rules.specs.declared.scenario.Scenario.{Scenario}
use Rattle.fed_rules.specs.Plans.{IsScenario}
use Rattle.fed_world.proofs.setting_up.declared_sites.Goals as goal

pub returns-in-Ok-clause-whole : goal.returns-in-Ok-clause-whole
returns-in-Ok-clause-whole c = subst (λ (s : Scenario). IsScenario s) c.scenario.view_is c.scenario.invariant

pub returns-in-Err-clause-whole : goal.returns-in-Err-clause-whole
returns-in-Err-clause-whole c = subst (λ (s : Scenario). IsScenario s) c.scenario.view_is c.scenario.invariant
