use Rattle.std.proofs.Common.{subst}
use Rattle.fed_rules.specs.declared.scenario.Scenario.{Scenario}
use Rattle.fed_rules.specs.Plans.{IsScenario}
use Rattle.federation_run.proofs.running.rooms_for.Goals as goal

pub returns-clause-whole : goal.returns-clause-whole
returns-clause-whole g c = subst (λ (s : Scenario). IsScenario s) c.scenario.view_is c.scenario.invariant

pub returns-clause-tasks : goal.returns-clause-tasks
returns-clause-tasks g c = c.in_ok-tasks.ensures

pub returns-clause-seats : goal.returns-clause-seats
returns-clause-seats g c = (c.in_ok-seats.ensures.items, c.in_ok-seats.ensures.capacity)

pub returns-clause-shared : goal.returns-clause-shared
returns-clause-shared g c = (c.in_ok-shared.ensures.len, c.in_ok-shared.ensures.capacity)

pub returns-clause-sites : goal.returns-clause-sites
returns-clause-sites g c = (c.in_ok-sites.ensures.items, c.in_ok-sites.ensures.capacity)
