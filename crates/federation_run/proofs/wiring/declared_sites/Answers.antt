use Rattle.std.proofs.Common.{◌≡◌, IfOk, List, map, ap, subst, ◌∙◌}
use Rattle.mdb_base.specs.declared.names.SiteId.{SiteId}
use Rattle.presumptions.specs.declared.Participant.{Participant}
use Rattle.fed_rules.specs.declared.scenario.Scenario.{Scenario}
use Rattle.fed_rules.specs.Scenarios.{protocols_in}
use Rattle.federation_run.proofs.wiring.declared_sites.Goals as goal

pub returns : goal.returns
returns c =
    let members = c.as_slice-2.ensures.value ∙ c.in_ok-protocols.ensures ∙ ap protocols_in c.as_slice.ensures ∙ ap (λ (scenario : Scenario). protocols_in scenario.sites) c.scenario.view_is in
    subst (λ (sites : List SiteId). IfOk c.sites_of.result (λ declared. declared.items ≡ sites)) (ap (map (λ (member : Participant). member.site)) members) c.sites_of.ensures
