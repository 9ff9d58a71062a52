use Rattle.std.proofs.Common.{◌≡◌, List, sym, ap, subst, ◌∙◌}
use Rattle.mdb_base.specs.declared.names.SiteId.{SiteId}
use Rattle.mdb_base.specs.Words.{Each}
use Rattle.record_fields.specs.Named.{IsSite}
use Rattle.fed_rules.specs.declared.scenario.Scenario.{Scenario}
use Rattle.fed_rules.specs.Plans.{IsScenario}
use Rattle.fed_rules.specs.Scenarios.{sites}
use Rattle.fed_world.proofs.DeclaredSites.{declared_ranged}
use Rattle.fed_world.proofs.Routed.{are_routed}
use Rattle.fed_world.proofs.setting_up.routes_of.Goals as goal

pub new-requires : goal.new-requires
new-requires c =
    let whole : IsScenario c.args.scenario.now = subst (λ (s : Scenario). IsScenario s) c.scenario.view_is c.scenario.invariant in
    let all : c.as_slice.result.now ≡ sites c.args.scenario.now = c.as_slice.ensures.value ∙ c.in-Ok.ensures.declared in
    subst (λ (zs : List SiteId). Each IsSite zs) (sym all) (declared_ranged c.args.scenario.now whole)

pub returns-in-Ok : goal.returns-in-Ok
returns-in-Ok c =
    are_routed c.new.result c.args.scenario.now c.as_slice.result.now c.as_slice-in-Ok.result.now (c.as_slice.ensures.value ∙ c.in-Ok.ensures.declared) (c.as_slice-in-Ok.ensures ∙ ap (λ (s : Scenario). s.transactions) c.scenario.view_is)
    c.new.ensures.homes c.new.ensures.places
