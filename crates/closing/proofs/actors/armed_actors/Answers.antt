use Rattle.std.proofs.Common.{is_some, ap, ◌∙◌}
use Rattle.std.proofs.lemmas.List.{take_all}
use Rattle.fed_rules.specs.Scenarios.{sites}
use Rattle.fed_rules.specs.SitePast.{trip}
use Rattle.fed_rules.specs.Story.{past_of, story_in}
use Rattle.closing.proofs.Cores.{actors_found}
use Rattle.closing.proofs.World.{its_sites}
use Rattle.closing.proofs.actors.armed_actors.Goals as goal

pub returns : goal.returns
returns c session commands r =
    actors_found c.loop-site.found.items c.is_armed-armed.result _ (λ site. is_some (trip (past_of site (story_in session commands)))) _ (sites session.plan) (c.loop-site.invariant session commands r)
    (c.is_armed-armed.ensures _ _ (c.core.ensures.held _ _ _ (c.coordinator.ensures session commands r)))
    (take_all c.loop-site.site-index c.deref-site-items.result.now c.loop-site-test.false ∙ (c.deref-site-items.ensures.value ∙ (c.in_ok-sites.ensures ∙ (ap sites (c.scenario.ensures session commands r.has) ∙ its_sites session))))
