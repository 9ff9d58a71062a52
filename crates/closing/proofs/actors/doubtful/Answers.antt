use Rattle.std.proofs.Common.{List, refl, ap, subst, ◌∙◌}
use Rattle.std.proofs.lemmas.List.{take_all}
use Rattle.mdb_base.specs.declared.names.SiteId.{SiteId}
use Rattle.fed_rules.specs.Scenarios.{sites}
use Rattle.fed_rules.specs.Story.{story_in}
use Rattle.closing.specs.Steps.{AreDoubtful}
use Rattle.closing.proofs.Cores.{doubts_next}
use Rattle.closing.proofs.World.{its_sites}
use Rattle.closing.proofs.actors.doubtful.Goals as goal

-- some site
abbrev none : SiteId
none = record { 0 = 0 }

pub loop-site-preserved : goal.loop-site-preserved
loop-site-preserved c session commands r up =
    doubts_next session.plan (story_in session commands) c.deref-site-items.result.now c.loop-site.site-index none c.loop-site-test.true c.loop-site.all.items _ _ (c.loop-site.invariant session commands r up)
    c.in_ok-push.ensures.items refl (c.in_ok-tids.ensures session commands r up)

pub returns : goal.returns
returns c session commands r up =
    subst (λ (ss : List SiteId). AreDoubtful session.plan (story_in session commands) ss c.loop-site.all.items)
    (take_all c.loop-site.site-index c.deref-site-items.result.now c.loop-site-test.false ∙ (c.deref-site-items.ensures.value ∙ (c.in_ok-sites.ensures ∙ (ap sites (c.scenario.ensures session commands r.has) ∙ its_sites session))))
    (c.loop-site.invariant session commands r up)
