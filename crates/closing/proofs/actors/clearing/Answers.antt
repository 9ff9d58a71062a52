use Rattle.std.proofs.Common.{◌++◌, List, get_or, sym, ap, ◌∙◌}
use Rattle.std.proofs.lemmas.List.{take_all}
use Rattle.mdb_base.specs.declared.names.SiteId.{SiteId}
use Rattle.fed_rules.specs.declared.commands.Command.{Command}
use Rattle.fed_rules.specs.Scenarios.{sites}
use Rattle.fed_rules.specs.Story.{story_in}
use Rattle.closing.specs.Steps.{clearing_at, clearing_of}
use Rattle.closing.proofs.Cores.{clears_next}
use Rattle.closing.proofs.World.{its_sites}
use Rattle.closing.proofs.actors.clearing.Goals as goal

-- some site
abbrev none : SiteId
none = record { 0 = 0 }

pub loop-site-preserved : goal.loop-site-preserved
loop-site-preserved c session before r up =
    let xs = c.deref-site-items.result.now in
    c.in_ok-clear_site.ensures session before r up
    ∙ (ap (λ (cs : List Command). cs ++ clearing_at session.plan (story_in session before) (get_or xs c.loop-site.site-index none)) (c.loop-site.invariant session before r up)
    ∙ sym (clears_next session.plan (story_in session before) xs c.loop-site.site-index none c.loop-site-test.true))

pub returns : goal.returns
returns c session before r up =
    c.loop-site.invariant session before r up
    ∙ ap (clearing_of session.plan (story_in session before))
    (take_all c.loop-site.site-index c.deref-site-items.result.now c.loop-site-test.false ∙ (c.deref-site-items.ensures.value ∙ (c.in_ok-sites.ensures ∙ (ap sites (c.scenario.ensures session before r.has) ∙ its_sites session))))
