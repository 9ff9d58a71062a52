use Rattle.std.proofs.Common.{refl, sym, ap, ◌∙◌}
use Rattle.fed_rules.specs.declared.events.SiteEvent.TheVariants as Ev
use Rattle.fed_rules.specs.declared.events.SiteStep.{SiteStep}
use Rattle.fed_rules.specs.SitePast.{SiteHappening}
use Rattle.site_core.proofs.StepLaws.{steps}
use Rattle.site_core.proofs.StopLaws.{trip_is, trip_sets}
use Rattle.site_core.proofs.site.SiteCore.arm.Goals as goal

pub returns-clause-said : goal.returns-clause-said
returns-clause-said g c home past =
    ap (λ (s : SiteStep). s.answer) c.set_trip-step.ensures.said ∙ sym (ap (λ (x : SiteHappening). x.answer) (trip_is home past c.args.calls c.args.cut))

pub returns-clause-stood : goal.returns-clause-stood
returns-clause-stood g c tells disk home past k =
    let stands = g.E.LocalEngine.stands in
    let old = c.args.self.now in
    let new = c.set_trip-step.new.self in
    let step = c.set_trip-step.result in
    (steps stands tells old new disk disk (Ev.Trip c.args.calls c.args.cut) 0 refl step home past k tt
    (trip_sets stands tells old new step disk home past c.args.calls c.args.cut k c.set_trip-step.ensures.trip c.set_trip-step.ensures.said)).stood
