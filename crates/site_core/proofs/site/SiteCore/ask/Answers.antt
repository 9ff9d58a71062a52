use Rattle.std.proofs.Common.{refl, sym, ◌∙◌}
use Rattle.fed_rules.specs.declared.answers.Answer.TheVariants as Say
use Rattle.fed_rules.specs.declared.events.SiteEvent.TheVariants as Ev
use Rattle.site_core.proofs.InquiryLaws.{ask_adds, ask_asks, ask_idle, doubted, none_doubted, some_doubted}
use Rattle.site_core.proofs.Outcomes.{well_with}
use Rattle.site_core.proofs.RememberLaws.{adds_as}
use Rattle.site_core.proofs.UpLaws.{adds_quiet}
use Rattle.site_core.proofs.site.SiteCore.ask.Goals as goal

pub returns-in-None : goal.returns-in-None
returns-in-None g c = well_with _ c.said.result _ c.said.ensures
    (λ home past h any.
    let core = c.args.self.now in
    let is = doubted g.E.LocalEngine.stands core home past c.args.tid c.doubtful.result h c.requires.up c.doubtful.ensures in
    adds_as g.E.LocalEngine.stands _ core home past _ _ (ask_idle home past c.args.tid (none_doubted _ (sym is ∙ c.in-None.is)))
    (adds_quiet g.E.LocalEngine.stands core home past _ (Ev.Ask c.args.tid) Say.Idle h c.requires.up refl refl refl (λ t. refl) (λ tx. refl) refl))

pub returns-in-Some : goal.returns-in-Some
returns-in-Some g c = λ home past h any.
    let core = c.args.self.now in
    let is = doubted g.E.LocalEngine.stands core home past c.args.tid c.doubtful.result h c.requires.up c.doubtful.ensures in
    let (held, here) = some_doubted _ _ (sym is ∙ c.in-Some.is) in
    adds_as g.E.LocalEngine.stands _ core home past _ _ (ask_asks home past c.args.tid held here) (ask_adds g.E.LocalEngine.stands core home past c.args.tid _ h c.requires.up refl)
