use Rattle.std.proofs.Common.{◌≡◌, not, [], ◌∷◌, None, refl, sym, ap, ◌∙◌}
use Rattle.mdb_base.specs.declared.replies.Reply.{Reply}
use Rattle.mdb_base.proofs.ForCallers.{nothing_is}
use Rattle.fed_rules.specs.declared.answers.Answer.{Answer}
use Rattle.fed_rules.specs.declared.answers.Answer.TheVariants as Say
use Rattle.fed_rules.specs.declared.events.SiteEvent.TheVariants as Ev
use Rattle.fed_rules.specs.declared.events.SiteStep.{SiteStep}
use Rattle.fed_rules.specs.Runs.{Acts}
use Rattle.fed_rules.specs.Site.{act_answer, reply_to, with_lines}
use Rattle.fed_rules.specs.SitePast.{engine_lines, epoch_start}
use Rattle.site_core.specs.declared.site.SiteCore.{SiteCore}
use Rattle.site_core.proofs.LineLaws.{act_acts, act_idle, is_there, live_none, live_some}
use Rattle.site_core.proofs.LocalLaws.{act_adds, few_noted, replied_by}
use Rattle.site_core.proofs.Outcomes.{ok_with}
use Rattle.site_core.proofs.RememberLaws.{adds_as, is_up_at}
use Rattle.site_core.proofs.UpLaws.{adds_quiet}
use Rattle.site_core.proofs.site.SiteCore.act.Goals as goal

pub returns-then-is_none-clause-answered : goal.returns-then-is_none-clause-answered
returns-then-is_none-clause-answered g c = ok_with _ c.said.result _ c.said.ensures
    (λ home past h any.
    let core = c.args.self.now in
    let u = is_up_at g.E.LocalEngine.stands core home past h.memory c.requires.up in
    let absent = is_there c.live.result _ c.is_none.result c.live.ensures c.is_none.ensures ∙ ap not c.if-is_none.true in
    let none = live_none core.book home past c.args.tid u.notes (nothing_is _ absent) in
    adds_as g.E.LocalEngine.stands _ core home past _ _ (act_idle home past c.args.tid c.args.act none)
    (adds_quiet g.E.LocalEngine.stands core home past _ (Ev.Act c.args.tid c.args.act) Say.Idle h c.requires.up refl refl refl (λ t. refl) (λ tx. refl) refl))

pub returns-clause-answered : goal.returns-clause-answered
returns-clause-answered g c = ok_with _ c.said-2.result _ c.said-2.ensures
    (λ home past h any.
    let core = c.args.self.now in
    let tid = c.args.tid in
    let act = c.args.act in
    let reply = c.in_ok-reply.reply in
    let u = is_up_at g.E.LocalEngine.stands core home past h.memory c.requires.up in
    let there = is_there c.live.result _ c.is_none.result c.live.ensures c.is_none.ensures ∙ ap not c.if-is_none.false in
    let l = live_some core.book home past tid u.notes there in
    let stood = c.in_ok-reply.ensures.answered (epoch_start home past) (engine_lines past) u.engine in
    let ruled : reply ≡ reply_to home past l.run act = replied_by core.book home past tid act reply l (g.met.E.LocalEngine.right _ _ _ stood) in
    let k = c.requires.may in
    let v = is_up_at g.E.LocalEngine.stands core k.home k.past k.stood.memory c.requires.up in
    adds_as g.E.LocalEngine.stands _ _ home past _ _
    (act_acts home past tid act l.run l.live ∙ ap (λ (r : Reply). with_lines (Ev.Act tid act) (act_answer tid r act) (Acts tid act r ∷ [])) (sym ruled))
    (act_adds g.E.LocalEngine.stands core _ home past tid act reply _ l h c.requires.up (few_noted core.book home past k.home k.past tid l (live_some core.book k.home k.past tid v.notes there) k.holds.few)
    (ap (λ b. let new : SiteCore _ = record core { engine = c.access.new.engine; book = b } in new) c.note_reply.ensures) stood
    (refl ∙ ap (λ (a : Answer). let s : SiteStep = record { answer = a; sends = None } in s) (c.act_answer.ensures tid))))
