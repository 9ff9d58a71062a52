use Rattle.std.proofs.Common.{◌≡◌, not, [], refl, ap, ◌∙◌}
use Rattle.mdb_base.proofs.ForCallers.{none_left}
use Rattle.fed_rules.specs.declared.messages.ToSite.TheVariants as To
use Rattle.fed_rules.specs.Site.{reply_to}
use Rattle.fed_rules.specs.SitePast.{engine_lines, epoch_start}
use Rattle.site_core.specs.declared.site.SiteCore.{SiteCore}
use Rattle.site_core.specs.Operations.{worked_again}
use Rattle.site_core.proofs.LineLaws.{is_there, live_some}
use Rattle.site_core.proofs.LocalLaws.{replied_by}
use Rattle.site_core.proofs.OperationLaws.{did_adds, did_is, says_by}
use Rattle.site_core.proofs.Outcomes.{ok_with}
use Rattle.site_core.proofs.OverLaws.{shut_made}
use Rattle.site_core.proofs.RememberLaws.{adds_as, is_up_at}
use Rattle.site_core.proofs.WorkLaws.{next_is, work_adds, work_goes, work_says}
use Rattle.site_core.proofs.site.SiteCore.work.Goals as goal

pub returns-in-Some-clause-answered : goal.returns-in-Some-clause-answered
returns-in-Some-clause-answered g c = ok_with _ c.did.result _ c.did.ensures
    (λ home past h may.
    let core = c.args.self.now in
    let tid = c.args.tid in
    let e = c.args.epoch in
    let n = c.args.n in
    let act = c.args.act in
    let reply = c.in-Some.reply in
    let u = is_up_at g.E.LocalEngine.stands core home past h.memory c.requires.up in
    let there = is_there c.live-live.result _ c.is_none.result c.live-live.ensures c.is_none.ensures ∙ ap not c.if-is_none.false in
    let l = live_some core.book home past tid u.notes there in
    let says = says_by (λ o k. worked_again o k e n) core.book home past tid _ core.epoch c.worked_again.result u.notes c.live-live.ensures u.epoch c.worked_again.ensures in
    adds_as g.E.LocalEngine.stands _ core home past _ _
    (work_says home past tid e n act l.run reply (shut_made home past tid h.made may.apart) l.live (says ∙ c.in-Some.is) ∙ did_is home past (To.Work tid e n act) tid n reply [])
    (did_adds g.E.LocalEngine.stands core home past (To.Work tid e n act) tid n reply _ h c.requires.up (λ t. refl) refl))

pub returns-clause-answered : goal.returns-clause-answered
returns-clause-answered g c = ok_with _ c.did-2.result _ c.did-2.ensures
    (λ home past h may.
    let core = c.args.self.now in
    let tid = c.args.tid in
    let e = c.args.epoch in
    let n = c.args.n in
    let act = c.args.act in
    let reply = c.in_ok-reply.reply in
    let u = is_up_at g.E.LocalEngine.stands core home past h.memory c.requires.up in
    let there = is_there c.live-live.result _ c.is_none.result c.live-live.ensures c.is_none.ensures ∙ ap not c.if-is_none.false in
    let l = live_some core.book home past tid u.notes there in
    let says = says_by (λ o k. worked_again o k e n) core.book home past tid _ core.epoch c.worked_again.result u.notes c.live-live.ensures u.epoch c.worked_again.ensures in
    let goes = work_goes home past tid e n act l.run (shut_made home past tid h.made may.apart) l.live (says ∙ none_left c.worked_again.result c.in_default.not-Some) in
    let stood = c.in_ok-reply.ensures.answered (epoch_start home past) (engine_lines past) u.engine in
    let ruled : reply ≡ reply_to home past l.run act = replied_by core.book home past tid act reply l (g.met.E.LocalEngine.right _ _ _ stood) in
    adds_as g.E.LocalEngine.stands _ _ home past _ _ (goes.line ∙ next_is home past tid e n act l.run reply ruled)
    (work_adds g.E.LocalEngine.stands core _ home past tid e n act reply _ l h c.requires.up goes.few
    (ap (λ b. let new : SiteCore _ = record core { engine = c.access.new.engine; book = b } in new) c.note_reply.ensures) stood refl))
