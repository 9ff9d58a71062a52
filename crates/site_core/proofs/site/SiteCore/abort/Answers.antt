use Rattle.std.proofs.Common.{not, [], ◌∷◌, refl, ap, ◌∙◌}
use Rattle.mdb_base.proofs.ForCallers.{nothing_is}
use Rattle.fed_rules.specs.declared.answers.Answer.TheVariants as Say
use Rattle.fed_rules.specs.declared.events.SiteEvent.TheVariants as Ev
use Rattle.fed_rules.specs.Runs.{Aborts, changed}
use Rattle.fed_rules.specs.SitePast.{engine_lines, epoch_start, is_closed}
use Rattle.fed_rules.specs.Site.{with_lines}
use Rattle.site_book.specs.Book.{closes}
use Rattle.site_book.proofs.ForCallers.{calls_well}
use Rattle.site_core.specs.declared.site.SiteCore.{SiteCore}
use Rattle.site_core.proofs.LineLaws.{abort_aborts, abort_idle, is_there, live_none, live_some}
use Rattle.site_core.proofs.LocalLaws.{end_adds}
use Rattle.site_core.proofs.Outcomes.{well_with}
use Rattle.site_core.proofs.RememberLaws.{adds_as, is_up_at}
use Rattle.site_core.proofs.UpLaws.{adds_quiet, closed_one}
use Rattle.site_core.proofs.site.SiteCore.abort.Goals as goal

pub returns-then-is_none-clause-answered : goal.returns-then-is_none-clause-answered
returns-then-is_none-clause-answered g c = well_with _ c.said.result _ c.said.ensures
    (λ home past h any.
    let core = c.args.self.now in
    let u = is_up_at g.E.LocalEngine.stands core home past h.memory c.requires.up in
    let absent = is_there c.live.result _ c.is_none.result c.live.ensures c.is_none.ensures ∙ ap not c.if-is_none.true in
    let none = live_none core.book home past c.args.tid u.notes (nothing_is _ absent) in
    adds_as g.E.LocalEngine.stands _ core home past _ _ (abort_idle home past c.args.tid none)
    (adds_quiet g.E.LocalEngine.stands core home past _ (Ev.Abort c.args.tid) Say.Idle h c.requires.up refl refl refl (λ t. refl) (λ tx. refl) refl))

pub returns-clause-answered : goal.returns-clause-answered
returns-clause-answered g c = well_with _ c.said-2.result _ c.said-2.ensures
    (λ home past h any.
    let core = c.args.self.now in
    let tid = c.args.tid in
    let u = is_up_at g.E.LocalEngine.stands core home past h.memory c.requires.up in
    let there = is_there c.live.result _ c.is_none.result c.live.ensures c.is_none.ensures ∙ ap not c.if-is_none.false in
    let l = live_some core.book home past tid u.notes there in
    let x = with_lines (Ev.Abort tid) (Say.Aborted tid) (Aborts tid ∷ []) in
    let follows = calls_well core.book (closes tid core.book) (epoch_start home past) (engine_lines past) (Aborts tid) (is_closed past) (is_closed (x ∷ past)) u.notes.follows (λ v. closed_one past x (Aborts tid) v refl refl refl) refl in
    adds_as g.E.LocalEngine.stands _ _ home past _ _ (abort_aborts home past tid l.run l.live)
    (end_adds g.E.LocalEngine.stands core _ home past tid (Aborts tid) (Ev.Abort tid) (Say.Aborted tid) _ l h c.requires.up refl (ap (changed (Aborts tid)) l.is.0) (refl, refl, λ tx. refl) refl (λ t. refl)
    (ap (λ b. let new : SiteCore _ = record core { engine = c.abort.new.self; book = b } in new) c.close.ensures)
    (c.abort.ensures (epoch_start home past) (engine_lines past) u.engine) follows refl))
