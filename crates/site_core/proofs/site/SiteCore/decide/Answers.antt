use Rattle.std.proofs.Common.{true, false, is_some, [], ◌∷◌, refl, sym, ap, ◌∙◌}
use Rattle.mdb_base.proofs.ForCallers.{nothing_is}
use Rattle.fed_rules.specs.Runs.{Aborts}
use Rattle.fed_rules.specs.Site.{unless_tripped}
use Rattle.fed_rules.specs.SitePast.{engine_lines, epoch_start}
use Rattle.site_core.specs.declared.site.SiteCore.{SiteCore}
use Rattle.site_core.proofs.DecideLaws.{aborts_adds, closed_adds, decide_aborts, decide_idle, entered_adds, made_runless, not_held, unheld_line}
use Rattle.site_core.proofs.LineLaws.{is_there, live_none, live_some}
use Rattle.site_core.proofs.RememberLaws.{answers_quiet, is_up_at}
use Rattle.site_core.proofs.site.SiteCore.decide.Goals as goal

pub returns-then-is_some-2-clause-answered : goal.returns-then-is_some-2-clause-answered
returns-then-is_some-2-clause-answered g c = λ home past k may.
    let core = c.args.self.now in
    let tid = c.args.tid in
    let u = is_up_at g.E.LocalEngine.stands core home past k.holds.memory c.requires.up in
    let none = not_held g.E.LocalEngine.stands core home past tid k.holds c.requires.up (sym (ap is_some c.doubtful.ensures) ∙ sym c.is_some.ensures ∙ c.if-is_some.false) in
    let there = is_there c.live.result _ false c.live.ensures (sym c.is_some-2.ensures ∙ c.if-is_some-2.true) in
    let l = live_some core.book home past tid u.notes there in
    answers_quiet g.E.LocalEngine.stands g.D.Disk.tells c.unheld.result core _ (g.D.Disk.seen c.args.disk.now) home past _ (unheld_line home tid c.args.decision (Aborts tid ∷ [])) k refl refl
    (ap (unless_tripped home past) (decide_aborts home past tid c.args.decision l.run none l.live))
    (aborts_adds g.E.LocalEngine.stands core _ home past tid c.args.decision c.unheld.result k.holds c.requires.up
    (ap (λ b. let new : SiteCore _ = record core { engine = c.abort.new.self; book = b } in new) c.close.ensures)
    (c.abort.ensures (epoch_start home past) (engine_lines past) u.engine) c.unheld.ensures.answer (c.unheld.ensures.sends home k.holds.memory.protocol))

pub returns-then-has_entry-clause-answered : goal.returns-then-has_entry-clause-answered
returns-then-has_entry-clause-answered g c = λ home past k may.
    let core = c.args.self.now in
    let tid = c.args.tid in
    let u = is_up_at g.E.LocalEngine.stands core home past k.holds.memory c.requires.up in
    let none = not_held g.E.LocalEngine.stands core home past tid k.holds c.requires.up (sym (ap is_some c.doubtful.ensures) ∙ sym c.is_some.ensures ∙ c.if-is_some.false) in
    let absent = is_there c.live.result _ true c.live.ensures (sym c.is_some-2.ensures ∙ c.if-is_some-2.false) in
    let dead = live_none core.book home past tid u.notes (nothing_is _ absent) in
    answers_quiet g.E.LocalEngine.stands g.D.Disk.tells c.unheld-then-has_entry.result core core (g.D.Disk.seen c.args.disk.now) home past _ (unheld_line home tid c.args.decision []) k refl refl
    (ap (unless_tripped home past) (decide_idle home past tid c.args.decision none dead))
    (closed_adds g.E.LocalEngine.stands core home past tid c.args.decision c.unheld-then-has_entry.result k.holds c.requires.up (made_runless home past tid k.holds.made none dead)
    (sym c.has_entry.ensures ∙ c.if-has_entry.true) c.unheld-then-has_entry.ensures.answer (c.unheld-then-has_entry.ensures.sends home k.holds.memory.protocol))

pub returns-in-Ok-clause-answered : goal.returns-in-Ok-clause-answered
returns-in-Ok-clause-answered g c = λ home past k may.
    let core = c.args.self.now in
    let tid = c.args.tid in
    let u = is_up_at g.E.LocalEngine.stands core home past k.holds.memory c.requires.up in
    let none = not_held g.E.LocalEngine.stands core home past tid k.holds c.requires.up (sym (ap is_some c.doubtful.ensures) ∙ sym c.is_some.ensures ∙ c.if-is_some.false) in
    let absent = is_there c.live.result _ true c.live.ensures (sym c.is_some-2.ensures ∙ c.if-is_some-2.false) in
    let dead = live_none core.book home past tid u.notes (nothing_is _ absent) in
    answers_quiet g.E.LocalEngine.stands g.D.Disk.tells c.unheld-in-Ok.result core _ (g.D.Disk.seen c.args.disk.now) home past _ (unheld_line home tid c.args.decision []) k refl refl
    (ap (unless_tripped home past) (decide_idle home past tid c.args.decision none dead))
    (entered_adds g.E.LocalEngine.stands core _ home past tid c.args.decision c.unheld-in-Ok.result k.holds c.requires.up (made_runless home past tid k.holds.made none dead)
    (nothing_is _ (sym c.has_entry.ensures ∙ c.if-has_entry.false)) (ap (λ b. let new : SiteCore _ = record core { book = b } in new) c.in-Ok.ensures.closed)
    c.unheld-in-Ok.ensures.answer (c.unheld-in-Ok.ensures.sends home k.holds.memory.protocol))
