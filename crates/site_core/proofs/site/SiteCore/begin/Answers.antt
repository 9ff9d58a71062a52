use Rattle.std.proofs.Common.{◌≡◌, ℕ, ◌∷◌, refl, sym, ap, ◌∙◌, subst}
use Rattle.mdb_base.proofs.ForCallers.{none_left}
use Rattle.fed_rules.specs.declared.answers.Answer.TheVariants as Say
use Rattle.fed_rules.specs.declared.events.SiteEvent.TheVariants as Ev
use Rattle.fed_rules.specs.Runs.{Begins}
use Rattle.fed_rules.specs.Site.{next_number}
use Rattle.fed_rules.specs.SitePast.{engine_lines, epoch_start}
use Rattle.site_book.specs.Book.{begins_local}
use Rattle.site_book.proofs.ForCallers.{unbegins-begins}
use Rattle.site_core.specs.declared.site.SiteCore.{SiteCore}
use Rattle.site_core.proofs.LineLaws.{begin_begun, begin_committed, begin_running, running_is}
use Rattle.site_core.proofs.LocalLaws.{begin_adds, free_there, no_entry}
use Rattle.site_core.proofs.Outcomes.{ok_with}
use Rattle.site_core.proofs.NotesLaws.{stands_not}
use Rattle.site_core.proofs.RememberLaws.{adds_as, is_up_at, remembers_engine}
use Rattle.site_core.proofs.UpLaws.{adds_quiet}
use Rattle.site_core.proofs.site.SiteCore.begin.Goals as goal

pub returns-in-Some-clause-answered : goal.returns-in-Some-clause-answered
returns-in-Some-clause-answered g c = ok_with _ c.said.result _ c.said.ensures
    (λ home past h may.
    let core = c.args.self.now in
    let tid = c.args.tid in
    let u = is_up_at g.E.LocalEngine.stands core home past h.memory c.requires.up in
    let is = sym (u.notes.committed_is tid.tx) ∙ sym c.committed.ensures ∙ c.in-Some.is in
    adds_as g.E.LocalEngine.stands _ core home past _ _ (begin_committed home past tid c.in-Some.committed is)
    (adds_quiet g.E.LocalEngine.stands core home past _ (Ev.Begin tid) (Say.Committed c.in-Some.committed) h c.requires.up refl refl refl (λ t. refl) (λ tx. refl) refl))

pub returns-in-Some-running-clause-answered : goal.returns-in-Some-running-clause-answered
returns-in-Some-running-clause-answered g c = ok_with _ c.said-in-Some-running.result _ c.said-in-Some-running.ensures
    (λ home past h may.
    let core = c.args.self.now in
    let tid = c.args.tid in
    let u = is_up_at g.E.LocalEngine.stands core home past h.memory c.requires.up in
    let none = sym (u.notes.committed_is tid.tx) ∙ sym c.committed.ensures ∙ none_left c.committed.result c.in_default.not-Some in
    let is = running_is core.book home past u.notes (g.met.E.LocalEngine.right _ _ _ u.engine) h.memory.begun tid.tx may.apart ∙ sym c.running.ensures ∙ c.in-Some-running.is in
    adds_as g.E.LocalEngine.stands _ core home past _ _ (begin_running home past tid c.in-Some-running.running none is)
    (adds_quiet g.E.LocalEngine.stands core home past _ (Ev.Begin tid) (Say.Running c.in-Some-running.running) h c.requires.up refl refl refl (λ t. refl) (λ tx. refl) refl))

pub begin_local-requires-clause-free : goal.begin_local-requires-clause-free
begin_local-requires-clause-free g c =
    let k = c.requires.may in
    let u = is_up_at g.E.LocalEngine.stands c.args.self.now k.home k.past k.stood.memory c.requires.up in
    no_entry c.args.self.now.book k.home k.past c.args.tid u.notes k.stood.made k.holds.new k.holds.apart

pub begin-requires : goal.begin-requires
begin-requires g c =
    let k = c.requires.may in
    let u = is_up_at g.E.LocalEngine.stands c.args.self.now k.home k.past k.stood.memory c.requires.up in
    let free = no_entry c.args.self.now.book k.home k.past c.args.tid u.notes k.stood.made k.holds.new k.holds.apart in
    record {
      start = epoch_start k.home k.past;
      lines = engine_lines k.past;
      stood = u.engine;
      holds = record { free = free_there c.args.self.now.book k.home k.past c.args.tid u.notes free; fits = k.holds.fits };
    }

pub returns-in-Ok-clause-answered : goal.returns-in-Ok-clause-answered
returns-in-Ok-clause-answered g c = ok_with _ c.said-in-Ok.result _ c.said-in-Ok.ensures
    (λ home past h may.
    let core = c.args.self.now in
    let tid = c.args.tid in
    let n = c.in-Ok.field-0 in
    let u = is_up_at g.E.LocalEngine.stands core home past h.memory c.requires.up in
    let not_committed = sym c.committed.ensures ∙ none_left c.committed.result c.in_default.not-Some in
    let not_running = sym c.running.ensures ∙ none_left c.running.result c.in_default-running.not-Some in
    let none = sym (u.notes.committed_is tid.tx) ∙ not_committed in
    let is = running_is core.book home past u.notes (g.met.E.LocalEngine.right _ _ _ u.engine) h.memory.begun tid.tx may.apart ∙ not_running in
    let stood = c.in-Ok.ensures.begun (epoch_start home past) (engine_lines past) u.engine in
    let drawn : n ≡ next_number home past = (g.met.E.LocalEngine.right _ _ _ stood).0.1 in
    let P : ℕ → Type 0 = λ m. g.E.LocalEngine.stands c.begin.new.self (epoch_start home past) (Begins tid m ∷ engine_lines past) in
    adds_as g.E.LocalEngine.stands _ _ home past _ _ (begin_begun home past tid none is)
    (begin_adds g.E.LocalEngine.stands core _ home past tid (next_number home past) _ h c.requires.up may.new may.apart not_running
    (stands_not core.book tid.tx not_running not_committed)
    (ap (λ b. let new : SiteCore _ = record core { engine = c.begin.new.self; book = b } in new) c.in_ok-begin_local.ensures.begun) (subst P drawn stood) refl))

pub returns-in-Err-clause-memory : goal.returns-in-Err-clause-memory
returns-in-Err-clause-memory g c = λ home past h.
    let core = c.args.self.now in
    let tid = c.args.tid in
    let k = c.requires.may in
    let v = is_up_at g.E.LocalEngine.stands core k.home k.past k.stood.memory c.requires.up in
    let free = no_entry core.book k.home k.past tid v.notes k.stood.made k.holds.new k.holds.apart in
    let not_committed = sym c.committed.ensures ∙ none_left c.committed.result c.in_default.not-Some in
    let not_running = sym c.running.ensures ∙ none_left c.running.result c.in_default-running.not-Some in
    let u = is_up_at g.E.LocalEngine.stands core home past h.memory c.requires.up in
    let same = c.unbegin_local.ensures ∙ ap (Rattle.site_book.specs.Book.unbegins_local tid) c.in_ok-begin_local.ensures.begun ∙ unbegins-begins tid core.book free not_running not_committed in
    remembers_engine g.E.LocalEngine.stands core _ home past h.memory c.requires.up (c.in-Err.ensures.memory (epoch_start home past) (engine_lines past) u.engine)
    (ap (λ b. let new : SiteCore _ = record core { engine = c.begin.new.self; book = b } in new) same)
