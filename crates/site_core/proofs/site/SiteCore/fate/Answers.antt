use Rattle.std.proofs.Common.{◌≡◌, refl, sym, ◌∙◌}
use Rattle.std.proofs.lemmas.Bool.{eq-eqb, ne_eqb}
use Rattle.mdb_base.proofs.ForCallers.{none_left}
use Rattle.fed_rules.specs.SitePast.{attempts_of}
use Rattle.fed_rules.specs.declared.answers.Answer.TheVariants as Say
use Rattle.fed_rules.specs.declared.events.SiteEvent.TheVariants as Ev
use Rattle.site_core.proofs.LineLaws.{fate_committed, fate_ended, fate_running, fate_unbegun, running_is}
use Rattle.site_core.proofs.Outcomes.{well_with}
use Rattle.site_core.proofs.RememberLaws.{adds_as, is_up_at}
use Rattle.site_core.proofs.UpLaws.{adds_quiet}
use Rattle.site_core.proofs.site.SiteCore.fate.Goals as goal

pub returns-in-Some : goal.returns-in-Some
returns-in-Some g c = well_with _ c.said.result _ c.said.ensures
    (λ home past h may.
    let core = c.args.self.now in
    let tx = c.args.tx in
    let u = is_up_at g.E.LocalEngine.stands core home past h.memory c.requires.up in
    let is = sym (u.notes.committed_is tx) ∙ sym c.committed.ensures ∙ c.in-Some.is in
    adds_as g.E.LocalEngine.stands _ core home past _ _ (fate_committed home past tx c.in-Some.committed is)
    (adds_quiet g.E.LocalEngine.stands core home past _ (Ev.Fate tx) (Say.Committed c.in-Some.committed) h c.requires.up refl refl refl (λ t. refl) (λ t. refl) refl))

pub returns-in-Some-running : goal.returns-in-Some-running
returns-in-Some-running g c = well_with _ c.said-in-Some-running.result _ c.said-in-Some-running.ensures
    (λ home past h may.
    let core = c.args.self.now in
    let tx = c.args.tx in
    let u = is_up_at g.E.LocalEngine.stands core home past h.memory c.requires.up in
    let none = sym (u.notes.committed_is tx) ∙ sym c.committed.ensures ∙ none_left c.committed.result c.in_default.not-Some in
    let is = running_is core.book home past u.notes (g.met.E.LocalEngine.right _ _ _ u.engine) h.memory.begun tx may ∙ sym c.running.ensures ∙ c.in-Some-running.is in
    adds_as g.E.LocalEngine.stands _ core home past _ _ (fate_running home past tx c.in-Some-running.running none is)
    (adds_quiet g.E.LocalEngine.stands core home past _ (Ev.Fate tx) (Say.Running c.in-Some-running.running) h c.requires.up refl refl refl (λ t. refl) (λ t. refl) refl))

pub returns-then-begun-eq0 : goal.returns-then-begun-eq0
returns-then-begun-eq0 g c = well_with _ c.said-then-begun-eq0.result _ c.said-then-begun-eq0.ensures
    (λ home past h may.
    let core = c.args.self.now in
    let tx = c.args.tx in
    let u = is_up_at g.E.LocalEngine.stands core home past h.memory c.requires.up in
    let none = sym (u.notes.committed_is tx) ∙ sym c.committed.ensures ∙ none_left c.committed.result c.in_default.not-Some in
    let is = running_is core.book home past u.notes (g.met.E.LocalEngine.right _ _ _ u.engine) h.memory.begun tx may ∙ sym c.running.ensures ∙ none_left c.running.result c.in_default-running.not-Some in
    let zero : attempts_of past tx ≡ 0 = sym (h.memory.begun tx) ∙ sym c.begun.ensures ∙ c.if-begun-eq0.true in
    adds_as g.E.LocalEngine.stands _ core home past _ _ (fate_unbegun home past tx none is (eq-eqb (attempts_of past tx) 0 zero))
    (adds_quiet g.E.LocalEngine.stands core home past _ (Ev.Fate tx) Say.Unbegun h c.requires.up refl refl refl (λ t. refl) (λ t. refl) refl))

pub returns-else-begun-eq0 : goal.returns-else-begun-eq0
returns-else-begun-eq0 g c = well_with _ c.said-else-begun-eq0.result _ c.said-else-begun-eq0.ensures
    (λ home past h may.
    let core = c.args.self.now in
    let tx = c.args.tx in
    let u = is_up_at g.E.LocalEngine.stands core home past h.memory c.requires.up in
    let none = sym (u.notes.committed_is tx) ∙ sym c.committed.ensures ∙ none_left c.committed.result c.in_default.not-Some in
    let is = running_is core.book home past u.notes (g.met.E.LocalEngine.right _ _ _ u.engine) h.memory.begun tx may ∙ sym c.running.ensures ∙ none_left c.running.result c.in_default-running.not-Some in
    let some : attempts_of past tx ≡ 0 → ⊥ = λ e. c.if-begun-eq0.false (c.begun.ensures ∙ h.memory.begun tx ∙ e) in
    adds_as g.E.LocalEngine.stands _ core home past _ _ (fate_ended home past tx none is (ne_eqb (attempts_of past tx) 0 some))
    (adds_quiet g.E.LocalEngine.stands core home past _ (Ev.Fate tx) Say.Ended h c.requires.up refl refl refl (λ t. refl) (λ t. refl) refl))
