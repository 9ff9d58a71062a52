-- Nothing is sent of an attempt that wasn't begun.
use Rattle.std.proofs.Common.{◌≡◌, ◌||◌, Bool, true, false, cond, Some, None, List, [], ◌∷◌, inl, inr, refl, sym, ap, ap₂, subst, ◌∙◌}
use Rattle.mdb_base.specs.declared.acts.Step.{Step}
use Rattle.mdb_base.specs.declared.names.SiteId.{SiteId}
use Rattle.mdb_base.specs.declared.names.Tid.{Tid}
use Rattle.mdb_base.specs.Names.{same_tid}
use Rattle.mdb_base.specs.Words.{Each, some_of, with_some}
use Rattle.mdb_base.proofs.ForCallers.{same_tid-equal}
use Rattle.order_laws.specs.Chains.{In}
use Rattle.fed_rules.specs.declared.messages.Due.{Due}
use Rattle.fed_rules.specs.declared.messages.Due.TheVariants as Due_is
use Rattle.fed_rules.specs.declared.messages.Sent.{Sent}
use Rattle.fed_rules.specs.declared.messages.ToSite.{ToSite}
use Rattle.fed_rules.specs.declared.messages.ToSite.TheVariants as To
use Rattle.fed_rules.specs.CoordPast.{CoordPast, begins, begun_by, begun_tids, is_prepare_of, is_take_of, or_steps, outstanding, outstanding_at, program, program_in, visits}
use Rattle.coord_laws.specs.Laws.{UnbegunAreUnsent}
use Rattle.coord_laws.specs.Pasts.{OfPasts}
use Rattle.coord_laws.proofs.Begun.{begun_answer, in_more}
use Rattle.coord_laws.proofs.Made.{IsAsked}
use Rattle.coord_laws.proofs.OpenedPasts.{is_silent}
use Rattle.coord_laws.proofs.Past.{past_made}

-- an attempt that wasn't begun has no program
unbegun_program : (past : CoordPast) (tid : Tid) → (In tid (begun_tids past) → ⊥) → program past tid ≡ []
unbegun_program [] tid free = refl
unbegun_program (x ∷ past) tid free = by_test (begins tid x.answer) refl (unbegun_program past tid (λ i. free (in_more tid (begun_by x.answer) (begun_tids past) i))) where
  by_test : (b : Bool) → begins tid x.answer ≡ b → program past tid ≡ [] → cond b (or_steps (program_in tid x.event) []) (program past tid) ≡ []
  by_test true e rest = absurd (free (subst (λ a. In tid (with_some (begun_by a) (begun_tids past))) (sym (begun_answer tid x.answer e)) (inl refl)))
  by_test false e rest = rest

-- so nothing is outstanding for it
unbegun_due : (past : CoordPast) (tid : Tid) (site : SiteId) (due : Due) → program past tid ≡ [] → outstanding past tid site ≡ Some due → ⊥
unbegun_due past tid site due none e =
    let nothing : outstanding past tid site ≡ None = ap (λ (steps : List Step). cond (visits site steps) (outstanding_at past tid site) None) none in
    let no : Some due ≡ None = sym e ∙ nothing in cc

module _ (past : CoordPast) (tid : Tid) (none : program past tid ≡ []) where
  no_take : (site : SiteId) (message : ToSite) → IsAsked past site message → is_take_of tid (record { site = site; message = message }) ≡ false
  no_take site (To.Take taken epoch n) asked = by_test (same_tid taken tid) refl where
    by_test : (b : Bool) → same_tid taken tid ≡ b → b ≡ false
    by_test true e = absurd (unbegun_due past tid site (Due_is.Take site epoch n) none (subst (λ (t : Tid). outstanding past t site ≡ Some (Due_is.Take site epoch n)) (same_tid-equal taken tid e) asked))
    by_test false e = refl
  no_take site (To.Work worked epoch n act) asked = refl
  no_take site (To.Prepare prepared epoch n) asked = refl
  no_take site (To.Decide decided decision) asked = refl

  no_prepare : (site : SiteId) (message : ToSite) → IsAsked past site message → is_prepare_of tid (record { site = site; message = message }) ≡ false
  no_prepare site (To.Prepare prepared epoch n) asked = by_test (same_tid prepared tid) refl where
    by_test : (b : Bool) → same_tid prepared tid ≡ b → b ≡ false
    by_test true e = absurd (unbegun_due past tid site (Due_is.Prepare site epoch n) none (subst (λ (t : Tid). outstanding past t site ≡ Some (Due_is.Prepare site epoch n)) (same_tid-equal prepared tid e) asked))
    by_test false e = refl
  no_prepare site (To.Work worked epoch n act) asked = refl
  no_prepare site (To.Take taken epoch n) asked = refl
  no_prepare site (To.Decide decided decision) asked = refl

  no_takes : (sends : List Sent) → Each (λ sent. IsAsked past sent.site sent.message) sends → some_of (is_take_of tid) sends ≡ false
  no_takes [] h = refl
  no_takes (sent ∷ sends) h = ap₂ (λ a b. a || b) (no_take sent.site sent.message h.0) (no_takes sends h.1)

  no_prepares : (sends : List Sent) → Each (λ sent. IsAsked past sent.site sent.message) sends → some_of (is_prepare_of tid) sends ≡ false
  no_prepares [] h = refl
  no_prepares (sent ∷ sends) h = ap₂ (λ a b. a || b) (no_prepare sent.site sent.message h.0) (no_prepares sends h.1)

pub unbegun_unsent : OfPasts UnbegunAreUnsent
unbegun_unsent protocols policy [] made tid free = (refl, refl)
unbegun_unsent protocols policy (x ∷ past) (inl opened) tid free =
    (is_silent protocols (x ∷ past) opened (is_take_of tid), is_silent protocols (x ∷ past) opened (is_prepare_of tid))
unbegun_unsent protocols policy (x ∷ past) (inr (next, made)) tid free =
    let asked = (past_made protocols policy past x next).sends in
    let none = unbegun_program (x ∷ past) tid free in
    let old = unbegun_unsent protocols policy past made tid (λ i. free (in_more tid (begun_by x.answer) (begun_tids past) i)) in
    (ap₂ (λ a b. a || b) (no_takes (x ∷ past) tid none x.sends asked) old.0, ap₂ (λ a b. a || b) (no_prepares (x ∷ past) tid none x.sends asked) old.1)
