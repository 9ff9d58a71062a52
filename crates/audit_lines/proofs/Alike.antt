-- Answers that are compared.
use Rattle.std.proofs.Common.{◌≡◌, Bool, true, false, Some, refl, sym, ap, ap₂, ◌∙◌}
use Rattle.fed_rules.specs.declared.answers.Answer.{Answer}
use Rattle.fed_rules.specs.declared.answers.Answer.TheVariants as Say
use Rattle.fed_rules.specs.declared.answers.Cause.TheVariants as For
use Rattle.audit_rules.specs.Same.{same_answer, without_edges}
use Rattle.audit_rules.specs.Faults.{names_cycle}
use Rattle.audit_rules.proofs.ForCallers.{answers_alike}

unlike : (b : Bool) (p q : Answer) → same_answer p q ≡ b → (p ≡ q → ⊥) → b ≡ false
unlike true p q e f = absurd (f (answers_alike p q e))
unlike false p q e f = refl

-- an answer that names no cycle has no edges to leave out
pub whole : (a : Answer) → names_cycle a ≡ false → without_edges a ≡ a
whole (Say.Decides decision (Some (For.Cycle edges)) forgets) e = cc
whole a e = refl

-- and leaving them out changes not whether it names one
pub still_names : (a : Answer) → names_cycle (without_edges a) ≡ names_cycle a
still_names (Say.Decides decision (Some (For.Cycle edges)) forgets) = refl
still_names a = refl

differ : (p q : Answer) → names_cycle p ≡ true → names_cycle q ≡ false → same_answer p q ≡ false
differ p q e f = unlike (same_answer p q) p q refl (λ same. let g : names_cycle p ≡ names_cycle q = ap names_cycle same in cc)

differ_too : (p q : Answer) → names_cycle p ≡ false → names_cycle q ≡ true → same_answer p q ≡ false
differ_too p q e f = unlike (same_answer p q) p q refl (λ same. let g : names_cycle p ≡ names_cycle q = ap names_cycle same in cc)

-- where only one of two answers names a cycle, or none, it is the same with the edges and without
pub due_is_whole : (p q : Answer) → names_cycle q ≡ false → same_answer p q ≡ same_answer (without_edges p) (without_edges q)
due_is_whole p q e = by_first (names_cycle p) refl where
  by_first : (b : Bool) → names_cycle p ≡ b → same_answer p q ≡ same_answer (without_edges p) (without_edges q)
  by_first true f = differ p q f e ∙ sym (differ (without_edges p) (without_edges q) (still_names p ∙ f) (still_names q ∙ e))
  by_first false f = ap₂ same_answer (sym (whole p f)) (sym (whole q e))

pub printed_is_whole : (p q : Answer) → names_cycle p ≡ false → same_answer p q ≡ same_answer (without_edges p) (without_edges q)
printed_is_whole p q e = by_second (names_cycle q) refl where
  by_second : (b : Bool) → names_cycle q ≡ b → same_answer p q ≡ same_answer (without_edges p) (without_edges q)
  by_second true f = differ_too p q e f ∙ sym (differ_too (without_edges p) (without_edges q) (still_names p ∙ e) (still_names q ∙ f))
  by_second false f = ap₂ same_answer (sym (whole p e)) (sym (whole q f))
