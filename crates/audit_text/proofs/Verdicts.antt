-- The verdict on the lines of a report, one line further.
use Rattle.std.proofs.Common.{◌≡◌, ℕ, suc, ◌+◌, ◌<◌, ◌≤◌, true, false, List, [], ◌∷◌, length, drop, get_or, length-drop, add-one, sym, ap, ◌∙◌, arith}
use Rattle.std.proofs.Math.Seq.{drop-cons}
use Rattle.mdb_base.proofs.ForCallers.{nothing_left}
use Rattle.mdb_base.specs.Words.{when}
use Rattle.scenario_text.specs.Pieces.{TextLine}
use Rattle.audit_rules.specs.declared.verdict.Verdict.{Verdict}
use Rattle.audit_rules.specs.declared.verdict.Verdict.TheVariants.{Agrees, Differs}
use Rattle.audit_rules.specs.declared.verdict.What.TheVariants as Fails
use Rattle.audit_text.specs.declared.due.DueLine.{DueLine}
use Rattle.audit_text.specs.Dues.{verdict_on_dues}
use Rattle.audit_text.specs.Lines.{has_bytes}

-- the next one and those behind it
pub next_due : (dues : List DueLine) (i : ℕ) (due : DueLine) → i < length dues → due ≡ get_or dues i due → drop i dues ≡ due ∷ drop (i + 1) dues
next_due dues i due within is = rw (add-one, drop-cons dues i due) (ap (λ (d : DueLine). d ∷ drop (suc i) dues) (sym is))

-- all are behind
pub none_due : (dues : List DueLine) (i : ℕ) → length dues ≤ i → drop i dues ≡ []
none_due dues i all = nothing_left (drop i dues) (omega (arith, length-drop i dues))

module _ (verdict : Verdict) (n : ℕ) (dues : List DueLine) (lines : List TextLine) (is : verdict_on_dues n dues lines ≡ verdict) where
  one_further : (due : DueLine) (more : List DueLine) (line : TextLine) (behind : List TextLine) → dues ≡ due ∷ more → lines ≡ line ∷ behind
      → when (has_bytes line due.bytes) (verdict_on_dues (suc n) more behind) (Differs n due.what) ≡ verdict
  one_further due more line behind e f = sym (ap (λ ds. verdict_on_dues n ds lines) e ∙ ap (verdict_on_dues n (due ∷ more)) f) ∙ is

  -- the line stands
  pub goes_on : (due : DueLine) (more : List DueLine) (line : TextLine) (behind : List TextLine) → dues ≡ due ∷ more → lines ≡ line ∷ behind → has_bytes line due.bytes ≡ true
      → verdict_on_dues (n + 1) more behind ≡ verdict
  unfolding when
  goes_on due more line behind e f stands =
      ap (λ m. verdict_on_dues m more behind) (add-one n) ∙ (ap (λ b. when b (verdict_on_dues (suc n) more behind) (Differs n due.what)) (sym stands) ∙ one_further due more line behind e f)

  -- another one does
  pub differs : (due : DueLine) (more : List DueLine) (line : TextLine) (behind : List TextLine) → dues ≡ due ∷ more → lines ≡ line ∷ behind → has_bytes line due.bytes ≡ false
      → Differs n due.what ≡ verdict
  unfolding when
  differs due more line behind e f other =
      ap (λ b. when b (verdict_on_dues (suc n) more behind) (Differs n due.what)) (sym other) ∙ one_further due more line behind e f

  -- it is missing
  pub missing : (due : DueLine) (more : List DueLine) → dues ≡ due ∷ more → lines ≡ [] → Differs n Fails.Form ≡ verdict
  missing due more e f = sym (ap (λ ds. verdict_on_dues n ds lines) e ∙ ap (verdict_on_dues n (due ∷ more)) f) ∙ is

  -- there is no more
  pub ended : dues ≡ [] → lines ≡ [] → Agrees ≡ verdict
  ended e f = sym (ap (λ ds. verdict_on_dues n ds lines) e ∙ ap (verdict_on_dues n []) f) ∙ is

  -- there is one more
  pub one_more : (line : TextLine) (behind : List TextLine) → dues ≡ [] → lines ≡ line ∷ behind → Differs n Fails.Form ≡ verdict
  one_more line behind e f = sym (ap (λ ds. verdict_on_dues n ds lines) e ∙ ap (verdict_on_dues n []) f) ∙ is
