-- The verdict on what stands behind the order, by the bytes of the lines that are due.
use Rattle.std.specs.Prelude.{ℕ, suc, List, [], ◌∷◌}
use Rattle.mdb_base.specs.Words.{when}
use Rattle.scenario_text.specs.Pieces.{TextLine}
use Rattle.audit_rules.specs.declared.verdict.Verdict.{Verdict}
use Rattle.audit_rules.specs.declared.verdict.Verdict.TheVariants.{Agrees, Differs}
use Rattle.audit_rules.specs.declared.verdict.What.TheVariants as Fails
use Rattle.audit_text.specs.declared.due.DueLine.{DueLine}
use Rattle.audit_text.specs.Lines.{has_bytes}

abbrev pub verdict_on_dues : ℕ → List DueLine → List TextLine → Verdict
verdict_on_dues n [] [] = Agrees
verdict_on_dues n [] (line ∷ lines) = Differs n Fails.Form
verdict_on_dues n (due ∷ dues) [] = Differs n Fails.Form
verdict_on_dues n (due ∷ dues) (line ∷ lines) = when (has_bytes line due.bytes) (verdict_on_dues (suc n) dues lines) (Differs n due.what)
