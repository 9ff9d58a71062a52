-- The lines of a report that are due, by their bytes.
use Rattle.std.proofs.Common.{◌≡◌, ℕ, suc, List, [], ◌∷◌, map, refl, ap}
use Rattle.mdb_base.specs.Words.{when}
use Rattle.scenario_text.specs.Pieces.{TextLine}
use Rattle.audit_rules.specs.declared.verdict.Verdict.TheVariants.{Differs}
use Rattle.audit_rules.specs.Agreement.{Entry, verdict_on_report, what_of}
use Rattle.audit_text.specs.Dues.{verdict_on_dues}
use Rattle.audit_text.specs.Lines.{due_line, is_entry}

-- the verdict by the bytes is the verdict by the entries
pub by_entries : (n : ℕ) (es : List Entry) (ls : List TextLine) → verdict_on_dues n (map due_line es) ls ≡ verdict_on_report is_entry n es ls
unfolding verdict_on_report
by_entries n [] [] = refl
by_entries n [] (l ∷ ls) = refl
by_entries n (e ∷ es) [] = refl
by_entries n (e ∷ es) (l ∷ ls) = ap (λ v. when (is_entry l e) v (Differs n (what_of e))) (by_entries (suc n) es ls)
