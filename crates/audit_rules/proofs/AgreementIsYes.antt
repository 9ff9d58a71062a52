-- A printed run that agrees has the verdict that it does.
use Rattle.std.proofs.Common.{◌≡◌, ℕ, suc, Bool, true, List, [], ◌∷◌, ◌++◌, refl, sym, ap, ◌∙◌, subst}
use Rattle.mdb_base.specs.declared.names.Tid.{Tid}
use Rattle.mdb_base.specs.Words.{when}
use Rattle.fed_rules.specs.declared.commands.Line.{Line}
use Rattle.fed_rules.specs.declared.scenario.Scenario.{Scenario}
use Rattle.fed_rules.specs.Orders.{orders, IsMerge}
use Rattle.fed_rules.specs.Right.{story_told}
use Rattle.fed_rules.specs.Story.{Story, tell}
use Rattle.audit_rules.specs.declared.verdict.Verdict.TheVariants.{Agrees, Differs}
use Rattle.audit_rules.specs.declared.verdict.What.TheVariants as Fails
use Rattle.audit_rules.specs.Agreement.{Printed, Orders, Entry, due, what_of, verdict_on_report, verdict_at_order, unless_fault, verdict_at, verdict_from}
use Rattle.audit_rules.specs.Agreements.{Rests, ReadsAs, IsReport, AreRight, AgreesBehind}
use Rattle.audit_rules.specs.Ends.{rests, merges}
use Rattle.audit_rules.proofs.Endings.{rest_passes, merge_passes}
use Rattle.audit_rules.proofs.NextLine.{next_has_none}

-- ---- the report

report_passes : {A : Type 0} (is : A → Entry → Bool) (n : ℕ) (entries : List Entry) (texts : List A) → IsReport is entries texts
    → verdict_on_report is n entries texts ≡ Agrees
unfolding verdict_on_report when
report_passes is n [] [] h = refl
report_passes is n [] (text ∷ texts) h = absurd h
report_passes is n (entry ∷ entries) [] h = absurd h
report_passes is n (entry ∷ entries) (text ∷ texts) h =
    ap (λ b. when b (verdict_on_report is (suc n) entries texts) (Differs n (what_of entry))) h.0 ∙ report_passes is (suc n) entries texts h.1

-- ---- all

-- lines of which the later ones are right are right
earlier_right : {A : Type 0} (read : A → Printed) (scenario : Scenario) (texts : List A) (before lines : List Line) → ReadsAs read texts before lines
    → AreRight scenario lines → AreRight scenario before
earlier_right read scenario [] before lines e right = subst (AreRight scenario) (sym e) right
earlier_right read scenario (text ∷ texts) before lines (line, says, more) right =
    let rest = earlier_right read scenario texts (line ∷ before) lines more right in
    record { declared = rest.declared.1; right = rest.right.0 }

at_the_order : {A : Type 0} (read : A → Printed) (is : A → Entry → Bool) (scenario : Scenario) (n : ℕ) (named : A) (behind : List A) (order : List Tid) (story : Story)
    → read named ≡ Orders order → rests scenario story ≡ true → merges (orders scenario story) order ≡ true → IsReport is (due scenario story order) behind
    → verdict_from read is scenario n (named ∷ behind) story ≡ Agrees
unfolding verdict_from verdict_at verdict_at_order when
at_the_order read is scenario n named behind order story says quiet merged report =
    ap (λ p. verdict_at is scenario n p behind (verdict_from read is scenario (suc n) behind) story) says
    ∙ ap (λ b. when b (when (merges (orders scenario story) order) (verdict_on_report is (suc n) (due scenario story order) behind) (Differs n Fails.Order)) (Differs n Fails.Open)) quiet
    ∙ ap (λ b. when b (verdict_on_report is (suc n) (due scenario story order) behind) (Differs n Fails.Order)) merged
    ∙ report_passes is (suc n) (due scenario story order) behind report

behind_lines : {A : Type 0} (read : A → Printed) (is : A → Entry → Bool) (scenario : Scenario) (n : ℕ) (spoken : List A) (named : A) (behind : List A) (order : List Tid)
    (before lines : List Line) → ReadsAs read spoken before lines → AreRight scenario lines → Rests scenario (story_told scenario lines)
    → IsMerge scenario (story_told scenario lines) order → read named ≡ Orders order → IsReport is (due scenario (story_told scenario lines) order) behind
    → verdict_from read is scenario n (spoken ++ named ∷ behind) (story_told scenario before) ≡ Agrees
unfolding verdict_from verdict_at unless_fault
behind_lines read is scenario n [] named behind order before lines e right quiet merged says report =
    subst (λ ls. verdict_from read is scenario n (named ∷ behind) (story_told scenario ls) ≡ Agrees) (sym e)
    (at_the_order read is scenario n named behind order (story_told scenario lines) says (rest_passes scenario (story_told scenario lines) quiet)
    (merge_passes (orders scenario (story_told scenario lines)) order merged) report)
behind_lines read is scenario n (text ∷ spoken) named behind order before lines (line, says_it, more) right quiet merged says report =
    let here = earlier_right read scenario spoken (line ∷ before) lines more right in
    let none = next_has_none scenario (story_told scenario before) line here.declared.0 here.right.1 in
    ap (λ p. verdict_at is scenario n p (spoken ++ named ∷ behind) (verdict_from read is scenario (suc n) (spoken ++ named ∷ behind)) (story_told scenario before)) says_it
    ∙ ap (λ f. unless_fault n f (verdict_from read is scenario (suc n) (spoken ++ named ∷ behind)) (tell scenario (story_told scenario before) line.command ∷ story_told scenario before)) none
    ∙ behind_lines read is scenario (suc n) spoken named behind order (line ∷ before) lines more right quiet merged says report

pub agreement_is_yes : {A : Type 0} (read : A → Printed) (is : A → Entry → Bool) (scenario : Scenario) (n : ℕ) (texts : List A) (before : List Line)
    → AgreesBehind read is scenario before texts → verdict_from read is scenario n texts (story_told scenario before) ≡ Agrees
agreement_is_yes read is scenario n texts before a =
    subst (λ ts. verdict_from read is scenario n ts (story_told scenario before) ≡ Agrees) (sym a.parts)
    (behind_lines read is scenario n a.spoken a.named a.behind a.order before a.lines a.are_lines a.right a.rests a.merge a.is_order a.report)
