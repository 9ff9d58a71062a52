-- The verdict that a printed run agrees means that it does.
use Rattle.std.proofs.Common.{◌≡◌, ℕ, suc, Bool, true, false, Option, Some, None, List, [], ◌∷◌, refl, ap}
use Rattle.mdb_base.specs.declared.names.Tid.{Tid}
use Rattle.mdb_base.specs.Words.{when}
use Rattle.fed_rules.specs.declared.commands.Line.{Line}
use Rattle.fed_rules.specs.declared.scenario.Scenario.{Scenario}
use Rattle.fed_rules.specs.Orders.{orders}
use Rattle.fed_rules.specs.Right.{story_told}
use Rattle.fed_rules.specs.Story.{Story, tell}
use Rattle.audit_rules.specs.declared.verdict.Verdict.{Verdict}
use Rattle.audit_rules.specs.declared.verdict.Verdict.TheVariants.{Agrees, Differs}
use Rattle.audit_rules.specs.declared.verdict.What.{What}
use Rattle.audit_rules.specs.declared.verdict.What.TheVariants as Fails
use Rattle.audit_rules.specs.Agreement.{Printed, Says, Orders, Neither, Entry, due, what_of, verdict_on_report, verdict_at_order, unless_fault, verdict_at, verdict_from}
use Rattle.audit_rules.specs.Agreements.{IsReport, AreRight, AgreesBehind}
use Rattle.audit_rules.specs.Ends.{rests, merges}
use Rattle.audit_rules.specs.Faults.{fault_of}
use Rattle.audit_rules.proofs.Endings.{rest_means, merge_means}
use Rattle.audit_rules.proofs.NextLine.{no_fault_means}

-- ---- the report

report_means : {A : Type 0} (is : A → Entry → Bool) (n : ℕ) (entries : List Entry) (texts : List A) → verdict_on_report is n entries texts ≡ Agrees
    → IsReport is entries texts
unfolding verdict_on_report when
report_means is n [] [] e = tt
report_means is n [] (text ∷ texts) e = cc
report_means is n (entry ∷ entries) [] e = cc
report_means is n (entry ∷ entries) (text ∷ texts) e = by_test (is text entry) refl e (λ f. report_means is (suc n) entries texts f) where
  by_test : (b : Bool) → is text entry ≡ b → when b (verdict_on_report is (suc n) entries texts) (Differs n (what_of entry)) ≡ Agrees
      → (verdict_on_report is (suc n) entries texts ≡ Agrees → IsReport is entries texts) → (is text entry ≡ true) × IsReport is entries texts
  by_test true f g rest = (f, rest g)
  by_test false f g rest = cc

agreed_when : (b : Bool) (more : Verdict) (n : ℕ) (what : What) → when b more (Differs n what) ≡ Agrees → (b ≡ true) × (more ≡ Agrees)
unfolding when
agreed_when true more n what e = (refl, e)
agreed_when false more n what e = cc

-- ---- all

pub yes_agrees : {A : Type 0} (read : A → Printed) (is : A → Entry → Bool) (scenario : Scenario) (n : ℕ) (texts : List A) (before : List Line)
    → AreRight scenario before → verdict_from read is scenario n texts (story_told scenario before) ≡ Agrees
    → AgreesBehind read is scenario before texts
unfolding verdict_from verdict_at verdict_at_order unless_fault
yes_agrees read is scenario n [] before right e = cc
yes_agrees {A} read is scenario n (text ∷ texts) before right e =
    by_read (read text) refl e (λ lines good f. yes_agrees read is scenario (suc n) texts lines good f)
  where
    story : Story
    story = story_told scenario before

    next : Story → Verdict
    next = verdict_from read is scenario (suc n) texts

    Behind : List Line → Type 0
    Behind lines = AreRight scenario lines → verdict_from read is scenario (suc n) texts (story_told scenario lines) ≡ Agrees → AgreesBehind read is scenario lines texts

    by_line : (line : Line) → read text ≡ Says line → (fault : Option What) → fault_of scenario story line ≡ fault
        → unless_fault n fault next (tell scenario story line.command ∷ story) ≡ Agrees → ((lines : List Line) → Behind lines) → AgreesBehind read is scenario before (text ∷ texts)
    by_line line says (Some what) f g more = cc
    by_line line says None f g more =
        let (declared, is_next) = no_fault_means scenario story line f in
        let rest = more (line ∷ before) (record { declared = (declared, right.declared); right = (right.right, is_next) }) g in
        record {
          lines = rest.lines;
          order = rest.order;
          spoken = text ∷ rest.spoken;
          named = rest.named;
          behind = rest.behind;
          parts = ap (λ xs. text ∷ xs) rest.parts;
          are_lines = (line, says, rest.are_lines);
          is_order = rest.is_order;
          right = rest.right;
          rests = rest.rests;
          merge = rest.merge;
          report = rest.report;
        }

    by_order : (order : List Tid) → read text ≡ Orders order → verdict_at_order is scenario n order texts story ≡ Agrees → AgreesBehind read is scenario before (text ∷ texts)
    by_order order says f =
        let (quiet, g) = agreed_when (rests scenario story) _ n Fails.Open f in
        let (merged, h) = agreed_when (merges (orders scenario story) order) _ n Fails.Order g in
        record {
          lines = before;
          order = order;
          spoken = [];
          named = text;
          behind = texts;
          parts = refl;
          are_lines = refl;
          is_order = says;
          right = right;
          rests = rest_means scenario story quiet;
          merge = merge_means (orders scenario story) order merged;
          report = report_means is (suc n) (due scenario story order) texts h;
        }

    by_read : (printed : Printed) → read text ≡ printed → verdict_at is scenario n printed texts next story ≡ Agrees → ((lines : List Line) → Behind lines)
        → AgreesBehind read is scenario before (text ∷ texts)
    by_read (Says line) says f more = by_line line says (fault_of scenario story line) refl f more
    by_read (Orders order) says f more = by_order order says f
    by_read Neither says f more = cc
