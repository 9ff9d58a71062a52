-- What is handed in of a text.
use Rattle.std.proofs.Common.{◌≡◌, ℕ, suc, ◌≤◌, Option, Some, None, List, length, Ok, Err, Bor, sym, ap, ap₂, ◌∙◌, arith}
use Rattle.fed_rules.specs.Plans.{Plan}
use Rattle.scenario_text.specs.declared.bad.BadLine.{BadLine}
use Rattle.scenario_text.specs.declared.bad.TextErr.{TextErr}
use Rattle.scenario_text.specs.declared.bad.TextErr.TheVariants as Text_err
use Rattle.scenario_text.specs.Pieces.{TextLine, lines}
use Rattle.scenario_text.specs.Texts.{Answers, scenario_of}
use Rattle.audit_rules.specs.declared.verdict.Verdict.TheVariants.{Differs}
use Rattle.audit_rules.specs.declared.verdict.What.TheVariants as Fails
use Rattle.audit_text.specs.Cuts.{AreFew, IsCut}
use Rattle.audit_text.specs.Texts as texts
use Rattle.audit_text.specs.Texts.{audit_of, audited, cut_printed, run_verdict, text_of}
use Rattle.run_audit.specs.Audits.{Hands, StandsBehind, is_short, verdict_by}

-- the text has the verdict on what is handed in, which is made of its parts
pub handed_is : (text front : List ℕ) (count : ℕ) (printed : Option (Bor (List ℕ))) (scenario : Plan) → IsCut text front count printed → scenario_of front ≡ Ok scenario
    → (audit_of text ≡ Ok (verdict_by printed count scenario)) × StandsBehind text scenario printed
unfolding audit_of
handed_is text front count None scenario cut spelled = (
  ap (texts.verdict_by text) cut.0
      ∙ (ap (λ r. audited r (λ s. Differs (suc (length (lines text))) Fails.Form)) (ap scenario_of (sym cut.1) ∙ spelled)
      ∙ ap (λ n. Ok (Differs (suc n) Fails.Form)) (sym cut.2)),
  tt,
)
handed_is text front count (Some printed) scenario cut spelled =
    let own : scenario_of (text_of cut.0.0) ≡ Ok scenario = ap scenario_of (sym cut.2) ∙ spelled in (
      ap (texts.verdict_by text) cut.1
          ∙ (ap (λ r. audited r (run_verdict (suc (suc (length cut.0.0))) cut.0.1)) own
          ∙ ap₂ (λ (n : ℕ) (ls : List TextLine). Ok (run_verdict (suc (suc n)) ls scenario)) (sym cut.3) (sym cut.4)),
      (cut.0.0, cut.1 ∙ ap (λ ls. Some (cut.0.0, ls)) (sym cut.4), own),
    )

-- or the first bad line of its scenario
pub refused_is : (text front : List ℕ) (count : ℕ) (printed : Option (Bor (List ℕ))) (bad : BadLine) → IsCut text front count printed → scenario_of front ≡ Err bad → audit_of text ≡ Err bad
unfolding audit_of
refused_is text front count None bad cut refused =
    ap (texts.verdict_by text) cut.0 ∙ ap (λ r. audited r (λ s. Differs (suc (length (lines text))) Fails.Form)) (ap scenario_of (sym cut.1) ∙ refused)
refused_is text front count (Some printed) bad cut refused =
    ap (texts.verdict_by text) cut.1 ∙ ap (λ r. audited r (run_verdict (suc (suc (length cut.0.0))) cut.0.1)) (ap scenario_of (sym cut.2) ∙ refused)

-- so it is where want of memory says nothing
pub refused_so : (text front : List ℕ) (count : ℕ) (printed : Option (Bor (List ℕ))) (why : TextErr) → IsCut text front count printed → Answers {A = Plan} (Err why) (scenario_of front) → Hands (Err why) text
refused_so text front count printed (Text_err.Bad bad) cut refused = refused_is text front count printed bad cut refused
refused_so text front count printed Text_err.Memory cut refused = tt

-- the numbers of its lines fit
pub handed_short : (count : ℕ) (printed : Option (Bor (List ℕ))) (most : ℕ) → AreFew count printed most → most ≤ 4194304 → is_short printed count
handed_short count None most few short = omega arith
handed_short count (Some printed) most few short = omega arith
