-- The verdict on what was handed in, and what a yes implies of it.
use Rattle.std.proofs.Common.{◌≡◌, ℕ, suc, ◌+◌, ◌<◌, ◌^◌, Option, Some, List, [], length, map, Bor, sym, ap, subst, ◌∙◌, arith}
use Rattle.fed_rules.specs.declared.commands.Line.{Line}
use Rattle.fed_rules.specs.Headline.{Headline}
use Rattle.fed_rules.specs.Plans.{IsScenario, Plan}
use Rattle.scenario_text.specs.Pieces.{lines}
use Rattle.federation_laws.specs.OneOrder.{HasOneOrder, OfStories}
use Rattle.federation_laws.proofs.ForCallers.{declared-in}
use Rattle.audit_rules.specs.declared.verdict.Verdict.{Verdict}
use Rattle.audit_rules.specs.declared.verdict.Verdict.TheVariants.{Agrees}
use Rattle.audit_rules.specs.Agreement.{verdict_from}
use Rattle.audit_rules.proofs.ForCallers.{audited}
use Rattle.audit_text.specs.Lines.{printed_in, is_entry}
use Rattle.run_audit.specs.Audits.{RunIsAudited, WillFit, is_short, verdict_behind, verdict_by}

module _ (printed : Option (Bor (List ℕ))) (text : Bor (List ℕ)) (is : printed ≡ Some text) (count : ℕ) (scenario : Plan) where
  -- the verdict on its lines is the one on what was handed in
  pub verdict_there : verdict_behind (count + 2) text.now scenario [] ≡ verdict_by printed count scenario
  verdict_there =
      let two : count + 2 ≡ suc (suc count) = omega arith in
      ap (λ n. verdict_from printed_in is_entry scenario n (lines text.now) []) two ∙ ap (λ o. verdict_by o count scenario) (sym is)

  -- the numbers of its commands fit
  pub will_fit : is_short printed count → WillFit text.now scenario []
  will_fit short = let few : count + length text.now < 2 ^ 29 = subst (λ o. is_short o count) is short in omega arith

  -- a yes implies the headline
  pub run_audited : IsScenario scenario → OfStories Headline → OfStories HasOneOrder → (verdict : Verdict) → verdict ≡ verdict_behind (count + 2) text.now scenario [] → verdict ≡ Agrees
      → RunIsAudited scenario printed
  run_audited good headline one_order verdict so e =
      subst (λ o. RunIsAudited scenario o) (sym is)
      (audited printed_in is_entry scenario
      (λ lines. record {
        least = headline scenario good (map (λ (line : Line). line.command) lines);
        once = (one_order scenario good (map (λ (line : Line). line.command) lines)).once;
        serial = (one_order scenario good (map (λ (line : Line). line.command) lines)).serial;
      })
      (declared-in scenario) (count + 2) (lines text.now) (sym so ∙ e))
