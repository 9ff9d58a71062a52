-- The verdict at the order.
use Rattle.std.proofs.Common.{◌≡◌, ℕ, suc, ◌+◌, Bool, true, false, List, add-one, refl, sym, ap, ◌∙◌}
use Rattle.mdb_base.specs.declared.names.Tid.{Tid}
use Rattle.mdb_base.specs.Words.{when}
use Rattle.fed_rules.specs.declared.report.Report.{Report}
use Rattle.fed_rules.specs.declared.scenario.Scenario.{Scenario}
use Rattle.fed_rules.specs.Orders.{IsMerge, orders}
use Rattle.fed_rules.specs.Reports.{report_in}
use Rattle.fed_rules.specs.Story.{Story}
use Rattle.scenario_text.specs.Pieces.{TextLine}
use Rattle.audit_rules.specs.declared.verdict.Verdict.TheVariants.{Differs}
use Rattle.audit_rules.specs.declared.verdict.What.TheVariants as Fails
use Rattle.audit_rules.specs.Agreement.{due, entries, verdict_at_order, verdict_on_report}
use Rattle.audit_rules.specs.Ends.{merges, rests}
use Rattle.audit_rules.proofs.ForCallers.{merge_means, merge_passes}
use Rattle.audit_text.specs.Lines.{is_entry}

module _ (scenario : Scenario) (n : ℕ) (order : List Tid) (lines : List TextLine) (story : Story) where
  -- something is open
  pub open_differs : rests scenario story ≡ false → Differs n Fails.Open ≡ verdict_at_order is_entry scenario n order lines story
  unfolding verdict_at_order when
  open_differs e = ap (λ b. when b (when (merges (orders scenario story) order) (verdict_on_report is_entry (suc n) (due scenario story order) lines) (Differs n Fails.Order)) (Differs n Fails.Open)) (sym e)

  rested : rests scenario story ≡ true → when (merges (orders scenario story) order) (verdict_on_report is_entry (suc n) (due scenario story order) lines) (Differs n Fails.Order)
      ≡ verdict_at_order is_entry scenario n order lines story
  unfolding verdict_at_order when
  rested e = ap (λ b. when b (when (merges (orders scenario story) order) (verdict_on_report is_entry (suc n) (due scenario story order) lines) (Differs n Fails.Order)) (Differs n Fails.Open)) (sym e)

  not_passed : (b : Bool) → merges (orders scenario story) order ≡ b → (IsMerge scenario story order → ⊥) → merges (orders scenario story) order ≡ false
  not_passed true e none = absurd (none (merge_means (orders scenario story) order e))
  not_passed false e none = e

  -- it is no merge
  pub order_differs : rests scenario story ≡ true → (IsMerge scenario story order → ⊥) → Differs n Fails.Order ≡ verdict_at_order is_entry scenario n order lines story
  unfolding when
  order_differs e none =
      ap (λ b. when b (verdict_on_report is_entry (suc n) (due scenario story order) lines) (Differs n Fails.Order)) (sym (not_passed (merges (orders scenario story) order) refl none)) ∙ rested e

  -- the report behind it decides
  pub report_decides : rests scenario story ≡ true → (report : Report) → IsMerge scenario story order × (report ≡ report_in scenario story order)
      → verdict_on_report is_entry (n + 1) (entries report) lines ≡ verdict_at_order is_entry scenario n order lines story
  unfolding when
  report_decides e report is =
      ap (λ m. verdict_on_report is_entry m (entries report) lines) (add-one n)
      ∙ (ap (λ r. verdict_on_report is_entry (suc n) (entries r) lines) is.1
      ∙ (ap (λ b. when b (verdict_on_report is_entry (suc n) (due scenario story order) lines) (Differs n Fails.Order)) (sym (merge_passes (orders scenario story) order is.0)) ∙ rested e))
