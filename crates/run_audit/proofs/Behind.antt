-- The verdict on printed lines, by what is read of the first.
use Rattle.std.proofs.Common.{◌≡◌, ℕ, suc, Option, Some, None, List, [], ◌∷◌, refl, sym, ap, ◌∙◌}
use Rattle.mdb_base.specs.declared.names.Tid.{Tid}
use Rattle.fed_rules.specs.declared.commands.Line.{Line}
use Rattle.fed_rules.specs.declared.scenario.Scenario.{Scenario}
use Rattle.fed_rules.specs.Story.{Story, tell}
use Rattle.scenario_text.specs.Pieces.{TextLine}
use Rattle.audit_rules.specs.declared.verdict.Verdict.TheVariants.{Differs}
use Rattle.audit_rules.specs.declared.verdict.What.{What}
use Rattle.audit_rules.specs.declared.verdict.What.TheVariants as Fails
use Rattle.audit_rules.specs.Agreement.{Printed, Says, Orders, Neither, unless_fault, verdict_at, verdict_at_order, verdict_from}
use Rattle.audit_rules.specs.Faults.{fault_of}
use Rattle.audit_text.specs.Lines.{printed_in, is_entry}

module _ (scenario : Scenario) (n : ℕ) (line : TextLine) (lines : List TextLine) (story : Story) where
  by_read : (read : Printed) → printed_in line ≡ read
      → verdict_at is_entry scenario n read lines (verdict_from printed_in is_entry scenario (suc n) lines) story ≡ verdict_from printed_in is_entry scenario n (line ∷ lines) story
  unfolding verdict_from
  by_read read is = ap (λ p. verdict_at is_entry scenario n p lines (verdict_from printed_in is_entry scenario (suc n) lines) story) (sym is)

  by_fault : (said : Line) (fault : Option What) → printed_in line ≡ Says said → fault_of scenario story said ≡ fault
      → unless_fault n fault (verdict_from printed_in is_entry scenario (suc n) lines) (tell scenario story said.command ∷ story) ≡ verdict_from printed_in is_entry scenario n (line ∷ lines) story
  unfolding verdict_at
  by_fault said fault is found =
      ap (λ o. unless_fault n o (verdict_from printed_in is_entry scenario (suc n) lines) (tell scenario story said.command ∷ story)) (sym found) ∙ by_read (Says said) is

  -- a line of a command that has a fault
  pub line_differs : (said : Line) (what : What) → printed_in line ≡ Says said → fault_of scenario story said ≡ Some what
      → Differs n what ≡ verdict_from printed_in is_entry scenario n (line ∷ lines) story
  unfolding unless_fault
  line_differs said what is found = by_fault said (Some what) is found

  -- one that has none
  pub line_goes_on : (said : Line) → printed_in line ≡ Says said → fault_of scenario story said ≡ None
      → verdict_from printed_in is_entry scenario n (line ∷ lines) story ≡ verdict_from printed_in is_entry scenario (suc n) lines (tell scenario story said.command ∷ story)
  unfolding unless_fault
  line_goes_on said is found = sym (by_fault said None is found)

  -- the order
  pub order_decides : (order : List Tid) → printed_in line ≡ Orders order → verdict_at_order is_entry scenario n order lines story ≡ verdict_from printed_in is_entry scenario n (line ∷ lines) story
  unfolding verdict_at
  order_decides order is = by_read (Orders order) is

  -- neither
  pub neither_differs : printed_in line ≡ Neither → Differs n Fails.Form ≡ verdict_from printed_in is_entry scenario n (line ∷ lines) story
  unfolding verdict_at
  neither_differs is = by_read Neither is

-- no line
pub none_differs : (scenario : Scenario) (n : ℕ) (story : Story) → Differs n Fails.Form ≡ verdict_from printed_in is_entry scenario n [] story
unfolding verdict_from
none_differs scenario n story = refl
