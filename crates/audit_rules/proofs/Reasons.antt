-- The reason that is found for a line is the first one that fits.
use Rattle.std.proofs.Common.{◌≡◌, ◌⊎◌, Bool, true, false, not, Option, Some, None, inl, inr, refl, subst}
use Rattle.std.proofs.lemmas.Bool.{not-true}
use Rattle.mdb_base.specs.Words.{when}
use Rattle.mdb_base.proofs.ForCallers.{not_both, some_parts}
use Rattle.order_laws.proofs.ForCallers.{not_false}
use Rattle.fed_rules.specs.declared.commands.Line.{Line}
use Rattle.fed_rules.specs.declared.scenario.Scenario.{Scenario}
use Rattle.fed_rules.specs.Scenarios.{protocols}
use Rattle.fed_rules.specs.Story.{Story, Happened, tell, answer_of, places_of}
use Rattle.audit_rules.specs.declared.verdict.What.{What}
use Rattle.audit_rules.specs.declared.verdict.What.TheVariants as Fails
use Rattle.audit_rules.specs.Differences.{AnswersAlike, FailsAsLine}
use Rattle.audit_rules.specs.Faults.{compared, edges_of, errs, fault_in, fault_of, names_declared}
use Rattle.audit_rules.specs.Same.{same_answer, same_places}
use Rattle.audit_rules.proofs.AnswersAlike.{answers_alike, answers_self, places_alike, places_self}
use Rattle.audit_rules.proofs.NextLine.{compared_alike}

-- the reason is this one, where the test fits, and else one of the others
found_in : (b : Bool) (first what : What) (rest : Option What) → when b (Some first) rest ≡ Some what
    → ((b ≡ true) × (first ≡ what)) ⊎ ((b ≡ false) × (rest ≡ Some what))
unfolding when
found_in true first what rest e = inl (refl, some_parts e)
found_in false first what rest e = inr (refl, e)

module _ (scenario : Scenario) (story : Story) (line : Line) where
  abbrev happened : Happened
  happened = (tell scenario story line.command).happened

  abbrev answers : Bool
  answers = same_answer (compared happened line.answer) (compared happened (answer_of happened))

  abbrev places : Bool
  places = same_places line.sends (places_of story happened)

  abbrev cycle : Bool
  cycle = errs (protocols scenario) story happened (edges_of line.answer)

  answers_differ : answers ≡ false → AnswersAlike scenario story line → ⊥
  answers_differ f same =
      not_both answers (subst (λ a. same_answer (compared happened line.answer) a ≡ true) same (answers_self (compared happened line.answer))) f

  places_differ : places ≡ false → line.sends ≡ places_of story happened → ⊥
  places_differ f same = not_both places (subst (λ ps. same_places line.sends ps ≡ true) same (places_self line.sends)) f

  by_cycle : (what : What) → names_declared scenario line.command ≡ true → answers ≡ true → places ≡ true
      → ((cycle ≡ true) × (Fails.Cycle ≡ what)) ⊎ ((cycle ≡ false) × (None ≡ Some what)) → FailsAsLine scenario story line what
  by_cycle what declared same sends (inl (wrong, is)) =
      subst (FailsAsLine scenario story line) is
      (declared, answers_alike _ _ same, places_alike _ _ sends, λ fits. not_both cycle wrong (compared_alike (protocols scenario) story happened line.answer fits).1)
  by_cycle what declared same sends (inr (right, none)) = cc

  by_places : (what : What) → names_declared scenario line.command ≡ true → answers ≡ true
      → ((not places ≡ true) × (Fails.Places ≡ what)) ⊎ ((not places ≡ false) × (when cycle (Some Fails.Cycle) None ≡ Some what))
      → FailsAsLine scenario story line what
  by_places what declared same (inl (wrong, is)) =
      subst (FailsAsLine scenario story line) is (declared, answers_alike _ _ same, places_differ (not-true places wrong))
  by_places what declared same (inr (right, more)) =
      by_cycle what declared same (not_false places right) (found_in cycle Fails.Cycle what None more)

  by_answers : (what : What) → names_declared scenario line.command ≡ true
      → ((not answers ≡ true) × (Fails.Answer ≡ what))
      ⊎ ((not answers ≡ false) × (when (not places) (Some Fails.Places) (when cycle (Some Fails.Cycle) None) ≡ Some what))
      → FailsAsLine scenario story line what
  by_answers what declared (inl (wrong, is)) =
      subst (FailsAsLine scenario story line) is (declared, answers_differ (not-true answers wrong))
  by_answers what declared (inr (right, more)) =
      by_places what declared (not_false answers right) (found_in (not places) Fails.Places what (when cycle (Some Fails.Cycle) None) more)

  by_names : (what : What) → ((not (names_declared scenario line.command) ≡ true) × (Fails.Form ≡ what))
      ⊎ ((not (names_declared scenario line.command) ≡ false) × (fault_in scenario story happened line ≡ Some what))
      → FailsAsLine scenario story line what
  unfolding fault_in
  by_names what (inl (wrong, is)) = subst (FailsAsLine scenario story line) is (not-true _ wrong)
  by_names what (inr (right, more)) =
      by_answers what (not_false _ right)
      (found_in (not answers) Fails.Answer what (when (not places) (Some Fails.Places) (when cycle (Some Fails.Cycle) None)) more)

  pub fault_means : (what : What) → fault_of scenario story line ≡ Some what → FailsAsLine scenario story line what
  unfolding fault_of
  fault_means what e = by_names what (found_in (not (names_declared scenario line.command)) Fails.Form what (fault_in scenario story happened line) e)
