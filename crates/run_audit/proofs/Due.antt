-- The line that a world adds is the due one.
use Rattle.std.proofs.Common.{◌≡◌, ◌-◌, true, false, not, Option, Some, None, List, [], ◌∷◌, ◌++◌, length, reverse, slice_get, refl, sym, ap, subst, ◌∙◌, arith}
use Rattle.std.proofs.lemmas.List.{length-append, reverse-append}
use Rattle.mdb_base.specs.Words.{when}
use Rattle.mdb_base.proofs.ForCallers.{some_parts}
use Rattle.fed_rules.specs.declared.commands.Command.{Command}
use Rattle.fed_rules.specs.declared.commands.Line.{Line}
use Rattle.fed_rules.specs.declared.scenario.Scenario.{Scenario}
use Rattle.fed_rules.specs.Right.{IsNext}
use Rattle.fed_rules.specs.Sessions.{fresh}
use Rattle.fed_rules.specs.Story.{Story, story_of, tell}
use Rattle.fed_world.specs.declared.world.World.{World}
use Rattle.fed_world.specs.FreshWorlds.{HasLines}
use Rattle.fed_world.specs.Lines.{IsRightIn}
use Rattle.fed_world.specs.Worlds.{AddsLine, lines_of}
use Rattle.audit_rules.specs.declared.verdict.What.{What}
use Rattle.audit_rules.specs.declared.verdict.What.TheVariants as Fails
use Rattle.audit_rules.specs.Faults.{fault_in, fault_of, names_declared}
use Rattle.run_audit.specs.Turns.{Checks}

last_added : {A : Type 0} (xs : List A) (x : A) → slice_get (xs ++ x ∷ []) (length xs) ≡ Some x
last_added [] x = refl
last_added (y ∷ ys) x = last_added ys x

module _ (old new : World) (scenario : Scenario) (commands : List Command) (command : Command) (due : Line) where
  pub next_line : HasLines old scenario commands → HasLines new scenario (command ∷ commands) → AddsLine old new command → slice_get (lines_of new) (length (lines_of new) - 1) ≡ Some due
      → (due.command ≡ command) × IsNext scenario (story_of scenario commands) due
  next_line before after adds found =
      let line = adds.line in
      let front = lines_of old in
      let n : length (front ++ line ∷ []) - 1 ≡ length front = (let e = length-append front (line ∷ []) in omega arith) in
      let at : slice_get (lines_of new) (length (lines_of new) - 1) ≡ Some line =
      ap (λ (xs : List Line). slice_get xs (length xs - 1)) adds.lines ∙ (ap (λ k. slice_get (front ++ line ∷ []) k) n ∙ last_added front line) in
      let same : line ≡ due = some_parts (sym at ∙ found) in
      let right : IsRightIn (fresh scenario) (line ∷ reverse front) =
      subst (λ (ls : List Line). IsRightIn (fresh scenario) ls) (ap (λ (xs : List Line). reverse xs) adds.lines ∙ reverse-append front (line ∷ [])) after.right in
      subst (λ (l : Line). (l.command ≡ command) × IsNext scenario (story_of scenario commands) l) same
      (adds.is, subst (λ (cs : List Command). IsNext scenario (story_of scenario cs) line) before.commands_are right.1)

module _ (scenario : Scenario) (story : Story) (printed : Line) where
  pub undeclared_fault : names_declared scenario printed.command ≡ false → fault_of scenario story printed ≡ Some Fails.Form
  unfolding fault_of when
  undeclared_fault e = ap (λ b. when (not b) (Some Fails.Form) (fault_in scenario story (tell scenario story printed.command).happened printed)) e

  pub declared_fault : names_declared scenario printed.command ≡ true → fault_of scenario story printed ≡ fault_in scenario story (tell scenario story printed.command).happened printed
  unfolding fault_of when
  declared_fault e = ap (λ b. when (not b) (Some Fails.Form) (fault_in scenario story (tell scenario story printed.command).happened printed)) e

-- so the line is checked
pub checked : (K : Scenario → List Command → Type 0) (printed : Line) (scenario : Scenario) (commands : List Command) (found : Option What) → fault_of scenario (story_of scenario commands) printed ≡ found
    → K scenario (printed.command ∷ commands) → Checks K printed scenario commands found
checked K printed scenario commands None e k = (e, k)
checked K printed scenario commands (Some what) e k = e
