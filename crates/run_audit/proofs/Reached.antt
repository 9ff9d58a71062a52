-- How far an audit has come.
use Rattle.std.proofs.Common.{◌≡◌, ℕ, ◌+◌, ◌<◌, List, [], ◌∷◌, length, add-one, sym, ap, ◌∙◌, arith}
use Rattle.fed_rules.specs.declared.commands.Command.{Command}
use Rattle.fed_rules.specs.declared.scenario.Scenario.{Scenario}
use Rattle.fed_rules.specs.Story.{story_of}
use Rattle.fed_world.specs.FreshWorlds.{HasRoom}
use Rattle.scenario_text.specs.Pieces.{TextLine, lines}
use Rattle.audit_rules.specs.declared.verdict.Verdict.{Verdict}
use Rattle.audit_rules.specs.declared.verdict.Verdict.TheVariants.{Differs}
use Rattle.audit_rules.specs.declared.verdict.What.TheVariants as Fails
use Rattle.audit_rules.specs.Agreement.{verdict_from}
use Rattle.audit_text.specs.Lines.{printed_in, is_entry}
use Rattle.run_audit.specs.Audits.{WillFit, verdict_behind}
use Rattle.run_audit.specs.Turns.{GoesOn}
use Rattle.run_audit.proofs.Behind.{none_differs}

-- some commands were carried out, and the verdict on the lines that are left, the first of which has this number, is this one
pub record HasReached (K : Scenario → List Command → Type 0) (rest : List ℕ) (number : ℕ) (scenario : Scenario) (verdict : Verdict) : Type 0 where
  pub commands : List Command
  pub stands : K scenario commands
  pub fits : WillFit rest scenario commands
  pub left : verdict_behind number rest scenario commands ≡ verdict

module _ (K : Scenario → List Command → Type 0) (rest : List ℕ) (number : ℕ) (scenario : Scenario) (verdict : Verdict) (so : HasReached K rest number scenario verdict) where
  -- there is room for one more
  pub has_room : HasRoom scenario so.commands
  has_room = let f = so.fits in omega (arith, f)

  -- one line further
  pub one_further : (New : Scenario → List Command → Type 0) (line : TextLine) (behind : List ℕ) → lines rest ≡ line ∷ lines behind → length behind < length rest → GoesOn New scenario so.commands number line (lines behind)
      → HasReached New behind (number + 1) scenario verdict
  one_further New line behind is shorter goes = record {
    commands = goes.command ∷ so.commands;
    stands = goes.stands;
    fits = (let f = so.fits in omega arith);
    left =
        ap (λ n. verdict_from printed_in is_entry scenario n (lines behind) (story_of scenario (goes.command ∷ so.commands))) (add-one number)
        ∙ (sym goes.verdict ∙ (ap (λ ls. verdict_from printed_in is_entry scenario number ls (story_of scenario so.commands)) (sym is) ∙ so.left));
  }

  -- no line is left
  pub none_left : lines rest ≡ [] → Differs number Fails.Form ≡ verdict
  none_left is = none_differs scenario number (story_of scenario so.commands) ∙ (ap (λ ls. verdict_from printed_in is_entry scenario number ls (story_of scenario so.commands)) (sym is) ∙ so.left)
