use Rattle.std.proofs.Common.{◌≡◌, refl, sym, ◌∙◌}
use Rattle.fed_rules.specs.declared.answers.Answer.{Answer}
use Rattle.fed_rules.specs.declared.answers.Answer.TheVariants as Say
use Rattle.fed_rules.specs.Requests.{unless_begun}
use Rattle.global_manager.proofs.manager.GlobalManager.would_begin.Goals as goal
use Rattle.global_manager.proofs.manager.GlobalManager.would_begin.Goals.{in-Spent, in_default}

unless_same : (answer : Answer) → (unless_begun answer ≡ Say.Spent → ⊥) → unless_begun answer ≡ answer
unless_same (Say.Begun tid) not = absurd (not refl)
unless_same answer not = refl

pub returns : goal.returns
returns g c terms programs past r tid steps of =
    let said = c.spent.ensures terms programs past r tid steps of in
    elim c.match-matches.branch [
      | in-Spent w ↦ rw w.matches-is (sym said ∙ w.in-Spent.is)
      | in_default w ↦ rw w.matches-is (unless_same _ (λ e. w.in_default.not-Spent (said ∙ e)))
    ]
