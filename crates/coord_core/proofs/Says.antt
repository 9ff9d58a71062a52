-- A step that says what a line does.
use Rattle.std.proofs.Common.{◌≡◌, Result, Ok, Err, IfOk, List, sym, ap, ◌∙◌}
use Rattle.fed_rules.specs.declared.answers.Answer.{Answer}
use Rattle.fed_rules.specs.declared.messages.Sent.{Sent}
use Rattle.fed_rules.specs.declared.events.CoordStep.{CoordStep}
use Rattle.fed_rules.specs.CoordPast.{CoordHappening}
use Rattle.coord_core.specs.Steps.{Says}

pub says_as : (step : CoordStep) (x y : CoordHappening) → x ≡ y → step.answer ≡ y.answer → step.sends ≡ y.sends → Says step x
says_as step x y is said sends = record { answer = said ∙ ap (λ (h : CoordHappening). h.answer) (sym is); sends = sends ∙ ap (λ (h : CoordHappening). h.sends) (sym is) }

-- what follows for a step that was made
pub says_ok : {E : Type 0} (answer : Answer) (sends : List Sent) (Q : CoordStep → Type 0) (r : Result CoordStep E) → IfOk r (λ step. step.answer ≡ answer) → IfOk r (λ step. step.sends ≡ sends)
    → ((step : CoordStep) → step.answer ≡ answer → step.sends ≡ sends → Q step) → IfOk r Q
says_ok answer sends Q (Ok step) a s f = f step a s
says_ok answer sends Q (Err e) a s f = tt
