use Rattle.scenario_text.proofs.UsualSteps.{sets}
use Rattle.scenario_text.proofs.usual_steps.usual_set.Goals as goal

pub returns : goal.returns
returns c =
    rw c.from.ensures
    (sets c.in_ok-number.number c.in_ok-key.key c.in_ok-value.value c.args.text.now c.in_ok-number.behind.now c.in_ok-value.rest.now c.in_ok-number.ensures c.in_ok-key.ensures.0 c.in_ok-key.ensures.1 c.in_ok-value.ensures)
