use Rattle.scenario_text.proofs.UsualSteps.{gets}
use Rattle.scenario_text.proofs.usual_steps.usual_get.Goals as goal

pub returns : goal.returns
returns c = gets c.in_ok-number.number c.in_ok-key.key c.args.text.now c.in_ok-number.rest.now c.in_ok-number.ensures c.in_ok-key.ensures.0 c.in_ok-key.ensures.1
