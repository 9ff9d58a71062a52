use Rattle.scenario_text.proofs.UsualSteps.{adds}
use Rattle.scenario_text.proofs.usual_steps.usual_add.Goals as goal

pub returns : goal.returns
returns c =
    rw c.from.ensures
    (adds c.in_ok-number.number c.in_ok-key.key c.in_ok-register.register c.in_ok-amount.amount c.args.text.now c.in_ok-number.behind.now c.in_ok-register.more.now c.in_ok-amount.rest.now
    c.in_ok-number.ensures c.in_ok-key.ensures.0 c.in_ok-key.ensures.1 c.in_ok-register.ensures c.if-register-gt31.false c.in_ok-amount.ensures)
