use Rattle.scenario_text.proofs.UsualSteps.{step_at_home, step_there}
use Rattle.scenario_text.proofs.usual_steps.usual_step.Goals as goal

pub returns-in_ok-act-in-Some : goal.returns-in_ok-act-in-Some
returns-in_ok-act-in-Some c =
    rw c.in-Some.is (step_at_home c.args.sites.now c.in-Some.site c.in_ok-act-in-Some.act c.args.text.now c.in_ok-act-in-Some.rest.now c.in_ok-act-in-Some.ensures)

pub returns-in_ok-act-in-None : goal.returns-in_ok-act-in-None
returns-in_ok-act-in-None c =
    rw c.in-None.is
    (step_there c.args.sites.now c.in_ok-site-in-None.site c.in_ok-act-in-None.act c.args.text.now c.in_ok-site-in-None.behind.now c.in_ok-act-in-None.rest.now c.in_ok-site-in-None.ensures c.in_ok-act-in-None.ensures)
