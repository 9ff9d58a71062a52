use Rattle.scenario_text.proofs.UsualSteps.{says_add, says_get, says_set}
use Rattle.scenario_text.proofs.usual_steps.usual_act.Goals as goal

pub returns-in-Some : goal.returns-in-Some
returns-in-Some c = says_get c.in_ok-act.act c.args.text.now c.in-Some.behind.now c.in_ok-act.rest.now c.in-Some.ensures c.in_ok-act.ensures

pub returns-in-Some-behind_set : goal.returns-in-Some-behind_set
returns-in-Some-behind_set c =
    says_set c.in_ok-act-2.act c.args.text.now c.in-Some-behind_set.behind.now c.in_ok-act-2.rest.now c.in-Some-behind_set.ensures c.in_ok-act-2.ensures

pub returns-in-Some-behind_add : goal.returns-in-Some-behind_add
returns-in-Some-behind_add c =
    says_add c.in_ok-act-3.act c.args.text.now c.in-Some-behind_add.behind.now c.in_ok-act-3.rest.now c.in-Some-behind_add.ensures c.in_ok-act-3.ensures
