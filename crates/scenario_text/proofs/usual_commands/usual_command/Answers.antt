use Rattle.scenario_text.proofs.UsualLemmas.{says_begin, says_commit, says_fate, says_give, says_go, says_step, says_take}
use Rattle.scenario_text.proofs.usual_commands.usual_command.Goals as goal

pub returns-in-Some : goal.returns-in-Some
returns-in-Some c = says_take c.args.sites.now c.args.text.now c.in-Some.behind.now c.in_ok-site.rest.now c.in_ok-site.site c.in_ok-site.place c.in-Some.ensures c.in_ok-site.ensures

pub returns-in-Some-behind_give : goal.returns-in-Some-behind_give
returns-in-Some-behind_give c =
    says_give c.args.sites.now c.args.text.now c.in-Some-behind_give.behind.now c.in_ok-site-2.rest.now c.in_ok-site-2.site c.in_ok-site-2.place c.in-Some-behind_give.ensures c.in_ok-site-2.ensures

pub returns-in-Some-behind_step : goal.returns-in-Some-behind_step
returns-in-Some-behind_step c = says_step c.args.sites.now c.args.text.now c.in-Some-behind_step.behind.now c.in_ok-tx.rest.now c.in_ok-tx.tx c.in-Some-behind_step.ensures c.in_ok-tx.ensures

pub returns-in-Some-behind_fate : goal.returns-in-Some-behind_fate
returns-in-Some-behind_fate c = says_fate c.args.sites.now c.args.text.now c.in-Some-behind_fate.behind.now c.in_ok-tx-2.rest.now c.in_ok-tx-2.tx c.in-Some-behind_fate.ensures c.in_ok-tx-2.ensures

pub returns-in-Some-behind_go : goal.returns-in-Some-behind_go
returns-in-Some-behind_go c = says_go c.args.sites.now c.args.text.now c.in-Some-behind_go.behind.now c.in_ok-tx-3.rest.now c.in_ok-tx-3.tx c.in-Some-behind_go.ensures c.in_ok-tx-3.ensures

pub returns-in-Some-behind_begin : goal.returns-in-Some-behind_begin
returns-in-Some-behind_begin c = says_begin c.args.sites.now c.args.text.now c.in-Some-behind_begin.behind.now c.in_ok-tx-4.rest.now c.in_ok-tx-4.tx c.in-Some-behind_begin.ensures c.in_ok-tx-4.ensures

pub returns-in-Some-behind_commit : goal.returns-in-Some-behind_commit
returns-in-Some-behind_commit c = says_commit c.args.sites.now c.args.text.now c.in-Some-behind_commit.behind.now c.in_ok-tx-5.rest.now c.in_ok-tx-5.tx c.in-Some-behind_commit.ensures c.in_ok-tx-5.ensures
