use Rattle.std.proofs.Common.{refl}
use Rattle.local_dbms.specs.declared.asks.SiteAsk.TheVariants as At
use Rattle.local_dbms.proofs.Asking.{served_quiet}
use Rattle.local_dbms.proofs.dbms.LocalDbms.ask.Goals as goal

pub returns-in-Give-clause-quiet : goal.returns-in-Give-clause-quiet
returns-in-Give-clause-quiet g c = served_quiet _ _ c.args.ask (At.Give c.in-Give.message) c.in-Give.is c.give.result c.give.ensures.served c.requires.stood

pub returns-in-Begin-clause-quiet : goal.returns-in-Begin-clause-quiet
returns-in-Begin-clause-quiet g c = served_quiet _ _ c.args.ask (At.Begin c.in-Begin.tx) c.in-Begin.is c.begin.result c.begin.ensures.served c.requires.stood

pub returns-in-Step-clause-quiet : goal.returns-in-Step-clause-quiet
returns-in-Step-clause-quiet g c = served_quiet _ _ c.args.ask (At.Step c.in-Step.tx) c.in-Step.is c.step.result c.step.ensures.served c.requires.stood

pub returns-in-Commit-clause-quiet : goal.returns-in-Commit-clause-quiet
returns-in-Commit-clause-quiet g c = served_quiet _ _ c.args.ask (At.Commit c.in-Commit.tx) c.in-Commit.is c.commit.result c.commit.ensures.served c.requires.stood

pub returns-in-Abort-clause-quiet : goal.returns-in-Abort-clause-quiet
returns-in-Abort-clause-quiet g c = served_quiet _ _ c.args.ask (At.Abort c.in-Abort.tx) c.in-Abort.is c.abort.result c.abort.ensures.served c.requires.stood

pub returns-in-Fate-clause-quiet : goal.returns-in-Fate-clause-quiet
returns-in-Fate-clause-quiet g c = served_quiet _ _ c.args.ask (At.Fate c.in-Fate.tx) c.in-Fate.is c.fate.result c.fate.ensures.served c.requires.stood

pub returns-in-Ask-clause-quiet : goal.returns-in-Ask-clause-quiet
returns-in-Ask-clause-quiet g c = served_quiet _ _ c.args.ask c.args.ask refl c.operate.result c.operate.ensures.served c.requires.stood
