use Rattle.engine_laws.proofs.EachRule.{always_may_restart}
use Rattle.engine_laws.proofs.every_rule.each_site_may_restart.Goals as goal

pub returns : goal.returns
returns c = always_may_restart
