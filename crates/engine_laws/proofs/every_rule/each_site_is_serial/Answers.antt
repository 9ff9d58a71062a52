use Rattle.engine_laws.proofs.EachRule.{always_serial}
use Rattle.engine_laws.proofs.every_rule.each_site_is_serial.Goals as goal

pub returns : goal.returns
returns c = always_serial
