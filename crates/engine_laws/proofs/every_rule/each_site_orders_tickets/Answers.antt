use Rattle.engine_laws.proofs.EachRule.{always_tickets}
use Rattle.engine_laws.proofs.every_rule.each_site_orders_tickets.Goals as goal

pub returns : goal.returns
returns c = always_tickets
