use Rattle.engine_laws.proofs.EachRule.{always_serial_committed, always_tickets_committed}
use Rattle.engine_laws.proofs.every_rule.each_site_commits_any_sealed.Goals as goal

pub returns-clause-serial : goal.returns-clause-serial
returns-clause-serial c = always_serial_committed

pub returns-clause-tickets : goal.returns-clause-tickets
returns-clause-tickets c = always_tickets_committed
