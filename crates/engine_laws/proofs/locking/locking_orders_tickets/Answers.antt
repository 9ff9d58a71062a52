use Rattle.mdb_base.specs.declared.names.Engine.TheVariants.{Locking}
use Rattle.engine_laws.proofs.EachRule.{tickets_by}
use Rattle.engine_laws.proofs.locking.locking_orders_tickets.Goals as goal

pub returns : goal.returns
returns c = tickets_by Locking
