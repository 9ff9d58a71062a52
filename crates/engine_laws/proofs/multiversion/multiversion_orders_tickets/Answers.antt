use Rattle.mdb_base.specs.declared.names.Engine.TheVariants.{Multiversion}
use Rattle.engine_laws.proofs.EachRule.{tickets_by}
use Rattle.engine_laws.proofs.multiversion.multiversion_orders_tickets.Goals as goal

pub returns : goal.returns
returns c = tickets_by Multiversion
