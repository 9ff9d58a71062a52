use Rattle.mdb_base.specs.declared.names.Engine.TheVariants.{Validation}
use Rattle.engine_laws.proofs.EachRule.{tickets_by}
use Rattle.engine_laws.proofs.validation.validation_orders_tickets.Goals as goal

pub returns : goal.returns
returns c = tickets_by Validation
