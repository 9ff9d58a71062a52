use Rattle.mdb_base.specs.declared.names.Engine.TheVariants.{Multiversion}
use Rattle.engine_laws.proofs.EachRule.{serial_by}
use Rattle.engine_laws.proofs.multiversion.multiversion_is_serial.Goals as goal

pub returns : goal.returns
returns c = serial_by Multiversion
