use Rattle.mdb_base.specs.declared.names.Engine.TheVariants.{Locking}
use Rattle.engine_laws.proofs.EachRule.{serial_by}
use Rattle.engine_laws.proofs.locking.locking_is_serial.Goals as goal

pub returns : goal.returns
returns c = serial_by Locking
