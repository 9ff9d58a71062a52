use Rattle.mdb_base.specs.declared.names.Engine.TheVariants.{Timestamp}
use Rattle.engine_laws.proofs.EachRule.{serial_by}
use Rattle.engine_laws.proofs.timestamp.timestamp_is_serial.Goals as goal

pub returns : goal.returns
returns c = serial_by Timestamp
