use Rattle.mdb_base.specs.declared.names.Engine.TheVariants.{Timestamp}
use Rattle.engine_laws.proofs.EachRule.{sound, in_order, placed}
use Rattle.engine_laws.proofs.Stops.{may_restart}
use Rattle.engine_laws.proofs.timestamp.timestamp_may_restart.Goals as goal

pub returns : goal.returns
returns c = may_restart Timestamp (sound Timestamp) (in_order Timestamp) (placed Timestamp)
