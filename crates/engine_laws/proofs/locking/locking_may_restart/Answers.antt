use Rattle.mdb_base.specs.declared.names.Engine.TheVariants.{Locking}
use Rattle.engine_laws.proofs.EachRule.{sound, in_order, placed}
use Rattle.engine_laws.proofs.Stops.{may_restart}
use Rattle.engine_laws.proofs.locking.locking_may_restart.Goals as goal

pub returns : goal.returns
returns c = may_restart Locking (sound Locking) (in_order Locking) (placed Locking)
