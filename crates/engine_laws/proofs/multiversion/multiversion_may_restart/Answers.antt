use Rattle.mdb_base.specs.declared.names.Engine.TheVariants.{Multiversion}
use Rattle.engine_laws.proofs.EachRule.{sound, in_order, placed}
use Rattle.engine_laws.proofs.Stops.{may_restart}
use Rattle.engine_laws.proofs.multiversion.multiversion_may_restart.Goals as goal

pub returns : goal.returns
returns c = may_restart Multiversion (sound Multiversion) (in_order Multiversion) (placed Multiversion)
