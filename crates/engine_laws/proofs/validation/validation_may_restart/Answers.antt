use Rattle.mdb_base.specs.declared.names.Engine.TheVariants.{Validation}
use Rattle.engine_laws.proofs.EachRule.{sound, in_order, placed}
use Rattle.engine_laws.proofs.Stops.{may_restart}
use Rattle.engine_laws.proofs.validation.validation_may_restart.Goals as goal

pub returns : goal.returns
returns c = may_restart Validation (sound Validation) (in_order Validation) (placed Validation)
