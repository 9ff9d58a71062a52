use Rattle.audit_laws.proofs.AtRest.{at_rest_means, at_rest_passes}
use Rattle.audit_laws.proofs.any_run.quiet_runs_rest.Goals as goal

pub returns : goal.returns
returns c = λ scenario commands. (at_rest_means scenario commands, at_rest_passes scenario commands)
