use Rattle.std.proofs.Common.{◌<◌, vec_len}
use Rattle.federation_run.proofs.tasks.tasks_of.Given as goal

abbrev pub invariant-loop-site : goal.invariant-loop-site
invariant-loop-site l = 0 < vec_len l.tasks

abbrev pub invariant-loop-client : goal.invariant-loop-client
invariant-loop-client l = 0 < vec_len l.tasks
