use Rattle.std.proofs.Common.{arith}
use Rattle.federation_run.proofs.tasks.tasks_of.Goals as goal

pub loop-site-init : goal.loop-site-init
loop-site-init c = (let more = c.in_ok-push.ensures.len in omega (arith, more))

pub loop-site-preserved : goal.loop-site-preserved
loop-site-preserved c = (let more = c.in_ok-push-2.ensures.len in omega (arith, more))

pub loop-client-preserved : goal.loop-client-preserved
loop-client-preserved c = (let more = c.in_ok-push-3.ensures.len in omega (arith, more))
