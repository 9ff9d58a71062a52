use Rattle.federation_laws.proofs.LaterRuns.{in_no_order}
use Rattle.federation_laws.proofs.program_laws.later_runs_stand_in_no_order.Goals as goal

pub returns : goal.returns
returns c = in_no_order c.later_runs_come_to_nothing.ensures.no_record
