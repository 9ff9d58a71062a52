use Rattle.trace_merge.proofs.Places.{earlier_before}
use Rattle.trace_merge.proofs.laws.earlier_lines_stand_before.Goals as goal

pub returns : goal.returns
returns c = earlier_before
