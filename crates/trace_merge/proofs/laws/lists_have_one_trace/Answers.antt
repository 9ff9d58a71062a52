use Rattle.trace_merge.proofs.OneTrace.{one_trace}
use Rattle.trace_merge.proofs.laws.lists_have_one_trace.Goals as goal

pub returns : goal.returns
returns c = one_trace
