use Rattle.trace_merge.proofs.Places.{list_splits}
use Rattle.trace_merge.proofs.laws.each_list_splits.Goals as goal

pub returns : goal.returns
returns c = list_splits
