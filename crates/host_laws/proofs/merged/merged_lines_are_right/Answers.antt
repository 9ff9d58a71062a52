use Rattle.host_laws.proofs.Stories.{merged_are_right}
use Rattle.host_laws.proofs.merged.merged_lines_are_right.Goals as goal

pub returns : goal.returns
returns c = merged_are_right
