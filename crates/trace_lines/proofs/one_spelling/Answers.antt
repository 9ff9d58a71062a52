use Rattle.trace_lines.proofs.Spelled.{same_line}
use Rattle.trace_lines.proofs.one_spelling.Goals as goal

pub returns : goal.returns
returns c = same_line
