use Rattle.trace_lines.proofs.Determined.{same_text}
use Rattle.trace_lines.proofs.one_text.Goals as goal

pub returns : goal.returns
returns c = same_text
