use Rattle.line_laws.proofs.RightLines.{lines_fit}
use Rattle.line_laws.proofs.right_lines_fit.Goals as goal

pub returns : goal.returns
returns c = lines_fit
