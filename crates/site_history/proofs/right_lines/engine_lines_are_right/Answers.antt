use Rattle.site_history.proofs.RightLines.{lines_right}
use Rattle.site_history.proofs.right_lines.engine_lines_are_right.Goals as goal

pub returns : goal.returns
returns c = lines_right
