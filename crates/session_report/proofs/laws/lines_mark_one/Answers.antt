use Rattle.session_report.proofs.LineMarks.{lines_mark_one}
use Rattle.session_report.proofs.laws.lines_mark_one.Goals as goal

pub returns : goal.returns
returns c = lines_mark_one
