use Rattle.line_laws.proofs.ResumedLines.{lines_fit, nexts_fit}
use Rattle.line_laws.proofs.resumed_lines_fit.Goals as goal

pub returns-clause-next : goal.returns-clause-next
returns-clause-next c = nexts_fit

pub returns-clause-all : goal.returns-clause-all
returns-clause-all c = lines_fit
