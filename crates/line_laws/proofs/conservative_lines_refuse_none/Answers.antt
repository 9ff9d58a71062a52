use Rattle.line_laws.proofs.Unrefused.{lines_unrefused, nexts_unrefused}
use Rattle.line_laws.proofs.conservative_lines_refuse_none.Goals as goal

pub returns-clause-next : goal.returns-clause-next
returns-clause-next c = nexts_unrefused c.conservative_tickets_close_no_cycle.ensures

pub returns-clause-all : goal.returns-clause-all
returns-clause-all c = lines_unrefused c.conservative_tickets_close_no_cycle.ensures
