use Rattle.coord_laws.proofs.Past.{begin_once, begin_in_order}
use Rattle.coord_laws.proofs.attempts.attempts_begin_in_order.Goals as goal

pub returns-clause-once : goal.returns-clause-once
returns-clause-once c = begin_once

pub returns-clause-in_order : goal.returns-clause-in_order
returns-clause-in_order c = begin_in_order
