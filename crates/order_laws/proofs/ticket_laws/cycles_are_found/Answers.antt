use Rattle.order_laws.proofs.Tickets.{cycle_found, cycle_none}
use Rattle.order_laws.proofs.ticket_laws.cycles_are_found.Goals as goal

pub returns-clause-found : goal.returns-clause-found
returns-clause-found c = cycle_found

pub returns-clause-none : goal.returns-clause-none
returns-clause-none c = cycle_none
