use Rattle.order_laws.proofs.Tickets.{cycle_accepted}
use Rattle.order_laws.proofs.ticket_laws.graph_stays_cycle_free.Goals as goal

pub returns : goal.returns
returns c = cycle_accepted
