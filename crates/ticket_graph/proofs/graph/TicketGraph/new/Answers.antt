use Rattle.ticket_graph.proofs.Tables.{same_everywhere}
use Rattle.ticket_graph.proofs.graph.TicketGraph.new.Goals as goal

pub returns-clause-floor : goal.returns-clause-floor
returns-clause-floor c = λ site. same_everywhere 256 site.0 0
