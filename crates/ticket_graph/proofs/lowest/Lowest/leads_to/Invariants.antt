use Rattle.std.proofs.Common.{◌≡◌, List, drop}
use Rattle.mdb_base.specs.declared.names.SiteTicket.{SiteTicket}
use Rattle.ticket_graph.specs.Reach.{are_before, IsLowest}
use Rattle.ticket_graph.proofs.lowest.Lowest.leads_to.Given as goal

-- the tickets that are left decide
abbrev pub invariant-loop-ticket : goal.invariant-loop-ticket
invariant-loop-ticket l = (met : List SiteTicket) → IsLowest l.self.at met → are_before met l.tickets ≡ are_before met (drop l.ticket-index l.tickets)
